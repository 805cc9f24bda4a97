-- What `Follows` says of the order names one list, and so one table.
-- Assumes nothing.
use mathlib.Core.Path.{◌≡◌, refl, sym, ap, ap₂, ◌∙◌}
use mathlib.Core.Bool.{Bool, true, false, cond, ◌&&◌, ◌||◌, or-true}
use mathlib.Core.Logic.{◌↔◌, ⊎_elim}
use mathlib.Core.List.Memᴰ
use mathlib.Core.List.{List, [], ◌∷◌, Memᴰ}
use Prim.Native.Nat.{ℕ, ◌<◌}
use native.Mathlib.Omega.{arith}
use lib.Dec.{eqb}
use lib.ListN.{length}
use Rattle.fields.proofs.Cases.{case_b}
use Rattle.std.specs.declared.cmp.Ordering.TheVariants.{Less}
use Rattle.records.specs.Dense.{All}
use Rattle.records.specs.Sorted.{itself, compare_numbers, Ascends}
use Rattle.records.proofs.Sorted.{less_numbers, numbers_order, rest_behind}
use Rattle.table.specs.Table.{table_of}
use Rattle.store.specs.Order.{replay_order}
use Rattle.store.specs.Replay.{Replaying}
use Rattle.store.proofs.Committed.{order_exactly, order_ascends}
use Rattle.payload.specs.Kind.{commit_kind, abort_kind}
use Rattle.lists.specs.Markers.{or_else, last_marker}
use Rattle.lists.specs.declared.transactions.RecoveryAction.TheVariants.{Incomplete, Commit, Rollback}
use Rattle.lists.specs.declared.entries.EntryRecord.{EntryRecord}
use Rattle.crash.specs.Request.{Written}
use Rattle.crash.specs.Kept.{listed_as, listed_all}
use Rattle.crash.specs.Life.{Held}
use Rattle.crash.specs.Settings.{run_numbers, is_commit, is_marker, has_marker, is_committed}
use Rattle.crash.specs.Crash.{Lent, replaying, Ascending, Follows}

-- ---- replay's order ascends

all_below : (n : ℕ) (ns : List ℕ) → All (λ (m : ℕ). compare_numbers n m ≡ Less) ns → All (λ (m : ℕ). n < m) ns
all_below n [] hs = tt
all_below n (m ∷ ns) hs = (less_numbers n m hs.0, all_below n ns hs.1)

ascending : (ns : List ℕ) → Ascends compare_numbers itself ns → Ascending ns
ascending [] a = tt
ascending (n ∷ ns) a =
    (all_below n ns (rest_behind compare_numbers numbers_order itself n n ns refl a), ascending ns a.1)

pub order_ascending : (es : List EntryRecord) → Ascending (replay_order es)
order_ascending es = ascending (replay_order es) (order_ascends es)

-- ---- and has the numbers whose last marker is a commit

-- what a number's entries say, by their kinds
marker_says : (number : ℕ) (ws : List Written) → last_marker number (listed_all ws) ≡ cond (has_marker number ws) (cond (is_committed number ws) Commit Rollback) Incomplete
unfolding last_marker has_marker is_committed listed_as
marker_says number [] = refl
marker_says number (w ∷ ws) =
    rw (marker_says number ws)
    (told (eqb w.request.tx number) (eqb w.request.kind commit_kind) (eqb w.request.kind abort_kind) (has_marker number ws) (is_committed number ws))
  where
    told : (mine commits aborts later committed : Bool) → or_else (cond later (cond committed Commit Rollback) Incomplete) (cond mine (cond commits Commit (cond aborts Rollback Incomplete)) Incomplete) ≡ cond (((mine && commits) || (mine && aborts)) || later) (cond (cond later committed (mine && commits)) Commit Rollback) Incomplete
    told mine commits aborts true true = rw (or-true ((mine && commits) || (mine && aborts)))
    told mine commits aborts true false = rw (or-true ((mine && commits) || (mine && aborts)))
    told true true aborts false committed = refl
    told true false true false committed = refl
    told true false false false committed = refl
    told false commits aborts false committed = refl

-- a committed number has a marker
committed_marker : (number : ℕ) (ws : List Written) → is_committed number ws ≡ true → has_marker number ws ≡ true
unfolding has_marker is_committed
committed_marker number [] e = let z : ◌≡◌ {A = ℕ} 0 1 = cc in absurd (omega arith)
committed_marker number (w ∷ ws) e =
    case_b (has_marker number ws)
    (λ q. rw (q, or-true (is_marker number w)))
    (λ q. let f : is_commit number w ≡ true = rw q at e in rw f)

marker_commit : (number : ℕ) (ws : List Written) → (last_marker number (listed_all ws) ≡ Commit) ↔ (is_committed number ws ≡ true)
marker_commit number ws = (
  λ e. told (has_marker number ws) (is_committed number ws) (sym (marker_says number ws) ∙ e),
  λ e. marker_says number ws ∙ rw (committed_marker number ws e, e),
)
  where
    told : (has committed : Bool) → cond has (cond committed Commit Rollback) Incomplete ≡ Commit → committed ≡ true
    told true true e = refl
    told true false e = let z : ◌≡◌ {A = ℕ} 0 1 = cc in absurd (omega arith)
    told false committed e = let z : ◌≡◌ {A = ℕ} 0 1 = cc in absurd (omega arith)

pub order_committed : (number : ℕ) (ws : List Written) → Memᴰ number (replay_order (listed_all ws)) ↔ (is_committed number ws ≡ true)
order_committed number ws =
    let o = order_exactly number (listed_all ws) in
    let m = marker_commit number ws in
    (λ i. m.0 (o.0 i), λ e. o.1 (m.1 e))

-- ---- lists that ascend and have the same numbers

below : (n m : ℕ) (ns : List ℕ) → All (λ (k : ℕ). n < k) ns → Memᴰ m ns → n < m
below n m [] hs i = absurd (Memᴰ.not-nil i)
below n m (k ∷ ns) hs i = ⊎_elim (λ e. rw e hs.0) (λ j. below n m ns hs.1 j) (Memᴰ.cases_cons i)

abbrev Within : List ℕ → List ℕ → Type 0
Within ms ns = (n : ℕ) → Memᴰ n ms → Memᴰ n ns

-- the first of the one isn't above the first of the other
first_not_above : (m n : ℕ) (ms ns : List ℕ) → Ascending (n ∷ ns) → Within (m ∷ ms) (n ∷ ns) → (m < n → ⊥)
first_not_above m n ms ns a w h =
    ⊎_elim (λ e. omega (arith, e)) (λ i. omega (arith, below n m ns a.0 i)) (Memᴰ.cases_cons (w m (Memᴰ.head refl)))

first_same : (m n : ℕ) → (m < n → ⊥) → (n < m → ⊥) → m ≡ n
first_same m n f g = omega (arith, f, g)

rest_within : (m n : ℕ) (ms ns : List ℕ) → m ≡ n → Ascending (m ∷ ms) → Within (m ∷ ms) (n ∷ ns) → Within ms ns
rest_within m n ms ns e a w k i =
    ⊎_elim (λ f. absurd (omega (arith, below m k ms a.0 i, e, f))) (λ j. j) (Memᴰ.cases_cons (w k (Memᴰ.tail i)))

same_order : (ms ns : List ℕ) → Ascending ms → Ascending ns → Within ms ns → Within ns ms → ms ≡ ns
same_order [] [] a b v w = refl
same_order [] (n ∷ ns) a b v w = absurd (Memᴰ.not-nil (w n (Memᴰ.head refl)))
same_order (m ∷ ms) [] a b v w = absurd (Memᴰ.not-nil (v m (Memᴰ.head refl)))
same_order (m ∷ ms) (n ∷ ns) a b v w =
    let e = first_same m n (first_not_above m n ms ns b v) (first_not_above n m ns ms a w) in
    ap₂ (λ (k : ℕ) (ks : List ℕ). k ∷ ks) e
    (same_order ms ns a.1 b.1 (rest_within m n ms ns e a v) (rest_within n m ns ms (sym e) b w))

-- ---- the order of what follows

module _ (h : Held) (kept : List Written) (partial : ℕ) (lent : Lent) (f : Follows h kept partial lent) where
  order_is : f.order ≡ replay_order (listed_all kept)
  order_is =
      let es = listed_all kept in
      same_order f.order (replay_order es) f.ascending (order_ascending es)
      (λ n i. (order_committed n kept).1 ((f.committed n).0 i))
      (λ n i. (f.committed n).1 ((order_committed n kept).0 i))

  -- the table is told by the entries
  pub table_is : (replaying h lent).table ≡ table_of (length lent.table) (run_numbers (replay_order (listed_all kept)) kept [])
  table_is =
      ap (λ (r : Replaying). r.table) f.replay
      ∙ ap (λ ns. table_of (length lent.table) (run_numbers ns kept [])) order_is

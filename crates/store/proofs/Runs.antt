-- The laws of a run: a run in two parts, what its rows are, and what it leaves of a key.
-- Assumes nothing.
use mathlib.Core.Path.{◌≡◌, refl}
use mathlib.Core.Bool.{Bool, true, false, cond}
use mathlib.Core.List.{List, [], ◌∷◌, ◌++◌}
use mathlib.Core.Option.{none, some}
use Prim.Native.Nat.{ℕ, ◌*◌, ◌/◌}
use native.Mathlib.Omega.{arith}
use lib.Dec.{leb}
use lib.ListN.{length}
use Rattle.fields.specs.Order.{same_bytes}
use Rattle.fields.proofs.Cases.{case_b}
use Rattle.fields.proofs.Ordered.{same_true, same_self}
use Rattle.refusal.specs.Answer.{Answer, refused, accepted, and_then}
use Rattle.refusal.proofs.Answers.{never_both, same_values, then_says}
use Rattle.lists.specs.declared.entries.EntryRecord.{EntryRecord}
use Rattle.table.specs.Row.{Row, row_of, fits}
use Rattle.table.specs.Table.{Sorted, set, remove_key, lookup, set_in, Held}
use Rattle.table.proofs.Lookups.{lookup_set, lookup_set_other, lookup_remove, lookup_remove_other}
use Rattle.table.proofs.Tables.{none_held}
use Rattle.store.specs.Change.{changed_by, run_of}
use Rattle.store.specs.Effect.{Effect, puts, drops, keeps, effect_in}
use Rattle.store.specs.Left.{left_by, left_of}
use Rattle.store.proofs.Applies.{change_held}

-- ---- one after the other

then_same : (r : Answer (List Row)) (f g h : List Row → Answer (List Row)) → ((rs : List Row) → f rs ≡ and_then (g rs) h) → and_then r f ≡ and_then (and_then r g) h
then_same (refused number) f g h e = refl
then_same (accepted rs) f g h e = e rs

module _ (records : ℕ) (area : List ℕ) where
  pub run_append : (xs ys : List EntryRecord) (rs : List Row) → run_of records area (xs ++ ys) rs ≡ and_then (run_of records area xs rs) (run_of records area ys)
  unfolding run_of
  run_append [] ys rs = refl
  run_append (x ∷ xs) ys rs = then_same (changed_by records (effect_in area x) rs) _ _ _ (run_append xs ys)

-- ---- the rows of a run

-- what the table holds may be held again
pub run_held : (room : ℕ) (area : List ℕ) (es : List EntryRecord) (rs new : List Row) → Held room rs → run_of (room / 320) area es rs ≡ accepted new → Held room new
unfolding run_of
run_held room area [] rs new h e = let f : rs ≡ new = same_values e in rw (← f) h
run_held room area (x ∷ xs) rs new h e =
    let b = then_says (changed_by (room / 320) (effect_in area x) rs) (run_of (room / 320) area xs) new e in
    run_held room area xs b.values new (change_held room rs h (effect_in area x) b.values b.first) b.second

-- from an empty table: sorted, each fits its record, and there are no more than records
pub run_sorted : (records : ℕ) (area : List ℕ) (es : List EntryRecord) (new : List Row) → run_of records area es [] ≡ accepted new → Held (320 * records) new
run_sorted records area es new e =
    let n : 320 * records / 320 ≡ records = omega arith in
    run_held (320 * records) area es [] new (none_held (320 * records)) (rw n e)

-- ---- a key after a run

set_rows : (records : ℕ) (row : Row) (rs new : List Row) → set_in records row rs ≡ accepted new → set row rs ≡ new
unfolding set_in
set_rows records row rs new e = told (fits row) (leb (length (set row rs)) records) e
  where
    told : (f l : Bool) → cond f (cond l (accepted (set row rs)) (refused 9)) (refused 8) ≡ accepted new → set row rs ≡ new
    told true true e = same_values e
    told true false e = never_both e
    told false l e = never_both e

module _ (key : List ℕ) (rs : List Row) (sorted : Sorted rs) where
  -- another key than one that is not the same
  apart : (k : List ℕ) → same_bytes k key ≡ false → key ≡ k → ⊥
  apart k q e = let z = rw (← e, same_self key) at q in let y : ◌≡◌ {A = ℕ} 0 1 = cc in omega arith

  pub set_left : (k value : List ℕ) → lookup key (set (row_of k value) rs) ≡ cond (same_bytes k key) (some value) (lookup key rs)
  set_left k value =
      case_b (same_bytes k key)
      (λ q. rw (q, ← same_true k key q) (lookup_set (row_of k value) rs))
      (λ q. rw q (lookup_set_other (row_of k value) key (apart k q) rs))

  pub remove_left : (k : List ℕ) → lookup key (remove_key k rs) ≡ cond (same_bytes k key) none (lookup key rs)
  remove_left k =
      case_b (same_bytes k key)
      (λ q. rw (q, ← same_true k key q) (lookup_remove k rs sorted))
      (λ q. rw q (lookup_remove_other k key (apart k q) rs sorted))

  change_left : (records : ℕ) (x : Effect) (new : List Row) → changed_by records x rs ≡ accepted new → lookup key new ≡ left_by key x (lookup key rs)
  unfolding changed_by left_by
  change_left records (puts k value) new e = rw (← set_rows records (row_of k value) rs new e) (set_left k value)
  change_left records (drops k) new e = let f : remove_key k rs ≡ new = same_values e in rw (← f) (remove_left k)
  change_left records keeps new e = let f : rs ≡ new = same_values e in rw f

-- a key's value is what the last entry of the run that names it left
pub run_left : (room : ℕ) (key area : List ℕ) (es : List EntryRecord) (rs new : List Row) → Held room rs → run_of (room / 320) area es rs ≡ accepted new → lookup key new ≡ left_of key area es (lookup key rs)
unfolding run_of left_of
run_left room key area [] rs new h e = let f : rs ≡ new = same_values e in rw f
run_left room key area (x ∷ xs) rs new h e =
    let b = then_says (changed_by (room / 320) (effect_in area x) rs) (run_of (room / 320) area xs) new e in
    rw (← change_left key rs h.sorted (room / 320) (effect_in area x) b.values b.first)
    (run_left room key area xs b.values new (change_held room rs h (effect_in area x) b.values b.first) b.second)

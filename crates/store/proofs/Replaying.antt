-- The transactions applied one after the other: the invariant of the loop, and its turns.
-- Assumes nothing.
use mathlib.Core.Path.{◌≡◌, refl, sym, ap, ◌∙◌}
use mathlib.Core.List.{List, []}
use Prim.Native.Nat.{ℕ, ◌+◌, ◌-◌, ◌/◌, ◌<◌, ◌≤◌}
use native.Mathlib.Omega.{arith}
use lib.ListN.{length, replicate}
use Rattle.records.specs.Dense.{records_of}
use Rattle.chains.specs.Chain.{entries_of}
use Rattle.refusal.specs.Answer.{Answer, accepted, and_then}
use Rattle.lists.specs.declared.transactions.RecoveryAction.TheVariants.{Commit}
use Rattle.table.specs.Row.{Row}
use Rattle.table.specs.Table.{Held}
use Rattle.std.specs.declared.result.Result.{Result}
use Rattle.std.specs.declared.result.Result.TheVariants.{Ok, Err}
use Rattle.refusal.specs.declared.Refusal.{Refusal}
use Rattle.store.specs.Order.{entries_in_turn, replayed}
use Rattle.store.specs.Change.{run_of}
use Rattle.store.specs.Running.{entries_in, rows_in, Linked, Tabled, ran_to, ran_in}
use Rattle.store.proofs.Runs.{run_append, run_held}
use Rattle.store.proofs.Orders.{transaction_in, order_from, order_passes, order_turn, order_end, order_start}
use Rattle.store.proofs.Tabling.{none_tabled, rows_ran, went, stopped}

-- what is left of the order, applied to the rows as they stand, comes to the whole applied to no rows
pub record Replaying (area entries transactions table₀ : List ℕ) (k : ℕ) (table : List ℕ) (n : ℕ) : Type 0 where
  pub same : run_of (length table₀ / 320) area (entries_in_turn (order_from k transactions) (entries_in entries)) (rows_in n table) ≡ run_of (length table₀ / 320) area (replayed (entries_in entries)) []
  pub tabled : Tabled table n
  pub room : length table ≡ length table₀

pub replaying_starts : (area entries transactions : List ℕ) → Linked area entries transactions → (table : List ℕ) → table ≡ replicate (length table) 0 → Replaying area entries transactions table 0 table 0
unfolding records_of replayed
replaying_starts area entries transactions l table z =
    let order = order_start area entries transactions l in
    record { same = rw order; tabled = none_tabled table z; room = refl }

-- one that is not committed
pub replaying_passes : (area entries transactions table₀ : List ℕ) (k : ℕ) (table : List ℕ) (n : ℕ) → k < length transactions / 24 → Replaying area entries transactions table₀ k table n → ((transaction_in transactions k).action ≡ Commit → ⊥) → Replaying area entries transactions table₀ (k + 1) table n
replaying_passes area entries transactions table₀ k table n inside w o =
    record { same = rw (order_passes transactions k inside o) at w.same; tabled = w.tabled; room = w.room }

module _ (area entries transactions table₀ : List ℕ) (k : ℕ) (table : List ℕ) (n : ℕ) (inside : k < length transactions / 24) (w : Replaying area entries transactions table₀ k table n) (committed : (transaction_in transactions k).action ≡ Commit) where
  abbrev turn : Answer (List Row)
  turn = run_of (length table₀ / 320) area (entries_of (transaction_in transactions k).tx_id (entries_in entries)) (rows_in n table)

  abbrev rest : List Row → Answer (List Row)
  rest = run_of (length table₀ / 320) area (entries_in_turn (order_from (k + 1) transactions) (entries_in entries))

  runs : run_of (length table₀ / 320) area (entries_in_turn (order_from k transactions) (entries_in entries)) (rows_in n table) ≡ and_then turn rest
  unfolding entries_in_turn
  runs = rw (order_turn transactions k inside committed) (run_append (length table₀ / 320) area _ _ (rows_in n table))

  turn_held : (new : List Row) → turn ≡ accepted new → Held (length table₀) new
  turn_held new q = run_held (length table₀) area _ (rows_in n table) new (rw w.room at w.tabled.held) q

  module _ (r : Result ℕ Refusal) (t : List ℕ) (a : ran_to r t ≡ ran_in (length table) (run_of (length table / 320) area (entries_of (transaction_in transactions k).tx_id (entries_in entries)) (rows_in n table))) where
    ran_turn : ran_to r t ≡ ran_in (length table₀) turn
    ran_turn = rw w.room at a

    pub replaying_goes : (m : ℕ) → r ≡ Ok m → Replaying area entries transactions table₀ (k + 1) t m
    replaying_goes m q =
        let g = went (length table₀) turn turn_held r m t q ran_turn in
        record { same = rw g.rows_are at (sym runs) ∙ w.same; tabled = g.tabled; room = g.room_is }

    pub replaying_stops : (refusal : Refusal) → r ≡ Err refusal → ran_to (Err refusal) t ≡ ran_in (length table₀) (run_of (length table₀ / 320) area (replayed (entries_in entries)) [])
    replaying_stops refusal q =
        stopped (length table₀) turn rest refusal t (rw q at ran_turn) ∙ ap (ran_in (length table₀)) (sym runs ∙ w.same)

pub replaying_ends : (area entries transactions table₀ : List ℕ) (k : ℕ) (table : List ℕ) (n : ℕ) → length transactions / 24 ≤ k → Replaying area entries transactions table₀ k table n → ran_to (Ok n) table ≡ ran_in (length table₀) (run_of (length table₀ / 320) area (replayed (entries_in entries)) [])
unfolding entries_in_turn run_of
replaying_ends area entries transactions table₀ k table n h w =
    rows_ran (length table₀) table n w.tabled w.room
    ∙ ap (ran_in (length table₀)) (rw (order_end transactions k h) at w.same)

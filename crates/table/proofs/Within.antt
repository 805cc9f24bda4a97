-- Where a key may be found in a table's bytes.
-- Assumes nothing.
use mathlib.Core.Path.{◌≡◌}
use mathlib.Core.List.{List}
use Prim.Native.Nat.{ℕ, ◌<◌, ◌≤◌}
use Rattle.std.specs.declared.result.Result.TheVariants.{Ok, Err}
use Rattle.records.proofs.Halving.{halve_within_at, halve_within_gap}
use Rattle.table.specs.Change.{order_in, used_in, found_of}

-- what is found stands among the used records, or behind them
pub found_at : (s : List ℕ) (n : ℕ) (key : List ℕ) (k : ℕ) → found_of s n key ≡ Ok k → k < used_in s n
unfolding found_of
found_at s n key k e = halve_within_at (order_in s key) (used_in s n) k e

pub found_gap : (s : List ℕ) (n : ℕ) (key : List ℕ) (k : ℕ) → found_of s n key ≡ Err k → k ≤ used_in s n
unfolding found_of
found_gap s n key k e = halve_within_gap (order_in s key) (used_in s n) k e

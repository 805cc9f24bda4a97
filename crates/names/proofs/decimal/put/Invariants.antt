-- `names::decimal::put` meets its contract. The invariant: the digits that are left, stored in the list as it stands, are all of them stored in the list at entry.
-- Assumes nothing.
use mathlib.Core.Path.{◌≡◌}
use lib.Seq.{sets}
use Rattle.names.specs.Decimal.{low_digits}
use Rattle.names.proofs.decimal.put.Given as goal

abbrev pub invariant-loop-i : goal.invariant-loop-i
invariant-loop-i l = sets l.target l.at (low_digits l.i l.rest) ≡ sets l.initial.target l.at (low_digits l.n l.id)

-- `names::decimal::put` meets its contract. The invariant: the digits that are left, stored in the list as it stands, are all of them stored in the list at entry.
-- Assumes nothing.
use mathlib.Core.Path.{◌≡◌, ◌∙◌}
use Rattle.names.specs.Decimal.{low_digits}
use Rattle.names.proofs.Digits.{put_turn}
use native.Mathlib.Omega.{arith}
use Rattle.names.proofs.decimal.put.Goals as goal

pub loop-i-preserved : goal.loop-i-preserved
loop-i-preserved c = put_turn _ _ _ _ (omega arith) ∙ c.loop-i.invariant

pub returns : goal.returns
unfolding low_digits
returns c =
    let e : c.loop-i.i ≡ 0 = omega arith in
    rw e at c.loop-i.invariant

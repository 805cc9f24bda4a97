-- `names::decimal::width` meets its contract.
-- Assumes nothing.
use native.Mathlib.Omega.{arith}
use Rattle.names.specs.Decimal.{digits_of}
use Rattle.names.proofs.Digits.{length-padded}
use Rattle.names.proofs.decimal.width.Goals as goal

pub returns : goal.returns
returns c = omega (arith, length-padded 8 (digits_of c.args.id))

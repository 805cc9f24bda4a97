-- `names::decimal::count` meets its contract, by the powers of ten that the logarithm lies between.
-- Assumes nothing.
use mathlib.Core.Path.{sym}
use Rattle.names.proofs.Digits.{digits_count}
use Rattle.names.proofs.decimal.count.Goals as goal

pub returns : goal.returns
returns c =
    sym (digits_count _ c.args.id c.max.result c.max.ensures c.ilog10.ensures.power_le c.ilog10.ensures.next_power_gt)

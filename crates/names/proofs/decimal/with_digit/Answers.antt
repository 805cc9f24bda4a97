-- `names::decimal::with_digit` meets its contract.
-- Assumes nothing.
use mathlib.Core.Path.{sym, ◌∙◌}
use Rattle.names.proofs.Numerals.{no_digit, no_room, digit_says}
use Rattle.names.proofs.decimal.with_digit.Goals as goal

pub returns-then-not-is_ascii_digit : goal.returns-then-not-is_ascii_digit
returns-then-not-is_ascii_digit c = no_digit c.args.v c.args.byte (sym c.if-not-is_ascii_digit.ensures.value)

pub returns-in_err-checked_mul : goal.returns-in_err-checked_mul
returns-in_err-checked_mul c = c.from_residual.ensures ∙ no_room c.args.v c.args.byte c.in_err-checked_mul.ensures

pub returns : goal.returns
returns c =
    digit_says c.args.v c.args.byte c.checked_add.result c.in_ok-checked_mul.field-0 c.from.result (sym c.if-not-is_ascii_digit.ensures.value) c.in_ok-checked_mul.ensures.1 c.from.ensures c.checked_add.ensures

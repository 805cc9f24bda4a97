-- `update` meets its contract: a key and two parts, one behind the other, or it is refused.
-- Assumes nothing.
use mathlib.Core.Path.{sym, ◌∙◌}
use native.Mathlib.Omega.{arith}
use Rattle.entry.specs.Decode.{update_at}
use Rattle.entry.proofs.Places.{part_within, pair_within}
use Rattle.entry.proofs.decoding.update.Goals as goal

pub returns-in_err-key : goal.returns-in_err-key
unfolding update_at
returns-in_err-key c = c.from_residual.ensures ∙ rw (← c.in_err-key.ensures)

pub overflow_add-part : goal.overflow_add-part
overflow_add-part c = omega (arith, pair_within _ _ (sym c.in_ok-key.ensures))

pub returns-in_err-new_value : goal.returns-in_err-new_value
unfolding update_at
returns-in_err-new_value c =
    c.from_residual-in_err-new_value.ensures ∙ rw (← c.in_ok-key.ensures, ← c.in_err-new_value.ensures)

pub overflow_add-result : goal.overflow_add-result
overflow_add-result c = omega (arith, part_within _ _ _ (sym c.in_ok-new_value.ensures))

pub returns : goal.returns
unfolding update_at
returns c = rw (← c.in_ok-key.ensures, ← c.in_ok-new_value.ensures)

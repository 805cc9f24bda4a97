-- `pair_at` meets its contract: the key, and the part behind it.
-- Assumes nothing.
use mathlib.Core.Path.{sym, ◌∙◌}
use native.Mathlib.Omega.{arith}
use Rattle.entry.specs.Decode.{pair_at}
use Rattle.entry.proofs.Places.{key_within}
use Rattle.entry.proofs.decoding.pair_at.Goals as goal

pub returns-in_err-key : goal.returns-in_err-key
unfolding pair_at
returns-in_err-key c = c.from_residual.ensures ∙ rw (← c.in_err-key.ensures)

pub overflow_add-key : goal.overflow_add-key
overflow_add-key c = omega (arith, key_within _ _ _ (sym c.in_ok-key.ensures))

pub returns-in_err-part : goal.returns-in_err-part
unfolding pair_at
returns-in_err-part c =
    c.from_residual-in_err-part.ensures ∙ rw (← c.in_ok-key.ensures, ← c.in_err-part.ensures)

pub returns : goal.returns
unfolding pair_at
returns c = rw (← c.in_ok-key.ensures, ← c.in_ok-part.ensures)

-- `key_and_part` meets its contract: the part ends in the payload.
-- Assumes nothing.
use mathlib.Core.Path.{sym}
use native.Mathlib.Omega.{arith}
use Rattle.entry.proofs.Places.{pair_within}
use Rattle.entry.proofs.decoding.key_and_part.Goals as goal

pub overflow_add-result : goal.overflow_add-result
overflow_add-result g c = omega (arith, pair_within _ _ (sym c.in_ok-key.ensures))

-- `next_number` meets its contract: a case for each.
-- Assumes nothing.
use native.Mathlib.Omega.{arith}
use Rattle.recovery.specs.Recover.{next_of}
use Rattle.recovery.proofs.next_number.Goals as goal

pub returns-in-0 : goal.returns-in-0
unfolding next_of
returns-in-0 c = grind arith

pub returns-in-18446744073709551615 : goal.returns-in-18446744073709551615
unfolding next_of
returns-in-18446744073709551615 c = grind arith

pub returns-in_default : goal.returns-in_default
unfolding next_of
returns-in_default c = grind arith

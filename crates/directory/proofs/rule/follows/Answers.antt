-- `directory::rule::follows` meets its contract, case by case of what stands before.
-- Assumes nothing.
use native.Mathlib.Omega.{arith}
use Rattle.directory.specs.Rule.{follows_of}
use Rattle.directory.proofs.rule.follows.Goals as goal

pub returns-in-None : goal.returns-in-None
unfolding follows_of
returns-in-None c = grind arith

pub returns-then-last-segment : goal.returns-then-last-segment
unfolding follows_of
returns-then-last-segment c = grind arith

pub returns-else-last-segment : goal.returns-else-last-segment
unfolding follows_of
returns-else-last-segment c = grind arith

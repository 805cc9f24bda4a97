-- `directory::rule::test` meets its contract: each answer by the tests that led to it.
-- Assumes nothing.
use native.Mathlib.Omega.{arith}
use Rattle.directory.specs.Rule.{test_of}
use Rattle.directory.proofs.rule.test.Goals.{then-not-fits-via-then-not-fits, then-not-fits-via-else-not-fits+then-not-fits-2}
use Rattle.directory.proofs.rule.test.Goals as goal

pub returns-then-not-fits : goal.returns-then-not-fits
unfolding test_of
returns-then-not-fits c =
    elim c.then-not-fits.branch [
      | then-not-fits-via-then-not-fits w ↦ grind arith
      | then-not-fits-via-else-not-fits+then-not-fits-2 w ↦ grind arith
    ]

pub returns-then-not-keeps_rule : goal.returns-then-not-keeps_rule
unfolding test_of
returns-then-not-keeps_rule c = grind arith

pub returns : goal.returns
unfolding test_of
returns c = grind arith

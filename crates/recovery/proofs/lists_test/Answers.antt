-- `lists_test` meets its contract: the lists are tested before the directory.
-- Assumes nothing.
use native.Mathlib.Omega.{arith}
use Rattle.recovery.specs.Recover.{lists_test_of}
use Rattle.recovery.proofs.lists_test.Goals.{then-not-fits-via-then-not-fits, then-not-fits-via-else-not-fits+then-not-fits-2}
use Rattle.recovery.proofs.lists_test.Goals as goal

pub returns-then-not-fits : goal.returns-then-not-fits
unfolding lists_test_of
returns-then-not-fits c =
    elim c.then-not-fits.branch [
      | then-not-fits-via-then-not-fits w ↦ grind arith
      | then-not-fits-via-else-not-fits+then-not-fits-2 w ↦ grind arith
    ]

pub returns : goal.returns
unfolding lists_test_of
returns c = grind arith

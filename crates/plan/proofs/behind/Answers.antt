-- `behind` meets its contract: two tests without a sum are the one of the definition.
-- Assumes nothing.
use native.Mathlib.Omega.{arith}
use Rattle.plan.specs.Plan.{behind_of}
use Rattle.plan.proofs.behind.Goals.{then-left-lt-HEADER-via-then-left-lt-HEADER, then-left-lt-HEADER-via-else-left-lt-HEADER+then-left-len}
use Rattle.plan.proofs.behind.Goals as goal

pub returns-then-left-lt-HEADER : goal.returns-then-left-lt-HEADER
unfolding behind_of
returns-then-left-lt-HEADER c =
    elim c.then-left-lt-HEADER.branch [
      | then-left-lt-HEADER-via-then-left-lt-HEADER w ↦ grind arith
      | then-left-lt-HEADER-via-else-left-lt-HEADER+then-left-len w ↦ grind arith
    ]

pub returns : goal.returns
unfolding behind_of
returns c = grind arith

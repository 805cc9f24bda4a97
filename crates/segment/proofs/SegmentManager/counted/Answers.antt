-- `SegmentManager::counted` meets its contract.
-- Assumes nothing.
use Rattle.std.proofs.Common.{arith}
use Rattle.segment.specs.Writing.{counted}
use Rattle.segment.proofs.SegmentManager.counted.Goals as goal

pub returns-then-self-eq0 : goal.returns-then-self-eq0
unfolding counted
returns-then-self-eq0 c = grind arith

pub returns-else-self-eq0 : goal.returns-else-self-eq0
unfolding counted
returns-else-self-eq0 c = grind arith

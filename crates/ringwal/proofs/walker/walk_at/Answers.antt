-- `walk_at` meets its contract: a walker's step, and the offset that it left.
-- Assumes nothing.
use Rattle.ringwal.proofs.Walks.{walked_is}
use Rattle.ringwal.proofs.walker.walk_at.Goals as goal

pub returns : goal.returns
returns c = let t = c.step-step.ensures in walked_is (record { segment = c.args.segment; at = c.args.at }) _ _ t.0 t.1

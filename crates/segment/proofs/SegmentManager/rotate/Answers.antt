-- `rotate` meets its contract: it opens.
-- Assumes nothing.
use Rattle.segment.specs.Writing.{open_of, rotate_of}
use Rattle.segment.proofs.SegmentManager.rotate.Goals as goal

pub returns : goal.returns
unfolding open_of rotate_of
returns c = c.open.ensures

-- `SegmentWalker::step` meets its contract: the offset behind an entry fits, and the walker holds the segment that it held.
-- Assumes nothing.
use borrow.Author.Rules.{rules}
use Rattle.ringwal.proofs.Walks.{offset_fits, stepped_is}
use Rattle.ringwal.proofs.walker.SegmentWalker.step.Goals as goal

pub offset_after-self-requires : goal.offset_after-self-requires
offset_after-self-requires c =
    let s = c.args.self.now in
    rw c.scan_step-step.ensures (offset_fits s.segment.now s.at (search rules) (search rules))

pub returns : goal.returns
returns c = (c.scan_step-step.ensures, stepped_is _ _ _ c.scan_step-step.ensures c.offset_after-self.ensures)

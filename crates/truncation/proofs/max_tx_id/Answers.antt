-- `max_tx_id` meets its contract: what is scanned is the segment's bytes of the area.
-- Assumes nothing.
use Rattle.directory.specs.Image.{segment_bytes}
use Rattle.truncation.proofs.max_tx_id.Goals as goal

pub returns : goal.returns
unfolding segment_bytes
returns c = rw (c.read_segment_max_tx_id.ensures, c.part.ensures)

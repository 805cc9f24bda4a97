-- `SegmentRecord::read` meets its contract: the three fields are those of the definition.
-- Assumes nothing.
use native.Mathlib.Omega.{arith}
use Rattle.directory.specs.Record.{record_at}
use Rattle.directory.proofs.record.SegmentRecordRecord.read.Goals as goal

pub returns : goal.returns
unfolding record_at
returns c = grind arith

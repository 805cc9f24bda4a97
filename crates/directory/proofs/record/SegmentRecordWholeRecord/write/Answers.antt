-- `SegmentRecord::write` meets its contract: three numbers one after the other are the record.
-- Assumes nothing.
use Rattle.directory.proofs.Records.{put_three}
use Rattle.directory.proofs.record.SegmentRecordWholeRecord.write.Goals as goal

pub returns : goal.returns
returns c = cc (put_three c.args.self c.args.bytes.now 0)

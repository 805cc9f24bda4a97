-- `lists::entries::EntryRecord::write` meets its contract: four numbers one after the other are the record.
-- Assumes nothing.
use Rattle.std.proofs.Common.{arith}
use Rattle.lists.proofs.EntryRecords.{put_four}
use Rattle.lists.proofs.entries.EntryRecordWholeRecord.write.Goals as goal

pub returns : goal.returns
returns c =
    let a = c.args in
    cc (put_four a.self a.bytes.now 0 (omega arith))

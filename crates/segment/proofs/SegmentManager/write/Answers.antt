-- `SegmentManager::write` meets its contract: header and payload one behind the other are the entry.
-- Assumes nothing.
use Rattle.segment.proofs.Logs.{entry_stored}
use Rattle.segment.proofs.SegmentManager.write.Goals as goal

pub returns : goal.returns
returns c =
    let a = c.args in
    rw (c.counted.ensures, c.active_after.ensures, c.put_record.ensures, c.copy-2.ensures, c.copy.ensures, c.to_bytes-bytes.ensures, c.new.ensures, entry_stored a.area.now a.«data».now a.w.at)

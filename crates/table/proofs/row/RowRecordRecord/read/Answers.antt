-- `table::row::RowRecord::read` meets its contract: the three fields are those of the record.
-- Assumes nothing.
use Rattle.table.specs.Row.{row_record_at}
use Rattle.table.proofs.row.RowRecordRecord.read.Goals as goal

pub returns : goal.returns
unfolding row_record_at
returns c = rw (c.get_le.ensures, c.get_le-2.ensures, c.get_le-3.ensures)

-- `table::row::empty_row` meets its contract: the zeros of a record.
-- Assumes nothing.
use Rattle.table.specs.Row.{empty_bytes}
use Rattle.table.proofs.row.empty_row.Goals as goal

pub returns : goal.returns
unfolding empty_bytes
returns c = c.zero.ensures

-- `order` of the rows and a key meets its contract: the record's key is compared.
-- Assumes nothing.
use Rattle.table.specs.Change.{order_in}
use Rattle.table.proofs.find.RowsKeyed.order.Goals as goal

pub returns : goal.returns
unfolding order_in
returns c = rw (← c.bytes_from-row.ensures, ← c.key_in.ensures) c.compare.ensures

-- `records::record::put_record` meets its contract: a store at the front of what stands behind a place is a store there.
-- Assumes nothing.
use Rattle.std.proofs.Common.{◌*◌, add-zero}
use Rattle.records.proofs.Stores.{stored_behind}
use Rattle.records.proofs.record.put_record.Goals as goal

pub returns : goal.returns
returns g c =
    let a = c.args in
    let at = g.R.Record.SIZE * a.k in
    rw c.write.ensures (rw add-zero at (stored_behind a.s.now (g.R.WholeRecord.bytes_of a.value) at 0 c.place-at.result c.place-at.ensures))

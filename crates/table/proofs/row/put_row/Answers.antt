-- `table::row::put_row` meets its contract: five fields one behind the other are the record.
-- Assumes nothing.
use Prim.Native.Nat.{◌*◌}
use Rattle.table.proofs.Rows.{put_five}
use Rattle.table.proofs.row.put_row.Goals as goal

pub returns : goal.returns
returns c =
    let a = c.args in
    rw (c.put_padded-2.ensures, c.put_padded.ensures, c.put_le-3.ensures, c.put_le-2.ensures, c.put_le.ensures) (put_five a.table.now (320 * a.k) a.mark a.key.now a.value.now)

-- `table::row::put_padded` meets its contract: a part and the zeros behind it.
-- Assumes nothing.
use native.Mathlib.Omega.{arith}
use Rattle.table.proofs.Rows.{put_zeros}
use Rattle.table.proofs.row.put_padded.Goals as goal

pub returns : goal.returns
returns c =
    let a = c.args in
    rw (c.zero.ensures, c.copy.ensures) (put_zeros a.table.now a.part.now a.at a.size (omega arith))

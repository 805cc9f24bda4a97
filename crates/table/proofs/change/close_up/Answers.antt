-- `table::change::close_up` meets its contract: the records behind move down, and the last becomes empty.
-- Assumes nothing.
use mathlib.Core.Path.{◌∙◌}
use native.Mathlib.Omega.{arith}
use Rattle.records.proofs.Dense.{closed_up_lem}
use Rattle.table.proofs.change.close_up.Goals as goal

pub returns : goal.returns
returns c =
    let a = c.args in
    rw (c.empty_row.ensures, c.move_down.ensures ∙ closed_up_lem 320 a.table.now a.n a.k (omega arith) (omega arith))

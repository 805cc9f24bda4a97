-- `well_formed` meets its contract: a number over 4 is no kind's.
-- Assumes nothing.
use mathlib.Core.Path.{sym}
use Rattle.payload.proofs.Laws.{unknown}
use Rattle.payload.proofs.well_formed.Goals as goal

pub returns-in-Err : goal.returns-in-Err
returns-in-Err c =
    let a = c.args in
    sym (unknown a.kind a.key.now a.old_value.now a.new_value.now c.in-Err.ensures.1)

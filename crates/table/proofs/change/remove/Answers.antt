-- `table::change::remove` meets its contract: by what was found.
-- Assumes nothing.
use mathlib.Core.Path.{sym, ◌∙◌}
use native.Mathlib.Omega.{arith}
use Rattle.table.specs.Change.{remove_of}
use Rattle.table.proofs.Within.{found_at}
use Rattle.table.proofs.change.remove.Goals as goal

pub close_up-requires : goal.close_up-requires
close_up-requires c =
    let a = c.args in
    omega (arith, found_at a.table.now a.n a.key.now _ (sym c.find.ensures ∙ c.in-Ok.is))

pub overflow_sub-result : goal.overflow_sub-result
overflow_sub-result c =
    let a = c.args in
    omega (arith, found_at a.table.now a.n a.key.now _ (sym c.find.ensures ∙ c.in-Ok.is))

pub returns-in-Ok : goal.returns-in-Ok
unfolding remove_of
returns-in-Ok c = rw (← c.find.ensures, c.in-Ok.is, c.close_up.ensures, ← c.used_in-used.ensures)

pub returns-in-Err : goal.returns-in-Err
unfolding remove_of
returns-in-Err c = rw (← c.find.ensures, c.in-Err.is, ← c.used_in-used.ensures)

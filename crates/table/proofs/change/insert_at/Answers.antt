-- `table::change::insert_at` meets its contract: the records behind make room, and the new one is written.
-- Assumes nothing.
use mathlib.Core.Path.{◌∙◌}
use Prim.Native.Nat.{◌/◌}
use native.Mathlib.Omega.{arith}
use lib.ListN.{length}
use borrow.Author.Tests.{le-leb, lt-leb}
use Rattle.table.specs.Change.{insert_of}
use Rattle.records.proofs.Dense.{made_room}
use Rattle.table.proofs.change.insert_at.Goals as goal

pub returns-then-table-n : goal.returns-then-table-n
unfolding insert_of
returns-then-table-n c =
    let a = c.args in
    rw (le-leb (length a.table.now / 320) a.n (omega arith))

pub returns : goal.returns
unfolding insert_of
returns c =
    let a = c.args in
    rw (lt-leb (length a.table.now / 320) a.n (omega arith), c.put_row.ensures, c.move_up.ensures ∙ made_room 320 a.table.now a.n a.k (omega arith) (omega arith))

-- `records::moves::move_down` meets its contract: the bytes are moved where they lie in the buffer.
-- Assumes nothing.
use mathlib.Core.Path.{sym, ◌∙◌}
use borrow.Author.Tests.{leb-true}
use Rattle.records.specs.Moves.{moved_down}
use Rattle.records.proofs.moves.move_down.Goals as goal

pub returns-then-lie_in : goal.returns-then-lie_in
unfolding moved_down
returns-then-lie_in c =
    rw (← c.lie_in.ensures, c.if-lie_in.true)
    c.move_bytes_down.ensures

pub returns-else-lie_in : goal.returns-else-lie_in
unfolding moved_down
returns-else-lie_in c = rw (← c.lie_in.ensures, c.if-lie_in.false)

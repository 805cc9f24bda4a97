-- `lists::admit::admit` meets its contract: an entry that has no record changes nothing, else it is listed and noted.
-- Assumes nothing.
use Rattle.std.proofs.Common.{le-leb}
use borrow.Author.Tests.{lt-leb}
use Rattle.lists.specs.Admit.{admit_of}
use Rattle.lists.proofs.admit.admit.Goals as goal

pub returns-then-entries-lists : goal.returns-then-entries-lists
unfolding admit_of
returns-then-entries-lists c = rw (le-leb _ _ c.if-entries-lists.true)

pub returns : goal.returns
unfolding admit_of
returns c = rw (lt-leb _ _ c.if-entries-lists.false, ← c.note_if-extent.ensures, c.higher.ensures, c.put_entry.ensures)

-- `lists::admit::note` meets its contract: by what was found.
-- Assumes nothing.
use Rattle.std.proofs.Common.{sym, ◌∙◌, arith}
use Rattle.records.proofs.Halving.{halve_within_gap}
use Rattle.lists.specs.Admit.{note_of}
use Rattle.lists.proofs.admit.note.Goals as goal

pub begin_at-requires : goal.begin_at-requires
begin_at-requires c = omega (arith, halve_within_gap _ _ _ (sym c.find.ensures ∙ c.in-Err.is))

pub returns-in-Ok : goal.returns-in-Ok
unfolding note_of
returns-in-Ok c = rw (← c.find.ensures, c.in-Ok.is, c.note_at.ensures)

pub returns-in-Err : goal.returns-in-Err
unfolding note_of
returns-in-Err c = rw (← c.find.ensures, c.in-Err.is) c.begin_at.ensures

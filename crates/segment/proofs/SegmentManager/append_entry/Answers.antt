-- `SegmentManager::append_entry` meets its contract: refused or written, as the plan says.
-- Assumes nothing.
use Rattle.std.proofs.Common.{sym, ap, ◌∙◌}
use Rattle.refusal.specs.Answer.{answer_of}
use Rattle.plan.proofs.Plans.{append_fits}
use Rattle.segment.specs.Writing.{append_entry_of}
use Rattle.segment.proofs.SegmentManager.append_entry.Goals as goal

pub write-requires : goal.write-requires
write-requires c = append_fits _ _ _ _ _ _ (sym c.plan_append.ensures ∙ ap answer_of c.in-Ok.is)

pub returns-in-Err : goal.returns-in-Err
unfolding append_entry_of
returns-in-Err c = rw (← c.plan_append.ensures, c.in-Err.is, c.refused.ensures)

pub returns-in-Ok : goal.returns-in-Ok
unfolding append_entry_of
returns-in-Ok c = rw (← c.plan_append.ensures, c.in-Ok.is) c.write.ensures

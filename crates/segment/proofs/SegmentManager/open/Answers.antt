-- `open` meets its contract: what the plan refuses changes nothing, else its record is stored.
-- Assumes nothing.
use Rattle.std.proofs.Common.{sym, ap, ◌∙◌, arith}
use Rattle.refusal.specs.Answer.{answer_of}
use Rattle.segment.specs.Writing.{open_of}
use Rattle.plan.proofs.Plans.{open_says}
use Rattle.directory.proofs.Sound.{sound_says}
use Rattle.segment.proofs.SegmentManager.open.Goals as goal

pub overflow_add-result : goal.overflow_add-result
overflow_add-result c = omega (arith, sound_says _ _ _ (open_says _ _ _ _ (sym c.new_segment.ensures ∙ ap answer_of c.in-Ok.is)).sounds)

pub returns-in-Err : goal.returns-in-Err
unfolding open_of
returns-in-Err c = rw (← c.new_segment.ensures, c.in-Err.is)

pub returns-in-Ok : goal.returns-in-Ok
unfolding open_of
returns-in-Ok c = rw (← c.new_segment.ensures, c.in-Ok.is, c.new.ensures, c.put_record.ensures)

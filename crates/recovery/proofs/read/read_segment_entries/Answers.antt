-- `read_segment_entries` meets its contract.
use mathlib.Core.Path.{refl, sym, ◌∙◌}
use native.Mathlib.Omega.{arith}
use Rattle.scan.specs.Read.{read_segment}
use Rattle.scan.proofs.Steps.{step_entry}
use Rattle.recovery.proofs.Reaches.{reach_ended, going_on}
use Rattle.recovery.proofs.Ends.{not_entry}
use Rattle.recovery.proofs.read.read_segment_entries.Goals as goal

pub returns-in_default : goal.returns-in_default
unfolding read_segment
returns-in_default c =
    let l = c.loop-entry in
    let x = c.scan_step-step.result in
    let a = c.args in
    rw c.ended.ensures (sym (reach_ended l.entries l.transactions a.progress l.lists a.base a.segment.now l.at x (sym c.scan_step-step.ensures) (not_entry x c.in_default.not-Entry)) ∙ l.invariant.same)

pub listed-requires : goal.listed-requires
listed-requires c = omega (arith, (step_entry _ _ _ _ (sym c.scan_step-step.ensures ∙ c.in-Entry.is)).end)

pub overflow_add-at : goal.overflow_add-at
overflow_add-at c = omega (arith, (step_entry _ _ _ _ (sym c.scan_step-step.ensures ∙ c.in-Entry.is)).end)

pub loop-entry-smaller : goal.loop-entry-smaller
loop-entry-smaller c = let t = step_entry _ _ _ _ (sym c.scan_step-step.ensures ∙ c.in-Entry.is) in omega (arith, t.end, t.start)

pub loop-entry-preserved : goal.loop-entry-preserved
loop-entry-preserved c =
    let l = c.loop-entry in
    let a = c.args in
    going_on _ l.entries l.transactions _ _ a.progress l.lists _ a.base a.segment.now l.at _ _ _ l.invariant (sym c.scan_step-step.ensures ∙ c.in-Entry.is) c.listed.ensures c.admit-lists.ensures

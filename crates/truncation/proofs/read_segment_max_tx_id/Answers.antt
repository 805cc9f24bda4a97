-- `read_segment_max_tx_id` meets its contract.
-- Assumes nothing.
use mathlib.Core.Logic.{⊎_elim}
use mathlib.Core.Path.{sym, ◌∙◌}
use native.Mathlib.Omega.{arith}
use Rattle.scan.specs.Highest.{highest_of}
use Rattle.scan.proofs.Walks.{highest_wrong, highest_partial, highest_end}
use Rattle.truncation.proofs.Scans.{passing_entry, passing_undecodable}
use Rattle.truncation.proofs.read_segment_max_tx_id.Goals as goal

pub loop-entry-init : goal.loop-entry-init
unfolding highest_of
loop-entry-init c = omega arith

pub overflow_add-at : goal.overflow_add-at
overflow_add-at c = omega (arith, (passing_entry _ _ _ _ (sym c.scan_step.ensures ∙ c.in-Entry.is)).end)

pub loop-entry-smaller-in-Entry : goal.loop-entry-smaller-in-Entry
loop-entry-smaller-in-Entry c = let t = passing_entry _ _ _ _ (sym c.scan_step.ensures ∙ c.in-Entry.is) in omega (arith, t.on, t.end)

pub loop-entry-preserved-in-Entry : goal.loop-entry-preserved-in-Entry
loop-entry-preserved-in-Entry c =
    let t = passing_entry _ _ _ _ (sym c.scan_step.ensures ∙ c.in-Entry.is) in
    omega (arith, t.same, c.higher-max_tx_id.ensures, c.tx_id.ensures, c.loop-entry.invariant)

pub overflow_add-at-in-Undecodable : goal.overflow_add-at-in-Undecodable
overflow_add-at-in-Undecodable c = omega (arith, (passing_undecodable _ _ _ (sym c.scan_step.ensures ∙ c.in-Undecodable.is)).end)

pub loop-entry-smaller : goal.loop-entry-smaller
loop-entry-smaller c = let t = passing_undecodable _ _ _ (sym c.scan_step.ensures ∙ c.in-Undecodable.is) in omega (arith, t.on, t.end)

pub loop-entry-preserved : goal.loop-entry-preserved
loop-entry-preserved c = let t = passing_undecodable _ _ _ (sym c.scan_step.ensures ∙ c.in-Undecodable.is) in omega (arith, t.same, c.loop-entry.invariant)

pub returns-in-End : goal.returns-in-End
returns-in-End c =
    let e = sym c.scan_step.ensures in
    let none =
    ⊎_elim (λ q. highest_end _ _ (e ∙ q)) (λ q. ⊎_elim (λ q. highest_partial _ _ (e ∙ q)) (λ q. highest_wrong _ _ (e ∙ q)) q) c.in-End.is in
    omega (arith, none, c.loop-entry.invariant)

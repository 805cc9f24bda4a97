-- `plan_tested` meets its contract: behind the active segment below the bound, else behind a new one; each ends in the area.
-- Assumes nothing.
use mathlib.Core.Path.{◌≡◌, ap, sym, ◌∙◌}
use Prim.Native.Nat.{◌/◌}
use lib.ListN.{length}
use native.Mathlib.Omega.{arith}
use Rattle.std.proofs.lemmas.Result.{err_from_is_err_and}
use Rattle.refusal.specs.Answer.{accepted, answer_of}
use Rattle.directory.specs.Record.{end_of}
use Rattle.directory.specs.Rule.{after_record}
use Rattle.plan.specs.Plan.{next_of, plan_of}
use Rattle.plan.proofs.Plans.{last_in_lem, new_end}
use Rattle.plan.proofs.plan_tested.Goals as goal

pub behind-requires : goal.behind-requires
behind-requires c = omega (arith, ap end_of c.record_at-last.ensures, last_in_lem _ _ (omega arith) _ c.requires.0)

pub returns-then-last-bound : goal.returns-then-last-bound
unfolding plan_of
returns-then-last-bound c = grind arith

pub after-requires : goal.after-requires
after-requires c = omega (arith, ap end_of c.record_at-last.ensures, last_in_lem _ _ (omega arith) _ c.requires.0)

pub returns-in_err-segment : goal.returns-in_err-segment
unfolding plan_of
returns-in_err-segment c = let p = err_from_is_err_and c.from_residual.result c.from_residual.ensures.1 in grind arith

pub behind-requires-2 : goal.behind-requires-2
behind-requires-2 c =
    let r = c.record_at-last in
    let e : next_of (after_record r.result) c.args.used (length c.args.directory.now / 24) ≡ accepted c.in_ok-segment.segment = rw (← c.after.ensures) (sym c.next.ensures ∙ ap answer_of c.in_ok-segment.was) in
    omega (arith, new_end _ _ _ _ e, ap end_of r.ensures, last_in_lem _ _ (omega arith) _ c.requires.0)

pub returns : goal.returns
unfolding plan_of
returns c = grind arith

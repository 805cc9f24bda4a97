-- `plan_append` meets its contract: refused by the test, or else the plan of the tested.
-- Assumes nothing.
use mathlib.Core.Path.{ap, sym, ◌∙◌}
use native.Mathlib.Omega.{arith}
use Rattle.std.proofs.lemmas.Result.{err_from_is_err_and}
use Rattle.refusal.specs.Answer.{answer_of}
use Rattle.plan.specs.Plan.{plan_append_of}
use Rattle.plan.proofs.Plans.{test_says}
use Rattle.plan.proofs.plan_append.Goals as goal

pub returns-in_err-append_test : goal.returns-in_err-append_test
unfolding plan_append_of
returns-in_err-append_test c = let p = err_from_is_err_and c.from_residual.result c.from_residual.ensures.1 in grind arith

pub plan_tested-requires : goal.plan_tested-requires
plan_tested-requires c = test_says _ _ _ (sym c.append_test.ensures ∙ ap answer_of c.in_ok-append_test.was)

pub returns : goal.returns
unfolding plan_append_of
returns c = grind arith

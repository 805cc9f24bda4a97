-- `append_test` meets its contract: the test of every call, and then the used count.
-- Assumes nothing.
use native.Mathlib.Omega.{arith}
use Rattle.std.proofs.lemmas.Result.{err_from_is_err_and}
use Rattle.plan.specs.Plan.{append_test_of}
use Rattle.plan.proofs.append_test.Goals as goal

pub returns-in_err-test : goal.returns-in_err-test
unfolding append_test_of
returns-in_err-test c = let p = err_from_is_err_and c.from_residual.result c.from_residual.ensures.1 in grind arith

pub returns-then-used-eq0 : goal.returns-then-used-eq0
unfolding append_test_of
returns-then-used-eq0 c = grind arith

pub returns : goal.returns
unfolding append_test_of
returns c = grind arith

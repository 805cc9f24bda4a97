-- `new_segment` meets its contract: refusals 1 and 2 go first, and then what `next` says of the last used record.
-- Assumes nothing.
use native.Mathlib.Omega.{arith}
use Rattle.std.proofs.lemmas.Result.{err_from_is_err_and}
use Rattle.plan.specs.Plan.{new_segment_of}
use Rattle.plan.proofs.new_segment.Goals as goal

pub returns-in_err-test : goal.returns-in_err-test
unfolding new_segment_of
returns-in_err-test c = let p = err_from_is_err_and c.from_residual.result c.from_residual.ensures.1 in grind arith

pub returns : goal.returns
unfolding new_segment_of
returns c = grind arith

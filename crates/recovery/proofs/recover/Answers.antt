-- `recover` meets its contract: refused by the tests, or the log is read.
-- Assumes nothing.
use mathlib.Core.Path.{ap, sym, ◌∙◌}
use native.Mathlib.Omega.{arith}
use Rattle.std.proofs.lemmas.Result.{err_from_is_err_and}
use Rattle.refusal.specs.Answer.{answer_of}
use Rattle.recovery.specs.Recover.{recover_of}
use Rattle.recovery.proofs.Concludes.{lists_sound}
use Rattle.recovery.proofs.recover.Goals as goal

pub returns-in_err-lists_test : goal.returns-in_err-lists_test
unfolding recover_of
returns-in_err-lists_test c = let p = err_from_is_err_and c.from_residual.result c.from_residual.ensures.1 in grind arith

pub recover_tested-requires : goal.recover_tested-requires
recover_tested-requires c = lists_sound _ _ _ _ _ (sym c.lists_test.ensures ∙ ap answer_of c.in_ok-lists_test.was)

pub returns : goal.returns
unfolding recover_of
returns c = grind arith

-- `truncate_segments_before` meets its contract: a refusal changes nothing, else the directory is closed up.
-- Assumes nothing.
use native.Mathlib.Omega.{arith}
use Rattle.std.proofs.lemmas.Result.{err_from_is_err_and}
use Rattle.directory.specs.Record.{records_of}
use Rattle.directory.proofs.Records.{length_records}
use Rattle.truncation.specs.Truncate.{truncate_of}
use Rattle.truncation.proofs.Truncates.{kept_most}
use Rattle.truncation.proofs.truncate_segments_before.Goals as goal

pub returns-in_err-test : goal.returns-in_err-test
unfolding truncate_of
returns-in_err-test c = let p = err_from_is_err_and c.from_residual.result c.from_residual.ensures.1 in grind arith

pub overflow_sub-result : goal.overflow_sub-result
overflow_sub-result c =
    let a = c.args in
    omega (arith, kept_most a.area.now a.checkpoint (records_of a.used a.directory.now), length_records a.used a.directory.now)

pub returns : goal.returns
unfolding truncate_of
returns c = grind arith

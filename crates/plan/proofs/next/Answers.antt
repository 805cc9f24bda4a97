-- `next` meets its contract: by the last id, and then by the records.
-- Assumes nothing.
use native.Mathlib.Omega.{arith}
use Rattle.std.proofs.lemmas.Result.{err_from_is_err_and}
use Rattle.plan.specs.Plan.{new_segment, next_of}
use Rattle.plan.proofs.next.Goals.{in-None, in-Some+in_ok-ok_or-in-Some}
use Rattle.plan.proofs.next.Goals as goal

pub returns-in_err-ok_or-in-Some : goal.returns-in_err-ok_or-in-Some
unfolding next_of
returns-in_err-ok_or-in-Some c =
    let p = err_from_is_err_and c.from_residual.result c.from_residual.ensures.1 in
    grind arith

pub returns-then-records-used : goal.returns-then-records-used
unfolding next_of
returns-then-records-used c =
    elim c.match-last.branch [ in-None w ↦ grind arith | in-Some+in_ok-ok_or-in-Some w ↦ grind arith ]

pub returns : goal.returns
unfolding next_of new_segment
returns c =
    elim c.match-last.branch [ in-None w ↦ grind arith | in-Some+in_ok-ok_or-in-Some w ↦ grind arith ]

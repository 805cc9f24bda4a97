-- `judge` meets its contract: the checksum, then the decoding.
-- Assumes nothing.
use Rattle.scan.specs.Step.{judge_of}
use Rattle.scan.proofs.judge.Goals as goal

pub returns-then-not-validate : goal.returns-then-not-validate
unfolding judge_of
returns-then-not-validate c =
    let v = c.validate in
    rw (← v.ensures, c.if-not-validate.true)

pub returns-in_default : goal.returns-in_default
unfolding judge_of
returns-in_default c =
    let v = c.validate in
    rw (← v.ensures, c.if-not-validate.false, ← c.decode.ensures, c.in_default.is)

pub returns : goal.returns
unfolding judge_of
returns c =
    let v = c.validate in
    rw (← v.ensures, c.if-not-validate.false, ← c.decode.ensures, c.in-Some.is)

-- `checkpoint` meets its contract: refused by the target or by the recovery, or by what the transactions say.
-- Assumes nothing.
use mathlib.Core.Path.{◌≡◌}
use Prim.Native.Nat.{ℕ, ◌<◌, ◌≤◌}
use native.Mathlib.Omega.{arith}
use borrow.Author.Tests.{lt-ltb, le-ltb, le-leb, lt-leb}
use Rattle.std.proofs.lemmas.Result.{err_from_is_err_and}
use Rattle.std.specs.declared.result.Result.TheVariants.{Ok, Err}
use Rattle.refusal.specs.Answer.{refused, accepted}
use Rattle.refusal.specs.declared.Refusal.TheVariants.{NoNewCheckpoints}
use Rattle.recovery.specs.Checkpoint.{advance_of, checkpoint_of}
use Rattle.recovery.proofs.Accepts.{checkpoints}
use Rattle.recovery.proofs.checkpoints.checkpoint.Goals as goal

-- by whether the highest number exceeds the stored one
module _ (highest stored : ℕ) where
  stays : highest ≤ stored → refused 10 ≡ advance_of highest stored
  unfolding advance_of
  stays h = rw (le-ltb stored highest h)

  advances : stored < highest → accepted highest ≡ advance_of highest stored
  unfolding advance_of
  advances h = rw (lt-ltb stored highest h)

pub returns-then-target-lt-SIZE : goal.returns-then-target-lt-SIZE
unfolding checkpoint_of
returns-then-target-lt-SIZE c = rw (lt-leb _ _ c.if-target-lt-SIZE.true)

pub returns-in_err-recovered : goal.returns-in_err-recovered
unfolding checkpoint_of
returns-in_err-recovered c =
    let p = err_from_is_err_and c.from_residual.result c.from_residual.ensures.1 in
    rw (le-leb _ _ c.if-target-lt-SIZE.false, ← c.recover.ensures) (grind arith)

pub returns-then-highest-read_checkpoint : goal.returns-then-highest-read_checkpoint
unfolding checkpoint_of
returns-then-highest-read_checkpoint c =
    rw (le-leb _ _ c.if-target-lt-SIZE.false)
    (checkpoints _ _ _ _ _ _ _ _ _ _ _ _ (Err NoNewCheckpoints) _ (λ i. (c.type_inv.area i).fits) (rw c.in_ok-recovered.was at c.recover.ensures) c.highest_committed-highest.ensures c.read_checkpoint.ensures (stays c.highest_committed-highest.result c.read_checkpoint.result (omega arith)) (rw (← stays c.highest_committed-highest.result c.read_checkpoint.result (omega arith))))

pub returns : goal.returns
unfolding checkpoint_of
returns c =
    rw (le-leb _ _ c.if-target-lt-SIZE.false)
    (checkpoints _ _ _ _ _ _ _ _ _ _ _ _ (Ok c.highest_committed-highest.result) _ (λ i. (c.type_inv.area i).fits) (rw c.in_ok-recovered.was at c.recover.ensures) c.highest_committed-highest.ensures c.read_checkpoint.ensures (advances _ _ c.if-highest-read_checkpoint.false) (rw (← advances _ _ c.if-highest-read_checkpoint.false) c.put_u64.ensures))

-- `recover_into_store` meets its contract: refused by the table or by the recovery, or by what the run comes to.
-- Assumes nothing.
use mathlib.Core.Path.{◌∙◌}
use Rattle.store.specs.Replay.{replay_of}
use Rattle.store.proofs.Replays.{accepted_lists, replays}
use Rattle.store.proofs.recover_into_store.Goals as goal

pub returns-then-not-fits : goal.returns-then-not-fits
unfolding replay_of
returns-then-not-fits c = let f = c.fits in rw (← f.ensures, c.if-not-fits.true)

pub replay-set-requires : goal.replay-set-requires
replay-set-requires c =
    accepted_lists _ _ _ _ _ _ _ c.in-Ok.recovered (λ i. (c.type_inv.area i).fits) (rw c.in-Ok.is at c.recover.ensures)

pub returns-in-Err : goal.returns-in-Err
unfolding replay_of
returns-in-Err c =
    let f = c.fits in
    rw (← f.ensures, c.if-not-fits.false, ← c.recover.ensures, c.in-Err.is, c.leave_table.ensures)

pub returns-in-Ok : goal.returns-in-Ok
unfolding replay_of
returns-in-Ok c =
    let f = c.fits in
    rw (← f.ensures, c.if-not-fits.false)
    (c.concluded.ensures
    ∙ replays _ _ _ _ _ _ _ c.in-Ok.recovered (λ i. (c.type_inv.area i).fits) (rw c.in-Ok.is at c.recover.ensures) c.args.table.now _ _ _ _ c.replay-set.ensures c.replay-set.auto.table)

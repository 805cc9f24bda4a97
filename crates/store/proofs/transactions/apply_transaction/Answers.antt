-- `apply_transaction` meets its contract.
use Rattle.refusal.proofs.Answers.{handed_on}
use Rattle.store.proofs.Walking.{walking_starts, turn_in, turn_falls, walking_goes, walking_stops, walking_ends}
use Rattle.store.proofs.transactions.apply_transaction.Goals as goal

pub loop-link-init : goal.loop-link-init
loop-link-init c = walking_starts _ _ _ c.requires.0 _ _ _ _ c.requires.1 c.requires.2 c.spare_of-link.ensures

pub apply-requires : goal.apply-requires
apply-requires c = rw c.entry_at.ensures (turn_in _ _ _ c.requires.0 _ _ c.loop-link-test.true c.loop-link.invariant.leads)

pub returns-in_err-count : goal.returns-in_err-count
returns-in_err-count c =
    rw (handed_on c.from_residual.result c.from_residual.ensures.1)
    (walking_stops _ _ _ c.requires.0 _ _ _ _ _ _ c.loop-link-test.true c.loop-link.invariant _ c.entry_at.ensures c.apply.result _ c.apply.ensures _ c.in_err-count.was)

pub loop-link-smaller : goal.loop-link-smaller
loop-link-smaller c = turn_falls _ _ _ c.requires.0 _ _ c.loop-link-test.true c.loop-link.invariant.leads _ c.spare_of-link-in-loop-link.ensures

pub loop-link-preserved : goal.loop-link-preserved
loop-link-preserved c =
    walking_goes _ _ _ c.requires.0 _ _ _ _ _ _ c.loop-link-test.true c.loop-link.invariant _ c.entry_at.ensures _ _ c.apply.ensures _ c.in_ok-count.was _ c.spare_of-link-in-loop-link.ensures

pub returns : goal.returns
returns c = walking_ends _ _ _ _ _ _ _ _ c.loop-link-test.false c.loop-link.invariant

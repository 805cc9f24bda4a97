-- `apply_transactions` meets its contract.
use mathlib.Core.Path.{◌≡◌}
use native.Mathlib.Omega.{arith}
use Rattle.lists.specs.declared.transactions.RecoveryAction.TheVariants.{Commit}
use Rattle.refusal.proofs.Answers.{handed_on}
use Rattle.store.proofs.Replaying.{replaying_starts, replaying_passes, replaying_goes, replaying_stops, replaying_ends}
use Rattle.store.proofs.transactions.apply_transactions.Goals as goal

pub loop-k-init : goal.loop-k-init
loop-k-init c = replaying_starts _ _ _ c.requires.0 _ c.requires.1

pub loop-k-preserved-then-ne : goal.loop-k-preserved-then-ne
loop-k-preserved-then-ne c =
    let n : c.transaction_at.result.action ≡ Commit → ⊥ = grind arith in
    replaying_passes _ _ _ _ _ _ _ c.loop-k-test.true c.loop-k.invariant (rw c.transaction_at.ensures at n)

pub returns-in_err-rows : goal.returns-in_err-rows
returns-in_err-rows c =
    let k : c.transaction_at.result.action ≡ Commit = grind arith in
    rw (handed_on c.from_residual.result c.from_residual.ensures.1)
    (replaying_stops _ _ _ _ _ _ _ c.loop-k-test.true c.loop-k.invariant (rw c.transaction_at.ensures at k) c.apply_transaction.result c.apply_transaction.new.table c.apply_transaction.ensures _ c.in_err-rows.was)

pub loop-k-preserved : goal.loop-k-preserved
loop-k-preserved c =
    let k : c.transaction_at.result.action ≡ Commit = grind arith in
    replaying_goes _ _ _ _ _ _ _ c.loop-k-test.true c.loop-k.invariant (rw c.transaction_at.ensures at k) c.apply_transaction.result c.apply_transaction.new.table c.apply_transaction.ensures _ c.in_ok-rows.was

pub returns : goal.returns
returns c = replaying_ends _ _ _ _ _ _ _ c.loop-k-test.false c.loop-k.invariant

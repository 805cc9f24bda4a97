-- `lists::tally::highest_committed` meets its contract.
-- Assumes nothing.
use Rattle.std.proofs.Common.{◌≡◌, ◌-◌, arith}
use Rattle.records.specs.Dense.{records_of}
use Rattle.lists.specs.Tally.{highest_committed}
use Rattle.lists.proofs.Tallies.{highest_turn}
use Rattle.lists.proofs.tally.highest_committed.Goals as goal

pub loop-k-init : goal.loop-k-init
unfolding highest_committed records_of
loop-k-init c =
    let n = c.args.n in
    let e : n - n ≡ 0 = omega arith in
    rw e

pub loop-k-preserved : goal.loop-k-preserved
loop-k-preserved c =
    let a = c.args in
    let l = c.loop-k in
    rw (c.higher-highest.ensures, c.if_committed.ensures, c.transaction_at.ensures, l.invariant) (highest_turn a.n l.k a.transactions.now (omega arith) (omega arith))

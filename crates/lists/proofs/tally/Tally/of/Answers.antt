-- `lists::Tally::of` meets its contract.
-- Assumes nothing.
use Rattle.std.proofs.Common.{◌≡◌, ◌-◌, arith}
use Rattle.records.specs.Dense.{records_of}
use Rattle.lists.specs.Tally.{tally_of}
use Rattle.lists.proofs.Tallies.{tally_turn, tally_below}
use Rattle.lists.proofs.tally.Tally.of.Goals as goal

pub loop-k-init : goal.loop-k-init
unfolding tally_of records_of
loop-k-init c =
    let n = c.args.n in
    let e : n - n ≡ 0 = omega arith in
    rw e

pub with-counts-requires : goal.with-counts-requires
with-counts-requires c =
    let a = c.args in
    let l = c.loop-k in
    rw l.invariant (omega (arith, tally_below a.n l.k a.transactions.now (omega arith) (omega arith)))

pub loop-k-preserved : goal.loop-k-preserved
loop-k-preserved c =
    let a = c.args in
    let l = c.loop-k in
    rw (c.with-counts.ensures, c.transaction_at.ensures, l.invariant) (tally_turn a.n l.k a.transactions.now (omega arith) (omega arith))

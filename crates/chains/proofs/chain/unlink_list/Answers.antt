-- `chains::chain::unlink_list` meets its contract.
-- Assumes nothing.
use Rattle.std.proofs.Common.{◌≡◌, ◌∙◌, arith}
use Rattle.chains.proofs.Turns.{unlink_turn}
use Rattle.chains.specs.Link.{unlink_all}
use Rattle.chains.proofs.chain.unlink_list.Goals as goal

pub loop-k-preserved : goal.loop-k-preserved
loop-k-preserved g c =
    let l = c.loop-k in
    rw c.put_spare_of.ensures (unlink_turn g.R.Record.SIZE g.R.SpareRecord.SPARE l.s l.k (omega arith) ∙ l.invariant)

pub returns : goal.returns
unfolding unlink_all
returns g c =
    let e : c.loop-k.k ≡ 0 = omega arith in
    rw e at c.loop-k.invariant

-- `chains::chain::link` meets its contract.
-- Assumes nothing.
use Rattle.std.proofs.Common.{◌≡◌, ◌∙◌, arith}
use Rattle.chains.specs.Link.{lent, link_all}
use Rattle.chains.proofs.Turns.{link_turn}
use Rattle.chains.proofs.chain.link.Goals as goal

pub loop-k-preserved : goal.loop-k-preserved
loop-k-preserved c =
    let l = c.loop-k in
    rw c.link_one.ensures (link_turn (lent l.entries l.transactions) c.args.m l.k (omega arith) ∙ l.invariant)

pub returns : goal.returns
unfolding link_all
returns c =
    let e : c.loop-k.k ≡ 0 = omega arith in
    rw e at c.loop-k.invariant

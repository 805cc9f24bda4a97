-- `chains::chain::link` meets its contract. The invariant: the entries that are left, linked in the lists as they stand, are
-- all of them linked in the lists at entry.
-- Assumes nothing.
use Rattle.std.proofs.Common.{◌≡◌}
use Rattle.chains.specs.Link.{lent, link_all}
use Rattle.chains.proofs.chain.link.Given as goal

abbrev pub invariant-loop-k : goal.invariant-loop-k
invariant-loop-k l =
    link_all (lent l.entries l.transactions) l.m l.k ≡ link_all (lent l.initial.entries l.initial.transactions) l.m l.n

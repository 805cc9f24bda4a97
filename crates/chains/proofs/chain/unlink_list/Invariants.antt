-- `chains::chain::unlink_list` meets its contract. The invariant: the links that are left, taken out of the list as it
-- stands, are all taken out of the list at entry.
-- Assumes nothing.
use Rattle.std.proofs.Common.{◌≡◌}
use Rattle.chains.specs.Link.{unlink_all}
use Rattle.chains.proofs.chain.unlink_list.Given as goal

abbrev pub invariant-loop-k : goal.invariant-loop-k
invariant-loop-k g l =
    unlink_all g.R.Record.SIZE g.R.SpareRecord.SPARE l.s l.k ≡ unlink_all g.R.Record.SIZE g.R.SpareRecord.SPARE l.initial.s l.n

-- `lists::tally::highest_committed` meets its contract. The invariant: the highest so far is that of the records from k on.
-- Assumes nothing.
use Rattle.std.proofs.Common.{◌≡◌}
use Rattle.lists.specs.Tally.{highest_committed}
use Rattle.lists.proofs.Tallies.{from_to}
use Rattle.lists.proofs.tally.highest_committed.Given as goal

abbrev pub invariant-loop-k : goal.invariant-loop-k
invariant-loop-k l = l.highest ≡ highest_committed (from_to l.k l.n l.transactions)

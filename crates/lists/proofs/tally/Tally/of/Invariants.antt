-- `lists::Tally::of` meets its contract. The invariant: the tally so far is that of the records from k on.
-- Assumes nothing.
use Rattle.std.proofs.Common.{◌≡◌}
use Rattle.lists.specs.Tally.{tally_of}
use Rattle.lists.proofs.Tallies.{from_to}
use Rattle.lists.proofs.tally.Tally.of.Given as goal

abbrev pub invariant-loop-k : goal.invariant-loop-k
invariant-loop-k l = l.counts ≡ tally_of (from_to l.k l.n l.transactions)

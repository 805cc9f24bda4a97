-- `concluded` meets its contract: by the list that is full, if any.
-- Assumes nothing.
use Rattle.recovery.specs.Reach.{told_by, concluded_of}
use Rattle.recovery.proofs.concluded.Goals as goal

pub returns-in-Room : goal.returns-in-Room
unfolding concluded_of told_by
returns-in-Room c = rw (c.in-Room.is, ← c.results.ensures)

pub returns-in-Entries : goal.returns-in-Entries
unfolding concluded_of
returns-in-Entries c = rw c.in-Entries.is c.refused_empty.ensures

pub returns-in-Transactions : goal.returns-in-Transactions
unfolding concluded_of
returns-in-Transactions c = rw c.in-Transactions.is c.refused_empty-in-Transactions.ensures

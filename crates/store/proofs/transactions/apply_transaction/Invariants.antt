-- `apply_transaction` meets its contract. The invariant: what the link leads to, applied to the rows as they stand, comes to
-- the whole transaction applied to the rows at entry.
-- Assumes nothing.
use lib.ListN.{length}
use Rattle.chains.specs.Chain.{from_link}
use Rattle.store.specs.Running.{entries_in}
use Rattle.store.proofs.Orders.{transaction_in}
use Rattle.store.proofs.Walking.{Walking}
use Rattle.store.proofs.transactions.apply_transaction.Given as goal

abbrev pub invariant-loop-link : goal.invariant-loop-link
invariant-loop-link l =
    Walking l.area l.entries (transaction_in l.transactions l.k).tx_id l.initial.table l.rows l.link l.table l.count

abbrev pub decreases-loop-link : goal.decreases-loop-link
decreases-loop-link l =
    length (from_link (transaction_in l.transactions l.k).tx_id l.link (entries_in l.entries))

-- `apply_transactions` meets its contract. The invariant: what is left of the order, applied to the rows as they stand, comes
-- to the whole applied to no rows.
-- Assumes nothing.
use Rattle.store.proofs.Replaying.{Replaying}
use Rattle.store.proofs.transactions.apply_transactions.Given as goal

abbrev pub invariant-loop-k : goal.invariant-loop-k
invariant-loop-k l = Replaying l.area l.entries l.transactions l.initial.table l.k l.table l.rows

-- What recovery counts of the transactions, and what checkpoint asks of them.
-- Assumes nothing.
use Rattle.std.specs.Prelude.{ℕ, ◌+◌, max, List, [], ◌∷◌}
use Rattle.lists.specs.Markers.{if_committed}
use Rattle.lists.specs.declared.transactions.RecoveryAction.{RecoveryAction}
use Rattle.lists.specs.declared.transactions.RecoveryAction.TheVariants.{Incomplete, Commit, Rollback}
use Rattle.lists.specs.declared.transactions.TransactionRecord.{TransactionRecord}
use Rattle.lists.specs.declared.tally.Tally.{Tally}

-- one more transaction of an action
abbrev pub tallied : RecoveryAction → Tally → Tally
tallied Commit t = record { committed = t.committed + 1; aborted = t.aborted; incomplete = t.incomplete }
tallied Rollback t = record { committed = t.committed; aborted = t.aborted + 1; incomplete = t.incomplete }
tallied Incomplete t = record { committed = t.committed; aborted = t.aborted; incomplete = t.incomplete + 1 }

-- how many transactions are committed, aborted and incomplete
unfoldable pub tally_of : List TransactionRecord → Tally
tally_of [] = record { committed = 0; aborted = 0; incomplete = 0 }
tally_of (t ∷ ts) = tallied t.action (tally_of ts)

-- "committed, aborted and incomplete add up to it"
abbrev pub total_of : Tally → ℕ
total_of t = t.committed + t.aborted + t.incomplete

-- the "highest committed number"; 0 where there is none
unfoldable pub highest_committed : List TransactionRecord → ℕ
highest_committed [] = 0
highest_committed (t ∷ ts) = max (if_committed t.action t.tx_id 0) (highest_committed ts)

-- Document 01: "applies committed transactions by ascending number (the Rust's order is a hash set's), each one's entries in
-- log order". In code and definitions this is the one place that says it; `crash` says it
-- once more, of the table.
-- Assumes nothing.
use Rattle.std.specs.Prelude.{ℕ, List, [], ◌∷◌, ◌++◌}
use Rattle.lists.specs.Markers.{if_committed}
use Rattle.lists.specs.Transactions.{transactions_of}
use Rattle.lists.specs.declared.entries.EntryRecord.{EntryRecord}
use Rattle.lists.specs.declared.transactions.TransactionRecord.{TransactionRecord}
use Rattle.chains.specs.Chain.{entries_of}

-- the numbers of the committed transactions, in the order of the records
unfoldable pub committed_of : List TransactionRecord → List ℕ
committed_of [] = []
committed_of (t ∷ ts) = if_committed t.action (t.tx_id ∷ committed_of ts) (committed_of ts)

-- the transactions in replay's order, "by ascending number": their records ascend (`order_ascends`)
unfoldable pub replay_order : List EntryRecord → List ℕ
replay_order es = committed_of (transactions_of es)

-- the entries of some transactions, one transaction after the other
unfoldable pub entries_in_turn : List ℕ → List EntryRecord → List EntryRecord
entries_in_turn [] es = []
entries_in_turn (n ∷ ns) es = entries_of n es ++ entries_in_turn ns es

-- the entries in replay's order
unfoldable pub replayed : List EntryRecord → List EntryRecord
replayed es = entries_in_turn (replay_order es) es

-- Document 01: the transactions' record, "24 bytes: tx number, action byte, 7 zeros, count of non-marker entries", and
-- what the entries of a log say of each transaction.
-- Assumes nothing.
use Rattle.std.specs.Prelude.{ℕ, ◌+◌, cond, List, [], ◌∷◌, ◌++◌, replicate, ◌==◌}
use Rattle.std.proofs.Math.Option.{Option}
use Rattle.fields.specs.Le.{le_bytes, num_at}
use Rattle.records.specs.Sorted.{compare_numbers, put, record_of}
use Rattle.lists.specs.Markers.{marker_of, or_else, to_count}
use Rattle.lists.specs.declared.entries.EntryRecord.{EntryRecord}
use Rattle.lists.specs.declared.transactions.RecoveryAction.{RecoveryAction}
use Rattle.lists.specs.declared.transactions.RecoveryAction.TheVariants.{Incomplete, Commit, Rollback}
use Rattle.lists.specs.declared.transactions.TransactionRecord.{TransactionRecord}

-- "Action: 0 incomplete, 1 commit, 2 rollback."
abbrev pub action_number : RecoveryAction → ℕ
action_number Incomplete = 0
action_number Commit = 1
action_number Rollback = 2

-- the action of a byte; what is neither 1 nor 2 is incomplete
abbrev pub action_of : ℕ → RecoveryAction
action_of n = cond (n == 1) Commit (cond (n == 2) Rollback Incomplete)

unfoldable pub transaction_bytes : TransactionRecord → List ℕ
transaction_bytes t = le_bytes 8 t.tx_id ++ (le_bytes 1 (action_number t.action) ++ (replicate 7 0 ++ le_bytes 8 t.count))

-- the record at the front of the bytes
unfoldable pub transaction_at : List ℕ → TransactionRecord
transaction_at s = record { tx_id = num_at 0 8 s; action = action_of (num_at 8 1 s); count = num_at 16 8 s }

-- one more entry of a transaction. "The last marker of a number decides. All its non-marker entries belong to it, those
-- after the marker too."
unfoldable pub noted : EntryRecord → TransactionRecord → TransactionRecord
noted e t =
    record {
      tx_id = t.tx_id;
      action = or_else (marker_of e.kind) t.action;
      count = t.count + to_count e.kind;
    }

-- a number that is met for the first time
unfoldable pub begun : EntryRecord → TransactionRecord
begun e = noted e (record { tx_id = e.tx_id; action = Incomplete; count = 0 })

abbrev pub tx_number : TransactionRecord → ℕ
tx_number t = t.tx_id

-- "Transactions strictly ascend by number"
unfoldable pub note : EntryRecord → List TransactionRecord → List TransactionRecord
note e ts = put compare_numbers tx_number e.tx_id (noted e) (begun e) ts

-- the entries one after the other
unfoldable pub note_all : List TransactionRecord → List EntryRecord → List TransactionRecord
note_all ts [] = ts
note_all ts (e ∷ es) = note_all (note e ts) es

unfoldable pub transactions_of : List EntryRecord → List TransactionRecord
transactions_of es = note_all [] es

-- the record of a number
abbrev pub transaction_of : ℕ → List TransactionRecord → Option TransactionRecord
transaction_of number ts = record_of compare_numbers tx_number number ts

-- Worked examples, by computation.
-- Assumes nothing.
use Rattle.std.specs.Prelude.{◌≡◌, ℕ, List, [], ◌∷◌, refl}
use Rattle.std.proofs.Math.Option.{none, some}
use Rattle.fields.specs.Le.{le_of, le_bytes}
use Rattle.records.specs.Dense.{bytes_of, dense}
use Rattle.records.specs.Sorted.{compare_numbers, put}
use Rattle.records.specs.Halving.{halve, halved, found_in}
use Rattle.lists.specs.Entries.{entry_record_bytes, entry_record_at, highest_in}
use Rattle.lists.specs.Transactions.{transaction_bytes, transaction_at, noted, begun, note, note_all, transactions_of}
use Rattle.lists.specs.Markers.{has_number, last_marker, count_of, said_of}
use Rattle.lists.specs.Tally.{tally_of, highest_committed}
use Rattle.lists.specs.Admit.{order_in, begin_of, note_of, admit_of, admit_all, emptied, filled, full_of}
use Rattle.lists.specs.declared.admit.Full.TheVariants.{Transactions, Entries}
use Rattle.lists.specs.declared.entries.EntryRecord.{EntryRecord}
use Rattle.lists.specs.declared.transactions.RecoveryAction.{RecoveryAction}
use Rattle.lists.specs.declared.transactions.RecoveryAction.TheVariants.{Incomplete, Commit, Rollback}
use Rattle.lists.specs.declared.transactions.TransactionRecord.{TransactionRecord}

-- an entry of a number and a kind
abbrev entry : ℕ → ℕ → EntryRecord
entry number kind = record { tx_id = number; place = 13; len = 38; kind = kind }

abbrev transaction : ℕ → RecoveryAction → ℕ → TransactionRecord
transaction number action count = record { tx_id = number; action = action; count = count }

-- ---- records

an_entry : entry_record_bytes (entry 7 4) ≡ 7 ∷ 0 ∷ 0 ∷ 0 ∷ 0 ∷ 0 ∷ 0 ∷ 0 ∷ 13 ∷ 0 ∷ 0 ∷ 0 ∷ 0 ∷ 0 ∷ 0 ∷ 0 ∷ 38 ∷ 0 ∷ 0 ∷ 0 ∷ 0 ∷ 0 ∷ 0 ∷ 0 ∷ 4 ∷ 0 ∷ 0 ∷ 0 ∷ 0 ∷ 0 ∷ 0 ∷ 0 ∷ []
unfolding entry_record_bytes le_bytes
an_entry = refl

a_transaction : transaction_bytes (transaction 7 Rollback 258) ≡ 7 ∷ 0 ∷ 0 ∷ 0 ∷ 0 ∷ 0 ∷ 0 ∷ 0 ∷ 2 ∷ 0 ∷ 0 ∷ 0 ∷ 0 ∷ 0 ∷ 0 ∷ 0 ∷ 2 ∷ 1 ∷ 0 ∷ 0 ∷ 0 ∷ 0 ∷ 0 ∷ 0 ∷ []
unfolding transaction_bytes le_bytes
a_transaction = refl

-- an action byte that is neither 1 nor 2; and where nothing stands
other_action : transaction_at (7 ∷ 0 ∷ 0 ∷ 0 ∷ 0 ∷ 0 ∷ 0 ∷ 0 ∷ 3 ∷ []) ≡ transaction 7 Incomplete 0
unfolding transaction_at le_of
other_action = refl

-- ---- the transactions of a log

-- document 01, "Bench readings": commit then abort of one number is a rollback
commit_then_abort_lem : transactions_of (entry 1 3 ∷ entry 1 4 ∷ []) ≡ transaction 1 Rollback 0 ∷ []
unfolding transactions_of note_all note put begun noted compare_numbers
commit_then_abort_lem = refl

abort_then_commit : transactions_of (entry 1 4 ∷ entry 1 3 ∷ []) ≡ transaction 1 Commit 0 ∷ []
unfolding transactions_of note_all note put begun noted compare_numbers
abort_then_commit = refl

-- numbers that don't come in their order
out_of_order : transactions_of (entry 7 0 ∷ entry 3 0 ∷ entry 5 4 ∷ entry 7 3 ∷ []) ≡ transaction 3 Incomplete 1 ∷ transaction 5 Rollback 0 ∷ transaction 7 Commit 1 ∷ []
unfolding transactions_of note_all note put begun noted compare_numbers
out_of_order = refl

-- "those after the marker too"
after_the_marker : transactions_of (entry 1 0 ∷ entry 1 3 ∷ entry 1 1 ∷ entry 1 2 ∷ []) ≡ transaction 1 Commit 3 ∷ []
unfolding transactions_of note_all note put begun noted compare_numbers
after_the_marker = refl

said : said_of 1 (entry 1 3 ∷ entry 2 0 ∷ entry 1 4 ∷ entry 1 0 ∷ []) ≡ some (transaction 1 Rollback 1)
unfolding said_of has_number last_marker count_of
said = refl

not_said : said_of 3 (entry 1 3 ∷ entry 2 0 ∷ []) ≡ none
unfolding said_of has_number
not_said = refl

tallied_once : tally_of (transaction 3 Incomplete 1 ∷ transaction 5 Rollback 0 ∷ transaction 7 Commit 1 ∷ transaction 9 Incomplete 4 ∷ []) ≡ record { committed = 1; aborted = 1; incomplete = 2 }
unfolding tally_of
tallied_once = refl

highest_of_three : highest_committed (transaction 3 Commit 1 ∷ transaction 5 Commit 0 ∷ transaction 7 Rollback 1 ∷ []) ≡ 5
unfolding highest_committed
highest_of_three = refl

none_committed : highest_committed (transaction 3 Incomplete 1 ∷ []) ≡ 0
unfolding highest_committed
none_committed = refl

-- ---- 6 and 7

-- two entry records and one transaction record: 7 for two numbers, and 6 for a third entry
seven : full_of 2 1 (entry 1 0 ∷ entry 2 0 ∷ []) ≡ Transactions
unfolding full_of transactions_of note_all note put begun noted compare_numbers
seven = refl

six_before_seven : full_of 2 1 (entry 1 0 ∷ entry 2 0 ∷ entry 2 0 ∷ []) ≡ Entries
unfolding full_of
six_before_seven = refl

-- ---- in bytes

abbrev out_of_place : List EntryRecord
out_of_place = entry 7 0 ∷ entry 3 3 ∷ entry 7 4 ∷ []

-- the records behind the new number move up
admitted : admit_all (emptied 96 48) out_of_place ≡ filled 96 48 out_of_place
unfolding admit_all emptied filled admit_of note_of found_in halved halve order_in begin_of dense bytes_of entry_record_bytes entry_record_at transaction_bytes transaction_at transactions_of note_all note put begun noted compare_numbers highest_in le_bytes le_of
admitted = refl

seven_in_bytes : (admit_all (emptied 64 24) (entry 1 0 ∷ entry 2 0 ∷ [])).lists.full ≡ Transactions
unfolding admit_all emptied admit_of note_of found_in halved halve order_in begin_of entry_record_bytes transaction_bytes transaction_at begun noted compare_numbers le_bytes le_of
seven_in_bytes = refl

six_in_bytes : (admit_all (emptied 64 24) (entry 1 0 ∷ entry 2 0 ∷ entry 2 0 ∷ [])).lists.full ≡ Entries
unfolding admit_all emptied admit_of note_of found_in halved halve order_in begin_of entry_record_bytes transaction_bytes transaction_at begun noted compare_numbers le_bytes le_of
six_in_bytes = refl

-- The house records as a C host has them.
-- Assumes nothing.
use Rattle.std.specs.Prelude.{ℕ}
use Rattle.std.specs.declared.result.Result.{Result}
use Rattle.std.specs.declared.result.Result.TheVariants.{Ok, Err}
use Rattle.directory.specs.declared.record.SegmentRecord.{SegmentRecord}
use Rattle.lists.specs.Transactions.{action_number}
use Rattle.lists.specs.declared.entries.EntryRecord.{EntryRecord}
use Rattle.lists.specs.declared.transactions.TransactionRecord.{TransactionRecord}
use Rattle.table.specs.declared.row.RowRecord.{RowRecord}
use Rattle.ringwal_c.specs.declared.house_records.Segment.{Segment}
use Rattle.ringwal_c.specs.declared.house_records.Entry.{Entry}
use Rattle.ringwal_c.specs.declared.house_records.Transaction.{Transaction}
use Rattle.ringwal_c.specs.declared.house_records.Row.{Row}
use Rattle.ringwal_c.specs.declared.house_records.FindAnswer.{FindAnswer}

abbrev pub segment_for : SegmentRecord → Segment
segment_for s = record { id = s.id; start = s.start; length = s.length }

abbrev pub segment_of : Segment → SegmentRecord
segment_of s = record { id = s.id; start = s.start; length = s.length }

abbrev pub entry_for : EntryRecord → Entry
entry_for e = record { tx_id = e.tx_id; place = e.place; len = e.len; kind = e.kind }

-- "Action: 0 incomplete, 1 commit, 2 rollback."
abbrev pub transaction_for : TransactionRecord → Transaction
transaction_for t = record { tx_id = t.tx_id; action = action_number t.action; count = t.count }

abbrev pub row_for : RowRecord → Row
row_for r = record { mark = r.mark; key_len = r.key_len; value_len = r.value_len }

abbrev pub find_answer : Result ℕ ℕ → FindAnswer
find_answer (Ok place) = record { is_found = 1; place = place }
find_answer (Err place) = record { is_found = 0; place = place }

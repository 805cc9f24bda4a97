-- What the functions inside replay ask of the lists and of the table, and what they leave. The lists and the rows are read
-- off the bytes; a list comes without its unused records.
-- Assumes nothing.
use Rattle.std.specs.Prelude.{◌≡◌, List, [], ℕ, ◌-◌, ◌*◌, ◌/◌, ◌^◌, ◌<◌, ◌≤◌, length, drop}
use Rattle.std.specs.declared.result.Result.{Result}
use Rattle.std.specs.declared.result.Result.TheVariants.{Ok}
use Rattle.refusal.specs.declared.Refusal.{Refusal}
use Rattle.refusal.specs.Answer.{Answer, refused, accepted, by_answer, answer_of}
use Rattle.records.specs.Dense.{dense, records_of, All}
use Rattle.lists.specs.Entries.{entry_record_at, entry_record_bytes, EntryFits}
use Rattle.lists.specs.Transactions.{transaction_at, transaction_bytes, transactions_of}
use Rattle.lists.specs.declared.entries.EntryRecord.{EntryRecord}
use Rattle.lists.specs.declared.transactions.TransactionRecord.{TransactionRecord}
use Rattle.chains.specs.Chain.{linked_entries, linked_transactions}
use Rattle.recovery.specs.Payload.{EntryIn}
use Rattle.recovery.specs.declared.Recovered.{Recovered}
use Rattle.table.specs.Row.{Row, row_at}
use Rattle.table.specs.Table.{table_of, Held}
use Rattle.store.specs.Order.{replayed}
use Rattle.store.specs.Change.{run_of}
use Rattle.store.specs.Replay.{Replaying, replaying, refused_empty}

-- the transactions from place k on
abbrev pub transactions_from : (k : ℕ) → List ℕ → List TransactionRecord
transactions_from k transactions = records_of 24 transaction_at (length transactions / 24 - k) (drop (24 * k) transactions)

abbrev pub entries_in : List ℕ → List EntryRecord
entries_in entries = records_of 32 entry_record_at (length entries / 32) entries

abbrev pub rows_in : (n : ℕ) → (table : List ℕ) → List Row
rows_in n table = records_of 320 row_at n table

-- the lists of a log while they are linked
pub record Linked (area entries transactions : List ℕ) : Type 0 where
  pub entries_are : entries ≡ linked_entries (length entries) (entries_in entries)
  pub transactions_are : transactions ≡ linked_transactions (length transactions) (entries_in entries)
  pub count : length transactions ≡ 24 * length (transactions_of (entries_in entries))
  pub fit : All EntryFits (entries_in entries)
  pub few : length (entries_in entries) < 2 ^ 56
  pub in_area : All (EntryIn area) (entries_in entries)

-- a table that holds n rows
pub record Tabled (table : List ℕ) (n : ℕ) : Type 0 where
  pub is : table ≡ table_of (length table) (rows_in n table)
  pub held : Held (length table) (rows_in n table)

-- what a run comes to in bytes; of one that ended early the table plays no part
pub record Ran : Type 0 where
  pub count : ℕ
  pub table : List ℕ

abbrev pub ran : (count : ℕ) → (table : List ℕ) → Answer Ran
ran count table = accepted (record { count = count; table = table })

abbrev pub ran_to : Result ℕ Refusal → (table : List ℕ) → Answer Ran
ran_to r table = by_answer (answer_of r) (λ number. refused number) (λ n. ran n table)

-- in a table of so many bytes
abbrev pub ran_in : (room : ℕ) → Answer (List Row) → Answer Ran
ran_in room run = by_answer run (λ number. refused number) (λ rs. ran (length rs) (table_of room rs))

-- ---- around the run

abbrev pub listed_in_of : (n : ℕ) → List ℕ → List EntryRecord
listed_in_of n entries = records_of 32 entry_record_at n entries

-- the lists as recovery leaves them: n entries and m transactions
pub record Listing (area entries : List ℕ) (n : ℕ) (transactions : List ℕ) (m : ℕ) : Type 0 where
  pub entries_are : entries ≡ dense entry_record_bytes (length entries) (listed_in_of n entries)
  pub transactions_are : transactions ≡ dense transaction_bytes (length transactions) (transactions_of (listed_in_of n entries))
  pub count : m ≡ length (transactions_of (listed_in_of n entries))
  pub entries_inside : 32 * n ≤ length entries
  pub transactions_inside : 24 * m ≤ length transactions
  pub fit : All EntryFits (listed_in_of n entries)
  pub few : n < 2 ^ 56
  pub in_area : All (EntryIn area) (listed_in_of n entries)

-- a run over them: they stay as they were, spare bytes too
pub record RanIs (area entries : List ℕ) (n : ℕ) (transactions : List ℕ) (room : ℕ) (r : Result ℕ Refusal) (entries' transactions' table' : List ℕ) : Type 0 where
  pub entries_stay : entries' ≡ entries
  pub transactions_stay : transactions' ≡ transactions
  pub runs : ran_to r table' ≡ ran_in room (run_of (room / 320) area (replayed (listed_in_of n entries)) [])

-- what replay answers and leaves after a run
abbrev pub concluded_by : Result ℕ Refusal → Recovered → (entries transactions table : List ℕ) → Replaying
concluded_by set recovered entries transactions table =
    by_answer (answer_of set) (λ number. refused_empty number (length entries) (length transactions) (length table))
    (λ _. replaying (Ok recovered) entries transactions table)

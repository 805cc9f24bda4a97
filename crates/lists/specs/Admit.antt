-- An entry admitted to the two lists, in bytes, on any lists and any counts.
-- 6: "more accepted entries than entry records"; 7: "more distinct numbers than transaction records". 6 goes before 7, so
-- entries are still counted when the transactions are full.
-- Assumes nothing.
use Rattle.std.specs.Prelude.{ℕ, ◌+◌, ◌-◌, ◌*◌, ◌/◌, max, cond, List, [], ◌∷◌, length, take, drop, replicate, nat_le}
use Rattle.std.proofs.lemmas.List.Edits.{sets}
use Rattle.records.specs.Dense.{dense}
use Rattle.records.specs.Sorted.{compare_numbers}
use Rattle.records.specs.Halving.{found_in}
use Rattle.std.specs.declared.cmp.Ordering.{Ordering}
use Rattle.std.specs.declared.result.Result.{Result}
use Rattle.std.specs.declared.result.Result.TheVariants.{Ok, Err}
use Rattle.lists.specs.Entries.{entry_record_bytes, highest_in}
use Rattle.lists.specs.Transactions.{transaction_at, transaction_bytes, noted, begun, transactions_of}
use Rattle.lists.specs.declared.entries.EntryRecord.{EntryRecord}
use Rattle.lists.specs.declared.admit.Full.{Full}
use Rattle.lists.specs.declared.admit.Full.TheVariants.{Room, Transactions, Entries}
use Rattle.lists.specs.declared.admit.Lists.{Lists}
use Rattle.lists.specs.declared.admit.Extent.{Extent}

-- the transactions, and how far they are filled
pub record Ledger : Type 0 where
  pub transactions : List ℕ
  pub count : ℕ
  pub full : Full

-- what a call gave back, with the transactions that it left
abbrev pub ledger : List ℕ → Extent → Ledger
ledger transactions e = record { transactions = transactions; count = e.count; full = e.full }

-- how record i stands to a number
unfoldable pub order_in : List ℕ → (number : ℕ) → ℕ → Ordering
order_in transactions number i = compare_numbers (transaction_at (drop (24 * i) transactions)).tx_id number

-- record k takes one more entry
abbrev pub noted_at : List ℕ → (k : ℕ) → EntryRecord → List ℕ
noted_at transactions k e = sets transactions (24 * k) (transaction_bytes (noted e (transaction_at (drop (24 * k) transactions))))

-- the records from k on, up to the n-th, make room for a new one
abbrev pub begun_at : List ℕ → (n k : ℕ) → EntryRecord → List ℕ
begun_at transactions n k e =
    sets (sets transactions (24 * (k + 1)) (take (24 * (n - k)) (drop (24 * k) transactions))) (24 * k) (transaction_bytes (begun e))

-- a new number, if there is a record left for it
unfoldable pub begin_of : List ℕ → (n k : ℕ) → EntryRecord → Ledger
begin_of transactions n k e =
    cond (nat_le (length transactions / 24) n)
    (record { transactions = transactions; count = n; full = Transactions })
    (record { transactions = begun_at transactions n k e; count = n + 1; full = Room })

-- by what was found of the number
abbrev pub note_by : Result ℕ ℕ → List ℕ → (n : ℕ) → EntryRecord → Ledger
note_by (Ok k) transactions n e = record { transactions = noted_at transactions k e; count = n; full = Room }
note_by (Err k) transactions n e = begin_of transactions n k e

-- an entry noted among the first n transactions
unfoldable pub note_of : List ℕ → (n : ℕ) → EntryRecord → Ledger
note_of transactions n e = note_by (found_in (order_in transactions e.tx_id) n) transactions n e

-- both lists, and how far they are filled
pub record Book : Type 0 where
  pub entries : List ℕ
  pub transactions : List ℕ
  pub lists : Lists

-- what a call gave back, with the lists that it left
abbrev pub book : (entries transactions : List ℕ) → Lists → Book
book entries transactions lists = record { entries = entries; transactions = transactions; lists = lists }

-- where the transactions are full no more numbers are looked for
abbrev pub note_if : Full → List ℕ → (n : ℕ) → EntryRecord → Ledger
note_if Room transactions n e = note_of transactions n e
note_if Transactions transactions n e = record { transactions = transactions; count = n; full = Transactions }
note_if Entries transactions n e = record { transactions = transactions; count = n; full = Entries }

-- the entry is listed, and noted as it was
abbrev pub with_entry : Book → EntryRecord → Ledger → Book
with_entry b e l =
    record {
      entries = sets b.entries (32 * b.lists.entries) (entry_record_bytes e);
      transactions = l.transactions;
      lists = record {
        entries = b.lists.entries + 1;
        transactions = l.count;
        highest = max b.lists.highest e.tx_id;
        full = l.full;
      };
    }

-- the entry has no record: nothing else changes
abbrev pub overfull : Book → Book
overfull b =
    record {
      entries = b.entries;
      transactions = b.transactions;
      lists = record {
        entries = b.lists.entries;
        transactions = b.lists.transactions;
        highest = b.lists.highest;
        full = Entries;
      };
    }

-- a list that is full once stays so: where there is no record for one entry there is none for a later one
unfoldable pub admit_of : Book → EntryRecord → Book
admit_of b e =
    cond (nat_le (length b.entries / 32) b.lists.entries) (overfull b)
    (with_entry b e (note_if b.lists.full b.transactions b.lists.transactions e))

unfoldable pub admit_all : Book → List EntryRecord → Book
admit_all b [] = b
admit_all b (e ∷ es) = admit_all (admit_of b e) es

-- ---- what the lists come to

-- which list, of so many records, is full for the entries of a log: 6 goes before 7
unfoldable pub full_of : (entries transactions : ℕ) → List EntryRecord → Full
full_of entries transactions es =
    cond (nat_le (length es) entries) (cond (nat_le (length (transactions_of es)) transactions) Room Transactions) Entries

-- zero throughout, and nothing filled
unfoldable pub emptied : (entries transactions : ℕ) → Book
emptied entries transactions =
    book (replicate entries 0) (replicate transactions 0) (record { entries = 0; transactions = 0; highest = 0; full = Room })

-- "The entry list holds every good entry, markers too, in reading order. Both, and the entry list, are dense from the front."
unfoldable pub filled : (entries transactions : ℕ) → List EntryRecord → Book
filled entries transactions es =
    book (dense entry_record_bytes entries es) (dense transaction_bytes transactions (transactions_of es))
    (record { entries = length es; transactions = length (transactions_of es); highest = highest_in es; full = Room })

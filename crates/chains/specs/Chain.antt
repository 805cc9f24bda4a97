-- The entries of a transaction, one behind the other: while replay runs, the seven spare bytes of each entry record lead to
-- the next entry of its number, and those of each transaction record to its first.
-- Assumes nothing.
use Rattle.std.specs.Prelude.{ℕ, zero, suc, cond, List, [], ◌∷◌, ◌++◌, map, eqb, drop}
use Rattle.fields.specs.Le.{le_bytes}
use Rattle.records.specs.Dense.{dense}
use Rattle.lists.specs.Transactions.{action_number, transactions_of}
use Rattle.lists.specs.declared.entries.EntryRecord.{EntryRecord}
use Rattle.lists.specs.declared.transactions.TransactionRecord.{TransactionRecord}

-- a link is an entry's place in the list plus one; 0 leads nowhere
pub record LinkedEntry : Type 0 where
  pub entry : EntryRecord
  pub next : ℕ

pub record LinkedTransaction : Type 0 where
  pub transaction : TransactionRecord
  pub first : ℕ

unfoldable pub linked_entry_bytes : LinkedEntry → List ℕ
linked_entry_bytes l =
    let e = l.entry in
    le_bytes 8 e.tx_id ++ (le_bytes 8 e.place ++ (le_bytes 8 e.len ++ (le_bytes 1 e.kind ++ le_bytes 7 l.next)))

unfoldable pub linked_transaction_bytes : LinkedTransaction → List ℕ
linked_transaction_bytes l =
    let t = l.transaction in
    le_bytes 8 t.tx_id ++ (le_bytes 1 (action_number t.action) ++ (le_bytes 7 l.first ++ le_bytes 8 t.count))

-- the link to the first entry of a number, of entries that stand in the list from place i on
unfoldable pub first_from : (i number : ℕ) → List EntryRecord → ℕ
first_from i number [] = 0
first_from i number (e ∷ es) = cond (eqb e.tx_id number) (suc i) (first_from (suc i) number es)

-- each entry with the link to the next one of its number
unfoldable pub linked_from : (i : ℕ) → List EntryRecord → List LinkedEntry
linked_from i [] = []
linked_from i (e ∷ es) = record { entry = e; next = first_from (suc i) e.tx_id es } ∷ linked_from (suc i) es

-- each transaction with the link to its first entry
unfoldable pub begun_by : List EntryRecord → List TransactionRecord → List LinkedTransaction
begun_by es ts = map (λ (t : TransactionRecord). record { transaction = t; first = first_from 0 t.tx_id es }) ts

-- the two lists of a log while they are linked
abbrev pub linked_entries : (room : ℕ) → List EntryRecord → List ℕ
linked_entries room es = dense linked_entry_bytes room (linked_from 0 es)

abbrev pub linked_transactions : (room : ℕ) → List EntryRecord → List ℕ
linked_transactions room es = dense linked_transaction_bytes room (begun_by es (transactions_of es))

-- the entries of a number, in log order
unfoldable pub entries_of : (number : ℕ) → List EntryRecord → List EntryRecord
entries_of number [] = []
entries_of number (e ∷ es) = cond (eqb e.tx_id number) (e ∷ entries_of number es) (entries_of number es)

-- those from the one that a link leads to
unfoldable pub from_link : (number link : ℕ) → List EntryRecord → List EntryRecord
from_link number zero es = []
from_link number (suc k) es = entries_of number (drop k es)

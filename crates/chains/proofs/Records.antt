-- The laws of the linked records: a link leaves the record as it was.
-- Assumes nothing.
use mathlib.Core.Path.{◌≡◌, refl, sym, ap, ◌∙◌}
use mathlib.Core.List.{List, ◌++◌, append_assoc}
use Prim.Native.Nat.{ℕ, ◌+◌, ◌≤◌}
use native.Mathlib.Omega.{arith}
use lib.ListN.{length, length-append}
use Rattle.fields.specs.Le.{le_bytes, num_at}
use Rattle.fields.proofs.Numbers.{length_bytes, num_skip, num_within}
use Rattle.lists.specs.Entries.{entry_record_at, entry_record_bytes, EntryFits}
use Rattle.lists.specs.Transactions.{action_number, transaction_at, transaction_bytes}
use Rattle.lists.specs.declared.entries.EntryRecord.{EntryRecord}
use Rattle.lists.specs.declared.transactions.TransactionRecord.{TransactionRecord}
use Rattle.lists.proofs.EntryRecords.{entry_back}
use Rattle.lists.proofs.TransactionRecords.{TransactionFits, transaction_back}
use Rattle.chains.specs.Chain.{LinkedEntry, LinkedTransaction, linked_entry_bytes, linked_transaction_bytes}

-- ---- the parts of a record: what stands before the link, the link, and what stands behind it

abbrev pub entry_front : EntryRecord → List ℕ
entry_front e = le_bytes 8 e.tx_id ++ (le_bytes 8 e.place ++ (le_bytes 8 e.len ++ le_bytes 1 e.kind))

abbrev pub transaction_front : TransactionRecord → List ℕ
transaction_front t = le_bytes 8 t.tx_id ++ le_bytes 1 (action_number t.action)

module _ (e : EntryRecord) where
  abbrev pub entry_to : ℕ → LinkedEntry
  entry_to link = record { entry = e; next = link }

  pub entry_front_lem : length (entry_front e) ≡ 25
  entry_front_lem = simp (length-append, length_bytes)

  pub entry_parts : (link : ℕ) (rest : List ℕ) → linked_entry_bytes (entry_to link) ++ rest ≡ entry_front e ++ (le_bytes 7 link ++ rest)
  unfolding linked_entry_bytes
  entry_parts link rest = simp append_assoc

  -- a link of 0 is the 7 zeros
  pub entry_unlinked : linked_entry_bytes (entry_to 0) ≡ entry_record_bytes e
  unfolding linked_entry_bytes entry_record_bytes le_bytes
  entry_unlinked = refl

module _ (t : TransactionRecord) where
  abbrev pub transaction_to : ℕ → LinkedTransaction
  transaction_to link = record { transaction = t; first = link }

  pub transaction_front_lem : length (transaction_front t) ≡ 9
  transaction_front_lem = simp (length-append, length_bytes)

  pub transaction_parts : (link : ℕ) (rest : List ℕ) → linked_transaction_bytes (transaction_to link) ++ rest ≡ transaction_front t ++ (le_bytes 7 link ++ (le_bytes 8 t.count ++ rest))
  unfolding linked_transaction_bytes
  transaction_parts link rest = simp append_assoc

  pub transaction_unlinked : linked_transaction_bytes (transaction_to 0) ≡ transaction_bytes t
  unfolding linked_transaction_bytes transaction_bytes le_bytes
  transaction_unlinked = refl

pub length_linked_entry : (l : LinkedEntry) → length (linked_entry_bytes l) ≡ 32
unfolding linked_entry_bytes
length_linked_entry l = simp (length-append, length_bytes)

pub length_linked_transaction : (l : LinkedTransaction) → length (linked_transaction_bytes l) ≡ 24
unfolding linked_transaction_bytes
length_linked_transaction l = simp (length-append, length_bytes)

-- ---- the record is read whatever its link is

entry_any : (front x y : List ℕ) → length front ≡ 25 → entry_record_at (front ++ x) ≡ entry_record_at (front ++ y)
unfolding entry_record_at
entry_any front x y n =
    let same : (at w : ℕ) → at + w ≤ 25 → num_at at w (front ++ x) ≡ num_at at w (front ++ y) =
    λ at w h. num_within front x at w (rw n h) ∙ sym (num_within front y at w (rw n h)) in
    rw (same 0 8 (omega arith), same 8 8 (omega arith), same 16 8 (omega arith), same 24 1 (omega arith))

pub linked_entry_back : (l : LinkedEntry) (rest : List ℕ) → EntryFits l.entry → entry_record_at (linked_entry_bytes l ++ rest) ≡ l.entry
linked_entry_back l rest f =
    let e = l.entry in
    ap entry_record_at (entry_parts e l.next rest)
    ∙ entry_any (entry_front e) (le_bytes 7 l.next ++ rest) (le_bytes 7 0 ++ rest) (entry_front_lem e)
    ∙ ap entry_record_at (sym (entry_parts e 0 rest))
    ∙ rw (entry_unlinked e) (entry_back e rest f)

transaction_any : (front x y post : List ℕ) → length front ≡ 9 → length x ≡ 7 → length y ≡ 7 → transaction_at (front ++ (x ++ post)) ≡ transaction_at (front ++ (y ++ post))
unfolding transaction_at
transaction_any front x y post n a b =
    let same : (at w : ℕ) → at + w ≤ 9 → num_at at w (front ++ (x ++ post)) ≡ num_at at w (front ++ (y ++ post)) =
    λ at w h. num_within front (x ++ post) at w (rw n h) ∙ sym (num_within front (y ++ post) at w (rw n h)) in
    let behind : (z : List ℕ) → length z ≡ 7 → num_at 16 8 (front ++ (z ++ post)) ≡ num_at 0 8 post =
    λ z e. num_skip front (z ++ post) 9 7 8 n ∙ num_skip z post 7 0 8 e in
    rw (same 0 8 (omega arith), same 8 1 (omega arith), behind x a, behind y b)

pub linked_transaction_back : (l : LinkedTransaction) (rest : List ℕ) → TransactionFits l.transaction → transaction_at (linked_transaction_bytes l ++ rest) ≡ l.transaction
linked_transaction_back l rest f =
    let t = l.transaction in
    ap transaction_at (transaction_parts t l.first rest)
    ∙ transaction_any (transaction_front t) (le_bytes 7 l.first) (le_bytes 7 0) (le_bytes 8 t.count ++ rest) (transaction_front_lem t) (length_bytes 7 l.first) (length_bytes 7 0)
    ∙ ap transaction_at (sym (transaction_parts t 0 rest))
    ∙ rw (transaction_unlinked t) (transaction_back t rest f)

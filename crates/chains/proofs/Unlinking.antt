-- The links taken out of linked lists: the lists are as they were.
-- Assumes nothing.
use mathlib.Core.Path.{◌≡◌, refl, sym, ap, ◌∙◌}
use mathlib.Core.List.{List, [], ◌∷◌, map, map-map}
use Prim.Native.Nat.{ℕ, suc}
use lib.ListN.{length, length-map}
use Rattle.records.specs.Dense.{bytes_of, dense}
use Rattle.lists.specs.Entries.{entry_record_bytes}
use Rattle.lists.specs.Transactions.{transaction_bytes, transactions_of}
use Rattle.lists.specs.declared.entries.EntryRecord.{EntryRecord}
use Rattle.lists.specs.declared.transactions.TransactionRecord.{TransactionRecord}
use Rattle.chains.specs.Chain.{LinkedEntry, linked_entry_bytes, linked_transaction_bytes, linked_from, begun_by, linked_entries, linked_transactions}
use Rattle.chains.specs.Link.{lent, unlink_all}
use Rattle.chains.proofs.Records.{entry_to, entry_unlinked, transaction_to, transaction_unlinked}
use Rattle.chains.proofs.Firsts.{length-begun}
use Rattle.chains.proofs.Spare.{entries_have, transactions_have, unlinks}

-- ---- links of 0

module _ {Q R : Type 0} (bytes : R → List ℕ) (plain : Q → List ℕ) (f : Q → R) (same : (q : Q) → bytes (f q) ≡ plain q) where
  bytes_map : (qs : List Q) → bytes_of bytes (map f qs) ≡ bytes_of plain qs
  unfolding bytes_of
  bytes_map [] = refl
  bytes_map (q ∷ qs) = rw (same q, bytes_map qs)

  dense_map : (room : ℕ) (qs : List Q) → dense bytes room (map f qs) ≡ dense plain room qs
  unfolding dense
  dense_map room qs = rw (bytes_map qs)

abbrev pub plain : List EntryRecord → List LinkedEntry
plain es = map (λ (e : EntryRecord). entry_to e 0) es

pub entries_plain : (room : ℕ) (es : List EntryRecord) → dense linked_entry_bytes room (plain es) ≡ dense entry_record_bytes room es
entries_plain = dense_map linked_entry_bytes entry_record_bytes (λ (e : EntryRecord). entry_to e 0) entry_unlinked

pub transactions_plain : (room : ℕ) (ts : List TransactionRecord) → dense linked_transaction_bytes room (map (λ (t : TransactionRecord). transaction_to t 0) ts) ≡ dense transaction_bytes room ts
transactions_plain = dense_map linked_transaction_bytes transaction_bytes (λ (t : TransactionRecord). transaction_to t 0) transaction_unlinked

-- ---- linked lists

pub linked_are : (i : ℕ) (es : List EntryRecord) → map (λ (l : LinkedEntry). l.entry) (linked_from i es) ≡ es
unfolding linked_from
linked_are i [] = refl
linked_are i (e ∷ es) = ap (λ (es : List EntryRecord). e ∷ es) (linked_are (suc i) es)

pub length_linked : (i : ℕ) (es : List EntryRecord) → length (linked_from i es) ≡ length es
length_linked i es = sym (length-map (linked_from i es) _) ∙ ap length (linked_are i es)

entries_cleared : (E : ℕ) (es : List EntryRecord) → unlink_all 32 25 (linked_entries E es) (length es) ≡ dense entry_record_bytes E es
entries_cleared E es =
    ap (unlink_all 32 25 (linked_entries E es)) (sym (length_linked 0 es))
    ∙ unlinks entries_have E (linked_from 0 es)
    ∙ ap (dense linked_entry_bytes E) (sym (map-map _ _ (linked_from 0 es)) ∙ ap plain (linked_are 0 es))
    ∙ entries_plain E es

transactions_cleared : (T : ℕ) (es : List EntryRecord) (ts : List TransactionRecord) → unlink_all 24 9 (dense linked_transaction_bytes T (begun_by es ts)) (length ts) ≡ dense transaction_bytes T ts
unfolding begun_by
transactions_cleared T es ts =
    ap (unlink_all 24 9 (dense linked_transaction_bytes T (begun_by es ts))) (sym (length-begun 0 es ts))
    ∙ unlinks transactions_have T (begun_by es ts)
    ∙ ap (dense linked_transaction_bytes T) (map-map _ _ ts)
    ∙ transactions_plain T ts

pub unlink_is : (E T : ℕ) (es : List EntryRecord) → lent (unlink_all 32 25 (linked_entries E es) (length es)) (unlink_all 24 9 (linked_transactions T es) (length (transactions_of es))) ≡ lent (dense entry_record_bytes E es) (dense transaction_bytes T (transactions_of es))
unlink_is E T es = rw (entries_cleared E es, transactions_cleared T es (transactions_of es))

-- What is read while the lists are linked: the records as without links, and the links.
-- Assumes nothing.
use mathlib.Core.Path.{◌≡◌, refl, sym, ap, ◌∙◌}
use mathlib.Core.List.{List, [], ◌∷◌, ◌++◌, map, map-append, map-map, map-id}
use Prim.Native.Nat.{ℕ, suc, ◌+◌, ◌-◌, ◌*◌, ◌^◌, ◌<◌}
use native.Mathlib.Nat.{add-zero, zero-add, mul-zero}
use native.Mathlib.Omega.{arith}
use lib.ListN.{length, drop, length-append}
use lib.Seq.{drop_at}
use Rattle.records.specs.Dense.{dense, records_of, All}
use Rattle.records.proofs.Dense.{dense_from}
use Rattle.lists.specs.Entries.{entry_record_at, EntryFits}
use Rattle.lists.specs.Transactions.{transaction_at, transactions_of}
use Rattle.lists.specs.declared.entries.EntryRecord.{EntryRecord}
use Rattle.lists.specs.declared.transactions.TransactionRecord.{TransactionRecord}
use Rattle.lists.proofs.TransactionRecords.{TransactionFits}
use Rattle.lists.proofs.Numbers.{transactions_fit}
use Rattle.chains.specs.Chain.{LinkedEntry, linked_entry_bytes, linked_transaction_bytes, first_from, linked_from, begun_by, linked_entries, linked_transactions}
use Rattle.chains.specs.Link.{spare_at}
use Rattle.chains.proofs.Records.{entry_to, transaction_to, length_linked_entry, length_linked_transaction, linked_entry_back, linked_transaction_back}
use Rattle.chains.proofs.Spare.{entries_have, transactions_have, link_read, entry_there, transaction_there}
use Rattle.chains.proofs.Firsts.{first_most, begun_from, length-begun, Begun, all_begun}
use Rattle.chains.proofs.Unlinking.{length_linked, linked_are}

-- ---- one record

-- the linked entries before others
linked_before : (i : ℕ) → (before after : List EntryRecord) → List LinkedEntry
linked_before i [] after = []
linked_before i (e ∷ es) after = entry_to e (first_from (suc i) e.tx_id (es ++ after)) ∷ linked_before (suc i) es after

length_before : (i : ℕ) (before after : List EntryRecord) → length (linked_before i before after) ≡ length before
unfolding linked_before
length_before i [] after = refl
length_before i (e ∷ es) after = ap suc (length_before (suc i) es after)

linked_append : (i : ℕ) (before after : List EntryRecord) → linked_from i (before ++ after) ≡ linked_before i before after ++ linked_from (i + length before) after
unfolding linked_from linked_before
linked_append i [] after = rw add-zero
linked_append i (e ∷ es) after =
    let n : i + suc (length es) ≡ suc i + length es = omega arith in
    rw (n, linked_append (suc i) es after)

module _ (E : ℕ) (es before : List EntryRecord) (e : EntryRecord) (after : List EntryRecord) (whole : es ≡ before ++ (e ∷ after)) where
  linked_split : linked_from 0 es ≡ linked_before 0 before (e ∷ after) ++ (entry_to e (first_from (suc (length before)) e.tx_id after) ∷ linked_from (suc (length before)) after)
  unfolding linked_from
  linked_split = rw whole (linked_append 0 before (e ∷ after) ∙ rw zero-add)

  pub entry_read : EntryFits e → entry_record_at (drop (32 * length before) (linked_entries E es)) ≡ e
  entry_read f = rw (linked_split, ← length_before 0 before (e ∷ after)) (entry_there E (linked_before 0 before (e ∷ after)) _ _ f)

  pub entry_link_read : length es < 2 ^ 56 → spare_at 32 25 (linked_entries E es) (length before) ≡ first_from (suc (length before)) e.tx_id after
  entry_link_read h =
      let n : length es ≡ length before + suc (length after) = ap length whole ∙ length-append before (e ∷ after) in
      let f : first_from (suc (length before)) e.tx_id after < 2 ^ 56 = omega (arith, first_most (suc (length before)) e.tx_id after) in
      rw linked_split (rw (length_before 0 before (e ∷ after)) at (link_read entries_have E (linked_before 0 before (e ∷ after)) (entry_to e (first_from (suc (length before)) e.tx_id after)) (linked_from (suc (length before)) after) f))

module _ (T : ℕ) (es : List EntryRecord) (before : List TransactionRecord) (t : TransactionRecord) (after : List TransactionRecord) (whole : transactions_of es ≡ before ++ (t ∷ after)) where
  begun_split : begun_by es (transactions_of es) ≡ begun_from 0 es before ++ (transaction_to t (first_from 0 t.tx_id es) ∷ begun_from 0 es after)
  unfolding begun_by
  begun_split = rw (whole, map-append)

  pub transaction_read : TransactionFits t → transaction_at (drop (24 * length before) (linked_transactions T es)) ≡ t
  transaction_read f = rw (begun_split, ← length-begun 0 es before) (transaction_there T (begun_from 0 es before) _ _ f)

  pub transaction_link_read : length es < 2 ^ 56 → spare_at 24 9 (linked_transactions T es) (length before) ≡ first_from 0 t.tx_id es
  transaction_link_read h =
      let f : first_from 0 t.tx_id es < 2 ^ 56 = omega (arith, first_most 0 t.tx_id es) in
      rw (begun_split, ← length-begun 0 es before) (link_read transactions_have T (begun_from 0 es before) (transaction_to t (first_from 0 t.tx_id es)) (begun_from 0 es after) f)

-- ---- all the records

-- by a reader of what was written but the link
module _ {R Q : Type 0} (bytes : R → List ℕ) (size : ℕ) (sized : (r : R) → length (bytes r) ≡ size)
    (read : List ℕ → Q) (of : R → Q) (Good : R → Type 0) (back : (r : R) (rest : List ℕ) → Good r → read (bytes r ++ rest) ≡ of r) where
  records_read : (room : ℕ) (rs : List R) → All Good rs → records_of size read (length rs) (dense bytes room rs) ≡ map of rs
  unfolding records_of
  records_read room [] gs = refl
  records_read room (r ∷ rs) gs =
      let e : dense bytes room (r ∷ rs) ≡ bytes r ++ dense bytes (room - 0 - size) rs = rw mul-zero at (dense_from bytes size sized room [] r rs) in
      rw (e, back r (dense bytes (room - 0 - size) rs) gs.0, drop_at (bytes r) (dense bytes (room - 0 - size) rs) size (sized r), records_read (room - 0 - size) rs gs.1)

entries_fit : (i : ℕ) (es : List EntryRecord) → All EntryFits es → All (λ (l : LinkedEntry). EntryFits l.entry) (linked_from i es)
unfolding linked_from
entries_fit i [] fs = tt
entries_fit i (e ∷ es) fs = (fs.0, entries_fit (suc i) es fs.1)

pub entries_read : (E : ℕ) (es : List EntryRecord) → All EntryFits es → records_of 32 entry_record_at (length es) (linked_entries E es) ≡ es
entries_read E es fs =
    ap (λ (n : ℕ). records_of 32 entry_record_at n (linked_entries E es)) (sym (length_linked 0 es))
    ∙ records_read linked_entry_bytes 32 length_linked_entry entry_record_at (λ l. l.entry) (λ l. EntryFits l.entry) linked_entry_back E (linked_from 0 es) (entries_fit 0 es fs)
    ∙ linked_are 0 es

pub transactions_read : (T : ℕ) (es : List EntryRecord) → All EntryFits es → length es < 2 ^ 64 → records_of 24 transaction_at (length (transactions_of es)) (linked_transactions T es) ≡ transactions_of es
unfolding begun_by
transactions_read T es fs h =
    let ts = transactions_of es in
    ap (λ (n : ℕ). records_of 24 transaction_at n (linked_transactions T es)) (sym (length-begun 0 es ts))
    ∙ records_read linked_transaction_bytes 24 length_linked_transaction transaction_at (λ l. l.transaction) (Begun 0 es) (λ l rest b. linked_transaction_back l rest b.fits) T (begun_by es ts) (all_begun 0 es ts (transactions_fit es fs h))
    ∙ map-map _ _ ts
    ∙ map-id ts

-- The lists around a run: linked before it, its used parts lent to it, and unlinked after it.
-- Assumes nothing.
use mathlib.Core.Path.{◌≡◌, sym, ap, ◌∙◌}
use mathlib.Core.List.{List, [], append-nil}
use Prim.Native.Nat.{ℕ, ◌-◌, ◌*◌, ◌/◌, ◌^◌, ◌<◌}
use native.Mathlib.Omega.{arith}
use lib.ListN.{length, take}
use lib.Seq.{take_at}
use Rattle.records.specs.Dense.{bytes_of, dense, All}
use Rattle.records.proofs.Dense.{length_read, length_records, dense_length}
use Rattle.lists.specs.Entries.{entry_record_at, entry_record_bytes, EntryFits}
use Rattle.lists.specs.Transactions.{transaction_bytes, transactions_of}
use Rattle.lists.specs.declared.entries.EntryRecord.{EntryRecord}
use Rattle.lists.specs.declared.transactions.TransactionRecord.{TransactionRecord}
use Rattle.chains.specs.Chain.{linked_entry_bytes, linked_transaction_bytes, linked_from, begun_by, linked_entries, linked_transactions}
use Rattle.chains.specs.Link.{Lent, lent, link_all, unlink_all}
use Rattle.chains.proofs.Records.{length_linked_entry, length_linked_transaction}
use Rattle.chains.proofs.Linking.{link_is}
use Rattle.chains.proofs.Unlinking.{length_linked, unlink_is}
use Rattle.chains.proofs.Firsts.{length-begun}
use Rattle.chains.proofs.Reading.{entries_read}
use Rattle.recovery.specs.Payload.{EntryIn}
use Rattle.store.specs.Order.{replayed}
use Rattle.store.specs.Change.{run_of}
use Rattle.refusal.specs.Answer.{Answer}
use Rattle.store.specs.Running.{entries_in, Linked, Ran, ran_in, listed_in_of, Listing}

-- ---- the used part of a list

module _ {R : Type 0} (bytes : R → List ℕ) (size : ℕ) (sized : (r : R) → length (bytes r) ≡ size) where
  used_part : (room : ℕ) (rs : List R) → take (size * length rs) (dense bytes room rs) ≡ dense bytes (size * length rs) rs
  unfolding dense
  used_part room rs =
      let n = length_records bytes size sized rs in
      let z : size * length rs - length (bytes_of bytes rs) ≡ 0 = omega arith in
      rw (take_at (bytes_of bytes rs) _ (size * length rs) n, z, append-nil)

begun_length : (es : List EntryRecord) (ts : List TransactionRecord) → length (begun_by es ts) ≡ length ts
unfolding begun_by
begun_length es ts = length-begun 0 es ts

module _ (es : List EntryRecord) where
  entries_part : (E : ℕ) → take (32 * length es) (linked_entries E es) ≡ linked_entries (32 * length es) es
  entries_part E = rw (length_linked 0 es) at (used_part linked_entry_bytes 32 length_linked_entry E (linked_from 0 es))

  transactions_part : (T : ℕ) → take (24 * length (transactions_of es)) (linked_transactions T es) ≡ linked_transactions (24 * length (transactions_of es)) es
  transactions_part T = rw (begun_length es (transactions_of es)) at (used_part linked_transaction_bytes 24 length_linked_transaction T (begun_by es (transactions_of es)))

  entries_length : length (linked_entries (32 * length es) es) ≡ 32 * length es
  entries_length = dense_length linked_entry_bytes 32 length_linked_entry (32 * length es) (linked_from 0 es) (rw (length_linked 0 es) (omega arith))

  transactions_length : length (linked_transactions (24 * length (transactions_of es)) es) ≡ 24 * length (transactions_of es)
  transactions_length = dense_length linked_transaction_bytes 24 length_linked_transaction (24 * length (transactions_of es)) (begun_by es (transactions_of es)) (rw (begun_length es (transactions_of es)) (omega arith))

-- the used parts, linked
module _ (area : List ℕ) (es : List EntryRecord) (fit : All EntryFits es) (few : length es < 2 ^ 56) (in_area : All (EntryIn area) es) (s t : List ℕ) (entries : s ≡ linked_entries (32 * length es) es) (transactions : t ≡ linked_transactions (24 * length (transactions_of es)) es) where
  length_s : length s ≡ 32 * length es
  length_s = ap (λ (l : List ℕ). length l) entries ∙ entries_length es

  length_t : length t ≡ 24 * length (transactions_of es)
  length_t = ap (λ (l : List ℕ). length l) transactions ∙ transactions_length es

  pub entries_back : entries_in s ≡ es
  entries_back =
      let n : length s / 32 ≡ length es = omega (arith, length_s) in
      rw (n, entries) (entries_read (32 * length es) es fit)

  pub linked_so : Linked area s t
  linked_so =
      record {
        entries_are = rw (entries_back, length_s) entries;
        transactions_are = rw (entries_back, length_t) transactions;
        count = rw entries_back length_t;
        fit = rw entries_back fit;
        few = rw entries_back few;
        in_area = rw entries_back in_area;
      }

-- ---- before and after a run

module _ (area entries : List ℕ) (n : ℕ) (transactions : List ℕ) (m : ℕ) (l : Listing area entries n transactions m) where
  abbrev es : List EntryRecord
  es = listed_in_of n entries

  counted : length es ≡ n
  counted = length_read 32 entry_record_at n entries

  abbrev plain : Lent
  plain = lent (dense entry_record_bytes (length entries) es) (dense transaction_bytes (length transactions) (transactions_of es))

  abbrev chained : List ℕ
  chained = linked_entries (length entries) es

  abbrev begun : List ℕ
  begun = linked_transactions (length transactions) es

  is_plain : lent entries transactions ≡ plain
  is_plain = ap (λ (v : List ℕ). lent v transactions) l.entries_are ∙ ap (λ (v : List ℕ). lent plain.entries v) l.transactions_are

  -- the lists that `link` leaves
  module _ (entries' transactions' : List ℕ) (e : lent entries' transactions' ≡ link_all (lent entries transactions) m n) where
    linked : lent entries' transactions' ≡ lent chained begun
    linked =
        e
        ∙ ap (λ (v : Lent). link_all v m n) is_plain
        ∙ ap (λ (v : ℕ). link_all plain v n) l.count
        ∙ ap (link_all plain (length (transactions_of es))) (sym counted)
        ∙ link_is (length entries) (length transactions) es l.fit (rw counted l.few)

    entries_lent : take (32 * n) entries' ≡ linked_entries (32 * length es) es
    entries_lent =
        ap (λ (v : Lent). take (32 * n) v.entries) linked
        ∙ ap (λ (v : ℕ). take (32 * v) chained) (sym counted)
        ∙ entries_part es (length entries)

    transactions_lent : take (24 * m) transactions' ≡ linked_transactions (24 * length (transactions_of es)) es
    transactions_lent =
        ap (λ (v : Lent). take (24 * m) v.transactions) linked
        ∙ ap (λ (v : ℕ). take (24 * v) begun) l.count
        ∙ transactions_part es (length transactions)

    pub lent_linked : Linked area (take (32 * n) entries') (take (24 * m) transactions')
    lent_linked = linked_so area es l.fit (rw counted l.few) l.in_area _ _ entries_lent transactions_lent

    lent_entries : entries_in (take (32 * n) entries') ≡ es
    lent_entries = entries_back area es l.fit (rw counted l.few) l.in_area _ _ entries_lent transactions_lent

    -- a run over them, in a table of as many bytes as it had
    pub lent_ran : (a b : ℕ) → a ≡ b → (x : Answer Ran) → x ≡ ran_in a (run_of (a / 320) area (replayed (entries_in (take (32 * n) entries'))) []) → x ≡ ran_in b (run_of (b / 320) area (replayed es) [])
    lent_ran a b q x f = rw (q, lent_entries) at f

    -- and those that `unlink` leaves
    pub unlinked : (entries'' transactions'' : List ℕ) → lent entries'' transactions'' ≡ lent (unlink_all 32 25 entries' n) (unlink_all 24 9 transactions' m) → lent entries'' transactions'' ≡ lent entries transactions
    unlinked entries'' transactions'' f =
        f
        ∙ ap (λ (v : Lent). lent (unlink_all 32 25 v.entries n) (unlink_all 24 9 v.transactions m)) linked
        ∙ ap (λ (v : ℕ). lent (unlink_all 32 25 chained v) (unlink_all 24 9 begun m)) (sym counted)
        ∙ ap (λ (v : ℕ). lent (unlink_all 32 25 chained (length es)) (unlink_all 24 9 begun v)) l.count
        ∙ unlink_is (length entries) (length transactions) es
        ∙ sym is_plain

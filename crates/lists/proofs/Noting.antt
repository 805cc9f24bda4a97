-- An entry noted in the bytes of dense transactions is the entry noted among them.
-- Assumes nothing.
use Rattle.std.proofs.Common.{◌≡◌, ℕ, ◌+◌, ◌*◌, ◌/◌, ◌≤◌, cond, leb, List, ◌∷◌, ◌++◌, length, refl, arith, length-append, le-leb}
use borrow.Author.Tests.{lt-leb}
use Rattle.fields.proofs.Cases.{case_b, tests}
use Rattle.records.specs.Dense.{dense, All}
use Rattle.records.specs.Sorted.{compare_numbers, place_of, Ascends}
use Rattle.std.specs.declared.result.Result.{Result}
use Rattle.std.specs.declared.result.Result.TheVariants.{Ok, Err}
use Rattle.records.proofs.Dense.{all_at, dense_length, dense_changed, dense_inserted, record_back}
use Rattle.records.proofs.Sorted.{numbers_order, place_at, place_gap}
use Rattle.records.proofs.Halving.{halve_dense}
use Rattle.lists.specs.Transactions.{transaction_at, transaction_bytes, noted, begun, tx_number, note}
use Rattle.lists.specs.Admit.{Ledger, order_in, noted_at, begun_at, begin_of, note_by, note_of}
use Rattle.lists.specs.declared.admit.Full.TheVariants.{Room, Transactions}
use Rattle.lists.specs.declared.entries.EntryRecord.{EntryRecord}
use Rattle.lists.specs.declared.transactions.TransactionRecord.{TransactionRecord}
use Rattle.lists.proofs.TransactionRecords.{TransactionFits, length-transaction, transaction_back}

-- transactions that are dense in T bytes
module _ (T : ℕ) where
  abbrev pub table : List TransactionRecord → List ℕ
  table ts = dense transaction_bytes T ts

  -- a record that takes one more entry, and a new record
  noted_dense : (before : List TransactionRecord) (t : TransactionRecord) (after : List TransactionRecord) (e : EntryRecord) → TransactionFits t → noted_at (table (before ++ (t ∷ after))) (length before) e ≡ table (before ++ (noted e t ∷ after))
  noted_dense before t after e f =
      rw (record_back transaction_bytes 24 length-transaction transaction_at TransactionFits transaction_back T before t after f)
      (dense_changed transaction_bytes 24 length-transaction T before t after (noted e t))

  begun_dense : (before after : List TransactionRecord) (e : EntryRecord) → 24 * (length (before ++ after) + 1) ≤ T → begun_at (table (before ++ after)) (length (before ++ after)) (length before) e ≡ table (before ++ (begun e ∷ after))
  begun_dense before after e h = dense_inserted transaction_bytes 24 length-transaction T before after (begun e) h

  abbrev pub roomy : List TransactionRecord → Ledger
  roomy ts = record { transactions = table ts; count = length ts; full = Room }

  abbrev pub full : List TransactionRecord → Ledger
  full ts = record { transactions = table ts; count = length ts; full = Transactions }

  -- a record is left for the new number, or it has one already; else the transactions are full
  abbrev pub note_to : (old new : List TransactionRecord) → Ledger
  note_to old new = cond (leb (length new) (T / 24)) (roomy new) (full old)

  note_standing : (ts before : List TransactionRecord) (t : TransactionRecord) (after : List TransactionRecord) (e : EntryRecord) → ts ≡ before ++ (t ∷ after) → TransactionFits t → length ts ≤ T / 24 → note_by (Ok (length before)) (table ts) (length ts) e ≡ note_to ts (before ++ (noted e t ∷ after))
  note_standing ts before t after e w f h =
      let n : length (before ++ (noted e t ∷ after)) ≡ length ts = rw w (simp length-append) in
      rw (n, le-leb (length ts) (T / 24) h, w, noted_dense before t after e f)

  note_missing : (ts before after : List TransactionRecord) (e : EntryRecord) → ts ≡ before ++ after → length ts ≤ T / 24 → note_by (Err (length before)) (table ts) (length ts) e ≡ note_to ts (before ++ (begun e ∷ after))
  unfolding begin_of
  note_missing ts before after e w h =
      let n : length (before ++ (begun e ∷ after)) ≡ length ts + 1 = rw w (simp length-append (omega arith)) in
      let r = dense_length transaction_bytes 24 length-transaction T ts (omega arith) in
      case_b (leb (T / 24) (length ts))
      (λ p. rw (r, p, n, lt-leb (length ts + 1) (T / 24) (omega (arith, tests))))
      (λ p.
      let l : length ts + 1 ≤ T / 24 = omega (arith, tests) in
      rw (r, p, n, le-leb (length ts + 1) (T / 24) l, w, begun_dense before after e (rw (← w) (omega arith))))

  pub note_dense : (ts : List TransactionRecord) (e : EntryRecord) → Ascends compare_numbers tx_number ts → All TransactionFits ts → length ts ≤ T / 24 → note_of (table ts) (length ts) e ≡ note_to ts (note e ts)
  unfolding note_of order_in note
  note_dense ts e a fs h =
      rw (halve_dense compare_numbers numbers_order tx_number e.tx_id transaction_bytes 24 length-transaction transaction_at TransactionFits transaction_back T ts a fs)
      (told (place_of compare_numbers tx_number e.tx_id ts) refl)
    where
      told : (f : Result ℕ ℕ) → place_of compare_numbers tx_number e.tx_id ts ≡ f → note_by f (table ts) (length ts) e ≡ note_to ts (note e ts)
      told (Ok k) q =
          let s = place_at compare_numbers tx_number e.tx_id ts k q in
          let f = all_at TransactionFits s.before s.found s.after (rw s.whole at fs) in
          rw (← s.place, s.changed (noted e) (begun e)) (note_standing ts s.before s.found s.after e s.whole f h)
      told (Err k) q =
          let m = place_gap compare_numbers tx_number e.tx_id ts k q in
          rw (← m.place, m.inserted (noted e) (begun e)) (note_missing ts m.before m.after e m.whole h)

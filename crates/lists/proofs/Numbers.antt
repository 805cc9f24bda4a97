-- The transactions of a log's entries: they ascend, a number has one exactly if an entry has it, and it is what the log
-- says of the number.
-- Assumes nothing.
use Rattle.std.proofs.Common.{◌≡◌, ℕ, suc, ◌+◌, ◌^◌, ◌<◌, ◌≤◌, true, false, eqb, List, [], ◌∷◌, length, sym, refl, ◌∙◌, add-zero, add_assoc, zero-add, arith, eqb-true}
use mathlib.Core.Option.{none, some}
use borrow.Author.Tests.{eqb-false}
use Rattle.fields.proofs.Cases.{case_b}
use Rattle.records.specs.Sorted.{compare_numbers, put, record_of, Ascends}
use Rattle.records.specs.Dense.{All}
use Rattle.records.proofs.Sorted.{numbers_order, case_o, changed_or, put_length, put_ascends, put_record, put_other}
use Rattle.lists.specs.Transactions.{noted, begun, tx_number, note, note_all, transactions_of, transaction_of}
use Rattle.lists.specs.Markers.{has_number, marker_of, or_else, last_marker, to_count, count_of, said_of, is_there}
use Rattle.lists.specs.declared.entries.EntryRecord.{EntryRecord}
use Rattle.lists.specs.declared.transactions.RecoveryAction.{RecoveryAction}
use Rattle.lists.specs.declared.transactions.RecoveryAction.TheVariants.{Incomplete, Commit, Rollback}
use Rattle.lists.specs.declared.transactions.TransactionRecord.{TransactionRecord}
use Rattle.lists.specs.Entries.{EntryFits}
use Rattle.lists.proofs.TransactionRecords.{TransactionFits}

-- ---- one more entry of a transaction

or_else_assoc : (a b c : RecoveryAction) → or_else (or_else a b) c ≡ or_else a (or_else b c)
or_else_assoc Incomplete b c = refl
or_else_assoc Commit b c = refl
or_else_assoc Rollback b c = refl

or_else_none : (a : RecoveryAction) → or_else a Incomplete ≡ a
or_else_none Incomplete = refl
or_else_none Commit = refl
or_else_none Rollback = refl

-- its marker, or else the action it had; and one more, if it is no marker
noted_is : (e : EntryRecord) (t : TransactionRecord) → noted e t ≡ record { tx_id = t.tx_id; action = or_else (marker_of e.kind) t.action; count = t.count + to_count e.kind }
unfolding noted
noted_is e t = refl

begun_is : (e : EntryRecord) → begun e ≡ record { tx_id = e.tx_id; action = marker_of e.kind; count = to_count e.kind }
unfolding begun noted
begun_is e = rw (or_else_none (marker_of e.kind), zero-add)

module _ (e : EntryRecord) where
  noted_keeps : (t : TransactionRecord) → tx_number t ≡ e.tx_id → tx_number (noted e t) ≡ e.tx_id
  noted_keeps t q = rw (noted_is e t) q

  begun_number : tx_number (begun e) ≡ e.tx_id
  begun_number = rw (begun_is e)

-- ---- "Transactions strictly ascend by number"

note_ascends : (e : EntryRecord) (ts : List TransactionRecord) → Ascends compare_numbers tx_number ts → Ascends compare_numbers tx_number (note e ts)
unfolding note
note_ascends e ts a =
    put_ascends compare_numbers numbers_order tx_number e.tx_id (noted e) (begun e) (noted_keeps e) (begun_number e) ts a

ascends_from : (ts : List TransactionRecord) (es : List EntryRecord) → Ascends compare_numbers tx_number ts → Ascends compare_numbers tx_number (note_all ts es)
unfolding note_all
ascends_from ts [] a = a
ascends_from ts (e ∷ es) a = ascends_from (note e ts) es (note_ascends e ts a)

pub transactions_ascend : (es : List EntryRecord) → Ascends compare_numbers tx_number (transactions_of es)
unfolding transactions_of
transactions_ascend es = ascends_from [] es tt

-- ---- how many there are

pub note_length : (e : EntryRecord) (ts : List TransactionRecord) → (length ts ≤ length (note e ts)) × (length (note e ts) ≤ suc (length ts))
unfolding note
note_length e ts = put_length compare_numbers tx_number e.tx_id (noted e) (begun e) ts

most_from : (ts : List TransactionRecord) (es : List EntryRecord) → length (note_all ts es) ≤ length ts + length es
unfolding note_all
most_from ts [] = omega arith
most_from ts (e ∷ es) = omega (arith, note_length e ts, most_from (note e ts) es)

pub transactions_most : (es : List EntryRecord) → length (transactions_of es) ≤ length es
unfolding transactions_of
transactions_most es = omega (arith, most_from [] es)

-- ---- the transaction of a number

note_record : (number : ℕ) (e : EntryRecord) (ts : List TransactionRecord) → eqb e.tx_id number ≡ true → transaction_of number (note e ts) ≡ some (changed_or (noted e) (begun e) (transaction_of number ts))
unfolding note
note_record number e ts p =
    rw (← eqb-true e.tx_id number p)
    (put_record compare_numbers numbers_order tx_number e.tx_id (noted e) (begun e) (noted_keeps e) (begun_number e) ts)

note_other : (number : ℕ) (e : EntryRecord) (ts : List TransactionRecord) → eqb e.tx_id number ≡ false → transaction_of number (note e ts) ≡ transaction_of number ts
unfolding note
note_other number e ts p =
    put_other compare_numbers numbers_order tx_number e.tx_id (noted e) (begun e) (noted_keeps e) (begun_number e) number
    (λ q. eqb-false e.tx_id number p (sym q)) ts

-- from a number that has a record
said_from : (number : ℕ) (es : List EntryRecord) (ts : List TransactionRecord) (t : TransactionRecord) → transaction_of number ts ≡ some t → transaction_of number (note_all ts es) ≡ some (record { tx_id = t.tx_id; action = or_else (last_marker number es) t.action; count = t.count + count_of number es })
unfolding note_all last_marker count_of
said_from number [] ts t h = rw (h, add-zero)
said_from number (e ∷ es) ts t h =
    case_b (eqb e.tx_id number)
    (λ p.
    let n : transaction_of number (note e ts) ≡ some (noted e t) = note_record number e ts p ∙ rw h in
    rw (p, said_from number es (note e ts) (noted e t) n, noted_is e t, or_else_assoc, add_assoc))
    (λ p.
    let n : transaction_of number (note e ts) ≡ some t = note_other number e ts p ∙ h in
    rw (p, said_from number es (note e ts) t n, or_else_assoc, zero-add))

-- from one that has none
said_new : (number : ℕ) (es : List EntryRecord) (ts : List TransactionRecord) → transaction_of number ts ≡ none → transaction_of number (note_all ts es) ≡ said_of number es
unfolding note_all said_of has_number last_marker count_of
said_new number [] ts h = h
said_new number (e ∷ es) ts h =
    case_b (eqb e.tx_id number)
    (λ p.
    let n : transaction_of number (note e ts) ≡ some (begun e) = note_record number e ts p ∙ rw h in
    rw (p, said_from number es (note e ts) (begun e) n, begun_is e, eqb-true e.tx_id number p))
    (λ p.
    let n : transaction_of number (note e ts) ≡ none = note_other number e ts p ∙ h in
    rw (p, said_new number es (note e ts) n, or_else_none, zero-add))

pub transaction_is : (number : ℕ) (es : List EntryRecord) → transaction_of number (transactions_of es) ≡ said_of number es
unfolding transactions_of record_of
transaction_is number es = said_new number es [] refl

-- a number has a transaction exactly if an entry has the number
pub transactions_numbers : (number : ℕ) (es : List EntryRecord) → is_there (transaction_of number (transactions_of es)) ≡ has_number number es
unfolding said_of
transactions_numbers number es =
    rw (transaction_is number es) (case_b (has_number number es) (λ p. rw p) (λ p. rw p))

-- ---- the transactions have 8 bytes for each number

-- a transaction of at most m entries
record Within (m : ℕ) (t : TransactionRecord) : Type 0 where
  tx_id : t.tx_id < 2 ^ 64
  count : t.count ≤ m

one_most : (kind : ℕ) → to_count kind ≤ 1
one_most kind =
    case_b (eqb kind 3) (λ p. rw p (omega arith)) (λ p. case_b (eqb kind 4) (λ q. rw (p, q) (omega arith)) (λ q. rw (p, q) (omega arith)))

within_noted : (m : ℕ) (e : EntryRecord) (t : TransactionRecord) → Within m t → Within (suc m) (noted e t)
within_noted m e t w =
    let h = w.count in
    rw (noted_is e t) (record { tx_id = w.tx_id; count = omega (arith, one_most e.kind) })

within_begun : (m : ℕ) (e : EntryRecord) → e.tx_id < 2 ^ 64 → Within (suc m) (begun e)
within_begun m e h = rw (begun_is e) (record { tx_id = h; count = omega (arith, one_most e.kind) })

within_more : (m : ℕ) (t : TransactionRecord) → Within m t → Within (suc m) t
within_more m t w = let h = w.count in record { tx_id = w.tx_id; count = omega arith }

all_more : (m : ℕ) (ts : List TransactionRecord) → All (Within m) ts → All (Within (suc m)) ts
all_more m [] ws = tt
all_more m (t ∷ ts) ws = (within_more m t ws.0, all_more m ts ws.1)

within_note : (m : ℕ) (e : EntryRecord) (ts : List TransactionRecord) → e.tx_id < 2 ^ 64 → All (Within m) ts → All (Within (suc m)) (note e ts)
unfolding note put
within_note m e [] h ws = (within_begun m e h, tt)
within_note m e (t ∷ ts) h ws =
    case_o (compare_numbers t.tx_id e.tx_id)
    (λ q. rw q (within_more m t ws.0, within_note m e ts h ws.1))
    (λ q. rw q (within_noted m e t ws.0, all_more m ts ws.1))
    (λ q. rw q (within_begun m e h, all_more m (t ∷ ts) ws))

within_from : (m : ℕ) (ts : List TransactionRecord) (es : List EntryRecord) → All EntryFits es → All (Within m) ts → All (Within (m + length es)) (note_all ts es)
unfolding note_all
within_from m ts [] fs ws = rw add-zero ws
within_from m ts (e ∷ es) fs ws =
    let n : m + suc (length es) ≡ suc m + length es = omega arith in
    rw n (within_from (suc m) (note e ts) es fs.1 (within_note m e ts fs.0.tx_id ws))

all_fit : (m : ℕ) (ts : List TransactionRecord) → m < 2 ^ 64 → All (Within m) ts → All TransactionFits ts
all_fit m [] h ws = tt
all_fit m (t ∷ ts) h ws =
    let l = ws.0.count in
    (record { tx_id = ws.0.tx_id; count = omega arith }, all_fit m ts h ws.1)

pub transactions_fit : (es : List EntryRecord) → All EntryFits es → length es < 2 ^ 64 → All TransactionFits (transactions_of es)
unfolding transactions_of
transactions_fit es fs h = all_fit (0 + length es) (note_all [] es) (omega arith) (within_from 0 [] es fs tt)

-- The transactions with their first entries: what one more entry before the others changes of them.
-- Assumes nothing.
use mathlib.Core.Path.{◌≡◌, refl, sym, ap}
use mathlib.Core.Bool.{true, or-true}
use mathlib.Core.List.{List, [], ◌∷◌, ◌++◌, map}
use Prim.Native.Nat.{ℕ, suc, ◌+◌, ◌≤◌}
use native.Mathlib.Omega.{arith}
use borrow.Author.Tests.{eq-eqb, ne_eqb}
use lib.Dec.{eqb}
use lib.ListN.{length, length-map}
use Rattle.std.specs.declared.cmp.Ordering.TheVariants.{Less}
use Rattle.fields.proofs.Cases.{case_b}
use Rattle.records.specs.Sorted.{compare_numbers, put, record_of, Before, Ascends}
use Rattle.records.specs.Dense.{All}
use Rattle.records.proofs.Sorted.{numbers_order, case_o}
use Rattle.lists.specs.Transactions.{tx_number, transaction_of}
use Rattle.lists.specs.Markers.{has_number, is_there}
use Rattle.lists.specs.declared.entries.EntryRecord.{EntryRecord}
use Rattle.lists.specs.declared.transactions.TransactionRecord.{TransactionRecord}
use Rattle.lists.proofs.TransactionRecords.{TransactionFits}
use Rattle.chains.specs.Chain.{LinkedTransaction, first_from}
use Rattle.chains.proofs.Records.{transaction_to}

pub first_most : (i number : ℕ) (es : List EntryRecord) → first_from i number es ≤ i + length es
unfolding first_from
first_most i number [] = omega arith
first_most i number (e ∷ es) =
    case_b (eqb e.tx_id number) (λ p. rw p (omega arith)) (λ p. rw p (omega (arith, first_most (suc i) number es)))

-- the entry at the front is the first of its number, and of no other
first_same : (i : ℕ) (e : EntryRecord) (es : List EntryRecord) (number : ℕ) → e.tx_id ≡ number → first_from i number (e ∷ es) ≡ suc i
unfolding first_from
first_same i e es number q = rw (eq-eqb e.tx_id number q)

first_other : (i : ℕ) (e : EntryRecord) (es : List EntryRecord) (number : ℕ) → (e.tx_id ≡ number → ⊥) → first_from i number (e ∷ es) ≡ first_from (suc i) number es
unfolding first_from
first_other i e es number n = rw (ne_eqb e.tx_id number n)

pub has_number_lem : (before : List EntryRecord) (e : EntryRecord) (after : List EntryRecord) → has_number e.tx_id (before ++ (e ∷ after)) ≡ true
unfolding has_number
has_number_lem [] e after = rw (eq-eqb e.tx_id e.tx_id refl)
has_number_lem (b ∷ bs) e after = rw (has_number_lem bs e after, or-true)

less_apart : (a b : ℕ) → compare_numbers a b ≡ Less → a ≡ b → ⊥
less_apart a b q e =
    let s : compare_numbers b b ≡ Less = rw e at q in
    let z : ◌≡◌ {A = ℕ} 0 1 = cc (numbers_order.same b) in
    absurd (omega arith)

abbrev pub linked_number : LinkedTransaction → ℕ
linked_number l = l.transaction.tx_id

-- each transaction with the link to its first entry, of entries that stand in the list from place i on
abbrev pub begun_from : (i : ℕ) → List EntryRecord → List TransactionRecord → List LinkedTransaction
begun_from i es ts = map (λ (t : TransactionRecord). transaction_to t (first_from i t.tx_id es)) ts

module _ (i : ℕ) (es : List EntryRecord) where
  pub length-begun : (ts : List TransactionRecord) → length (begun_from i es ts) ≡ length ts
  length-begun ts = length-map ts _

  -- a transaction that can be read, with its link
  pub record Begun (l : LinkedTransaction) : Type 0 where
    pub fits : TransactionFits l.transaction
    pub first : l.first ≡ first_from i (linked_number l) es

  pub all_begun : (ts : List TransactionRecord) → All TransactionFits ts → All Begun (begun_from i es ts)
  all_begun [] fs = tt
  all_begun (t ∷ ts) fs = (record { fits = fs.0; first = refl }, all_begun ts fs.1)

  begun_before : (t : TransactionRecord) (ts : List TransactionRecord) → Before compare_numbers tx_number t ts → Before compare_numbers linked_number (transaction_to t (first_from i t.tx_id es)) (begun_from i es ts)
  begun_before t [] b = tt
  begun_before t (s ∷ ts) b = b

  pub begun_ascends : (ts : List TransactionRecord) → Ascends compare_numbers tx_number ts → Ascends compare_numbers linked_number (begun_from i es ts)
  begun_ascends [] a = tt
  begun_ascends (t ∷ ts) a = (begun_before t ts a.0, begun_ascends ts a.1)

-- one more entry before the others
module _ (i : ℕ) (e : EntryRecord) (es : List EntryRecord) where
  -- numbers above its own are begun as they were
  begun_above : (t : TransactionRecord) (ts : List TransactionRecord) → compare_numbers e.tx_id t.tx_id ≡ Less → Ascends compare_numbers tx_number (t ∷ ts) → begun_from (suc i) es (t ∷ ts) ≡ begun_from i (e ∷ es) (t ∷ ts)
  begun_above t [] q a = rw (first_other i e es t.tx_id (less_apart e.tx_id t.tx_id q))
  begun_above t (s ∷ ts) q a =
      rw (first_other i e es t.tx_id (less_apart e.tx_id t.tx_id q))
      (ap (λ (ls : List LinkedTransaction). transaction_to t (first_from (suc i) t.tx_id es) ∷ ls)
      (begun_above s ts (numbers_order.trans e.tx_id t.tx_id s.tx_id q a.0) a.1))

  begun_behind : (t : TransactionRecord) (ts : List TransactionRecord) → e.tx_id ≡ t.tx_id → Ascends compare_numbers tx_number (t ∷ ts) → begun_from (suc i) es ts ≡ begun_from i (e ∷ es) ts
  begun_behind t [] q a = refl
  begun_behind t (s ∷ ts) q a = begun_above s ts (rw q a.0) a.1

  -- its own transaction begins with it
  abbrev pub begins_here : LinkedTransaction → LinkedTransaction
  begins_here l = transaction_to l.transaction (suc i)

  pub begun_put : (new : LinkedTransaction) (ts : List TransactionRecord) → Ascends compare_numbers tx_number ts → is_there (transaction_of e.tx_id ts) ≡ true
      → put compare_numbers linked_number e.tx_id begins_here new (begun_from (suc i) es ts) ≡ begun_from i (e ∷ es) ts
  unfolding put record_of
  begun_put new [] a h = let z : ◌≡◌ {A = ℕ} 0 1 = cc in absurd (omega arith)
  begun_put new (t ∷ ts) a h =
      case_o (compare_numbers t.tx_id e.tx_id)
      (λ q.
      let n = less_apart t.tx_id e.tx_id q in
      rw (q, first_other i e es t.tx_id (λ p. n (sym p)), begun_put new ts a.1 (rw q at h)))
      (λ q.
      let n : e.tx_id ≡ t.tx_id = sym (numbers_order.equal t.tx_id e.tx_id q) in
      rw (q, first_same i e es t.tx_id n, begun_behind t ts n a))
      (λ q. let z : ◌≡◌ {A = ℕ} 0 1 = cc in absurd (omega arith))

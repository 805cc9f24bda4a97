-- Replay's order, from a transaction's place on: one that is passed over is not in it.
-- Assumes nothing.
use mathlib.Core.Path.{◌≡◌, refl, sym, ap, ◌∙◌}
use mathlib.Core.Bool.{true, false}
use mathlib.Core.List.{List, [], ◌∷◌}
use Prim.Native.Nat.{ℕ, zero, suc, ◌+◌, ◌-◌, ◌*◌, ◌/◌, ◌<◌, ◌≤◌}
use native.Mathlib.Numerals.{add-one}
use native.Mathlib.Omega.{arith}
use lib.ListN.{length, drop}
use Rattle.fields.proofs.Cases.{case_b}
use Rattle.records.specs.Dense.{records_of}
use Rattle.records.proofs.Dense.{read_turn}
use Rattle.lists.specs.Markers.{if_committed}
use Rattle.lists.specs.Transactions.{transaction_at, transactions_of}
use Rattle.lists.specs.declared.transactions.RecoveryAction.{RecoveryAction}
use Rattle.lists.specs.declared.transactions.RecoveryAction.TheVariants.{Incomplete, Commit, Rollback}
use Rattle.lists.specs.declared.transactions.TransactionRecord.{TransactionRecord}
use Rattle.chains.proofs.Reading.{transactions_read}
use Rattle.store.specs.Order.{committed_of, replay_order}
use Rattle.store.specs.Running.{transactions_from, entries_in, Linked}

if_not : {A : Type 0} (a : RecoveryAction) (x y : A) → (a ≡ Commit → ⊥) → if_committed a x y ≡ y
if_not Commit x y n = absurd (n refl)
if_not Rollback x y n = refl
if_not Incomplete x y n = refl

module _ (s : List ℕ) (k : ℕ) where
  -- the transaction at place k
  abbrev pub transaction_in : TransactionRecord
  transaction_in = transaction_at (drop (24 * k) s)

  from_turn : k < length s / 24 → transactions_from k s ≡ transaction_in ∷ transactions_from (k + 1) s
  from_turn h = read_turn 24 transaction_at (length s / 24) k s h

  from_end : length s / 24 ≤ k → transactions_from k s ≡ []
  unfolding records_of
  from_end h = let n : length s / 24 - k ≡ 0 = omega arith in rw n

-- ---- the order, from place k on

abbrev pub order_from : (k : ℕ) → List ℕ → List ℕ
order_from k s = committed_of (transactions_from k s)

-- one that is not committed is passed over
pub order_passes : (s : List ℕ) (k : ℕ) → k < length s / 24 → ((transaction_in s k).action ≡ Commit → ⊥) → order_from k s ≡ order_from (k + 1) s
unfolding committed_of
order_passes s k h n = rw (from_turn s k h) (if_not (transaction_in s k).action _ _ n)

-- the transaction at place k, and the others
pub order_turn : (s : List ℕ) (k : ℕ) → k < length s / 24 → (transaction_in s k).action ≡ Commit → order_from k s ≡ (transaction_in s k).tx_id ∷ order_from (k + 1) s
unfolding committed_of
order_turn s k h c = rw (from_turn s k h, c)

pub order_end : (s : List ℕ) (k : ℕ) → length s / 24 ≤ k → order_from k s ≡ []
unfolding committed_of
order_end s k h = rw (from_end s k h)

-- read while the lists are linked
from_first : (area entries transactions : List ℕ) → Linked area entries transactions → transactions_from 0 transactions ≡ transactions_of (entries_in entries)
from_first area entries transactions l =
    let es = entries_in entries in
    let m : length transactions / 24 - 0 ≡ length (transactions_of es) = omega (arith, l.count) in
    ap (records_of 24 transaction_at (length transactions / 24 - 0)) l.transactions_are
    ∙ rw m (transactions_read (length transactions) es l.fit (omega (arith, l.few)))

pub order_start : (area entries transactions : List ℕ) → Linked area entries transactions → order_from 0 transactions ≡ replay_order (entries_in entries)
unfolding replay_order
order_start area entries transactions l = rw (from_first area entries transactions l)

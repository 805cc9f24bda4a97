-- Lists and a table that are large enough: for the transactions and the keys, and for what is kept.
-- Assumes nothing.
use Prim.Native.Nat.{ℕ, ◌/◌, ◌≤◌}
use mathlib.Core.List.{List, [], ◌∷◌, map, Memᴰ}
use native.Mathlib.Omega.{arith}
use lib.Dec.{leb}
use lib.ListN.{length}
use Rattle.fields.specs.Order.{compare_bytes}
use Rattle.fields.proofs.Cases.{case_b}
use Rattle.records.specs.Dense.{All}
use Rattle.records.specs.Sorted.{itself, compare_numbers}
use Rattle.records.proofs.Sorted.{bytes_order, numbers_order, put_all, no_more}
use Rattle.lists.specs.Transactions.{noted, begun, tx_number, note, note_all, transactions_of}
use Rattle.lists.specs.declared.transactions.TransactionRecord.{TransactionRecord}
use Rattle.lists.proofs.Numbers.{transactions_ascend}
use Rattle.store.specs.Effect.{Effect, puts, drops, keeps}
use Rattle.crash.specs.Request.{Written}
use Rattle.crash.specs.Kept.{kept_by, listed_as, listed_all}
use Rattle.crash.specs.Settings.{effect_by, with_key, keys_of, number_of}
use Rattle.crash.specs.Crash.{Lent, Enough}
use Rattle.crash.proofs.Distinct.{distinct, IsIn, length_most, all_in, distinct_most}

-- ---- a record for each number

-- what holds of each entry's number holds of each transaction's
note_all_lem : (P : ℕ → Type 0) (ts : List TransactionRecord) (ws : List Written) → All (λ (t : TransactionRecord). P t.tx_id) ts → All P (map number_of ws) → All (λ (t : TransactionRecord). P t.tx_id) (note_all ts (listed_all ws))
unfolding note_all note noted begun listed_as
note_all_lem P ts [] ps qs = ps
note_all_lem P ts (w ∷ ws) ps qs =
    let e = listed_as w in
    note_all_lem P (note e ts) ws
    (put_all compare_numbers tx_number e.tx_id (noted e) (begun e) (λ (t : TransactionRecord). P t.tx_id) (λ t p. p) qs.0 ts ps)
    qs.1

-- the transactions are no more than the numbers that a list holds
transactions_most : (ws : List Written) (numbers : List ℕ) → All (λ (n : ℕ). Memᴰ n numbers) (map number_of ws) → length (transactions_of (listed_all ws)) ≤ length numbers
unfolding transactions_of
transactions_most ws numbers every =
    let ns = map number_of ws in
    let few = no_more compare_numbers numbers_order tx_number itself (distinct compare_numbers numbers) (transactions_of (listed_all ws)) (transactions_ascend (listed_all ws))
    (note_all_lem (IsIn compare_numbers numbers_order numbers) [] ws tt (all_in compare_numbers numbers_order numbers ns every)) in
    omega (arith, few, length_most compare_numbers numbers_order numbers)

module _ (ws : List Written) (lent : Lent) (e : Enough ws lent) where
  pub transactions_fit : length (transactions_of (listed_all ws)) ≤ length lent.transactions / 24
  transactions_fit = omega (arith, transactions_most ws e.numbers e.every_number, e.number_records)

  pub keys_fit : length (distinct compare_bytes (keys_of ws)) ≤ length lent.table / 320
  keys_fit = omega (arith, distinct_most compare_bytes bytes_order e.keys (keys_of ws) e.every_key, e.key_records)

-- ---- what is kept

with_more : (P : List ℕ → Type 0) (x : Effect) (keys few : List (List ℕ)) → All P (with_key x keys) → (All P keys → All P few) → All P (with_key x few) × All P few
with_more P (puts key value) keys few ps go = ((ps.0, go ps.1), go ps.1)
with_more P (drops key) keys few ps go = (go ps, go ps)
with_more P keeps keys few ps go = (go ps, go ps)

module _ (cut : ℕ) where
  kept_fewer : (ws : List Written) → length (kept_by cut ws) ≤ length ws
  unfolding kept_by
  kept_fewer [] = omega arith
  kept_fewer (w ∷ ws) =
      case_b (leb w.end cut) (λ q. rw q (omega (arith, kept_fewer ws))) (λ q. rw q (omega (arith, kept_fewer ws)))

  kept_numbers : (P : ℕ → Type 0) (ws : List Written) → All P (map number_of ws) → All P (map number_of (kept_by cut ws))
  unfolding kept_by
  kept_numbers P [] ps = tt
  kept_numbers P (w ∷ ws) ps =
      case_b (leb w.end cut) (λ q. rw q (ps.0, kept_numbers P ws ps.1)) (λ q. rw q (kept_numbers P ws ps.1))

  kept_keys : (P : List ℕ → Type 0) (ws : List Written) → All P (keys_of ws) → All P (keys_of (kept_by cut ws))
  unfolding kept_by keys_of
  kept_keys P [] ps = tt
  kept_keys P (w ∷ ws) ps =
      let both = with_more P (effect_by w.request) (keys_of ws) (keys_of (kept_by cut ws)) ps (kept_keys P ws) in
      case_b (leb w.end cut) (λ q. rw q both.0) (λ q. rw q both.1)

  pub enough_kept : (ws : List Written) (lent : Lent) → Enough ws lent → Enough (kept_by cut ws) lent
  enough_kept ws lent e =
      record {
        entry_list = e.entry_list;
        every_entry = omega (arith, kept_fewer ws, e.every_entry);
        transaction_list = e.transaction_list;
        numbers = e.numbers;
        every_number = kept_numbers (λ (n : ℕ). Memᴰ n e.numbers) ws e.every_number;
        number_records = e.number_records;
        table_fits = e.table_fits;
        keys = e.keys;
        every_key = kept_keys (λ (key : List ℕ). Memᴰ key e.keys) ws e.every_key;
        key_records = e.key_records;
      }

-- The turns of the loops over the transactions, and that their tally counts each once.
-- Assumes nothing.
use Rattle.std.proofs.Common.{◌≡◌, ℕ, suc, ◌+◌, ◌-◌, ◌*◌, ◌<◌, ◌≤◌, max, List, [], ◌∷◌, length, drop, refl, arith}
use Rattle.records.specs.Dense.{records_of}
use Rattle.records.proofs.Dense.{length_read, read_turn}
use Rattle.lists.specs.Transactions.{transaction_at}
use Rattle.lists.specs.Markers.{if_committed}
use Rattle.lists.specs.Tally.{tallied, tally_of, total_of, highest_committed}
use Rattle.lists.specs.declared.transactions.RecoveryAction.{RecoveryAction}
use Rattle.lists.specs.declared.transactions.RecoveryAction.TheVariants.{Incomplete, Commit, Rollback}
use Rattle.lists.specs.declared.tally.Tally.{Tally}
use Rattle.lists.specs.declared.transactions.TransactionRecord.{TransactionRecord}

tallied_total : (action : RecoveryAction) (t : Tally) → total_of (tallied action t) ≡ suc (total_of t)
tallied_total Commit t = omega arith
tallied_total Rollback t = omega arith
tallied_total Incomplete t = omega arith

-- the total is the number of transactions
pub tally_total : (ts : List TransactionRecord) → total_of (tally_of ts) ≡ length ts
unfolding tally_of
tally_total [] = refl
tally_total (t ∷ ts) = omega (arith, tallied_total t.action (tally_of ts), tally_total ts)

-- ---- the loops, from the last record to the first

-- the transactions from the k-th to the n-th
abbrev pub from_to : (k n : ℕ) → List ℕ → List TransactionRecord
from_to k n s = records_of 24 transaction_at (n - k) (drop (24 * k) s)

module _ (n k : ℕ) (s : List ℕ) where
  from_turn : 0 < k → k ≤ n → from_to (k - 1) n s ≡ transaction_at (drop (24 * (k - 1)) s) ∷ from_to k n s
  from_turn h l =
      let e : k - 1 + 1 ≡ k = omega arith in
      rw e at (read_turn 24 transaction_at n (k - 1) s (omega arith))

  pub tally_turn : 0 < k → k ≤ n → tallied (transaction_at (drop (24 * (k - 1)) s)).action (tally_of (from_to k n s)) ≡ tally_of (from_to (k - 1) n s)
  unfolding tally_of
  tally_turn h l = rw (from_turn h l)

  pub highest_turn : 0 < k → k ≤ n → (let t = transaction_at (drop (24 * (k - 1)) s) in max (if_committed t.action t.tx_id 0) (highest_committed (from_to k n s))) ≡ highest_committed (from_to (k - 1) n s)
  unfolding highest_committed
  highest_turn h l = rw (from_turn h l)

  -- fewer are counted than there are
  pub tally_below : 0 < k → k ≤ n → total_of (tally_of (from_to k n s)) < n
  tally_below h l = omega (arith, tally_total (from_to k n s), length_read 24 transaction_at (n - k) (drop (24 * k) s))

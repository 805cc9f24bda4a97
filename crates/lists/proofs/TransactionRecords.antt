-- The laws of the transactions' record: there and back, and its code.
-- Assumes nothing.
use Rattle.std.proofs.Common.{◌≡◌, ℕ, zero, suc, ◌+◌, ◌*◌, ◌/◌, ◌%◌, ◌^◌, ◌<◌, List, ◌++◌, length, replicate, sym, refl, ap, ◌∙◌, append_assoc, arith, length-append}
use native.Mathlib.Nat.{pow-succ', div-add-mod}
use lib.Seq.{sets}
use Rattle.fields.specs.Le.{le_bytes, num_at}
use Rattle.fields.proofs.Numbers.{length_bytes, num_front, num_skip}
use Rattle.fields.proofs.Stores.{sets_join}
use Rattle.lists.specs.Transactions.{action_number, action_of, transaction_at, transaction_bytes}
use Rattle.lists.specs.declared.transactions.RecoveryAction.{RecoveryAction}
use Rattle.lists.specs.declared.transactions.RecoveryAction.TheVariants.{Incomplete, Commit, Rollback}
use Rattle.lists.specs.declared.transactions.TransactionRecord.{TransactionRecord}
use Rattle.lists.proofs.EntryRecords.{byte_and_zeros}

-- a transaction whose numbers have 8 bytes
pub record TransactionFits (t : TransactionRecord) : Type 0 where
  pub tx_id : t.tx_id < 2 ^ 64
  pub count : t.count < 2 ^ 64

pub action_small : (a : RecoveryAction) → action_number a < 256
action_small Incomplete = omega arith
action_small Commit = omega arith
action_small Rollback = omega arith

pub action_back : (a : RecoveryAction) → action_of (action_number a) ≡ a
action_back Incomplete = refl
action_back Commit = refl
action_back Rollback = refl

pub length-transaction : (t : TransactionRecord) → length (transaction_bytes t) ≡ 24
unfolding transaction_bytes
length-transaction t = simp (length-append, length_bytes)

-- a transaction that was written is read back, whatever stands after it
pub transaction_back : (t : TransactionRecord) (rest : List ℕ) → TransactionFits t → transaction_at (transaction_bytes t ++ rest) ≡ t
unfolding transaction_at transaction_bytes
transaction_back t rest h =
    let n = le_bytes 8 t.tx_id in
    let a = le_bytes 1 (action_number t.action) in
    let z = replicate {A = ℕ} 7 0 in
    let c = le_bytes 8 t.count in
    let e : (n ++ (a ++ (z ++ c))) ++ rest ≡ n ++ (a ++ (z ++ (c ++ rest))) = simp append_assoc in
    let second : num_at 8 1 (n ++ (a ++ (z ++ (c ++ rest)))) ≡ action_number t.action =
    num_skip n (a ++ (z ++ (c ++ rest))) 8 0 1 (length_bytes 8 t.tx_id)
    ∙ num_front 1 (action_number t.action) (z ++ (c ++ rest)) (action_small t.action) in
    let third : num_at 16 8 (n ++ (a ++ (z ++ (c ++ rest)))) ≡ t.count =
    num_skip n (a ++ (z ++ (c ++ rest))) 8 8 8 (length_bytes 8 t.tx_id)
    ∙ num_skip a (z ++ (c ++ rest)) 1 7 8 (length_bytes 1 (action_number t.action))
    ∙ num_skip z (c ++ rest) 7 0 8 refl
    ∙ num_front 8 t.count rest h.count in
    rw (e, num_front 8 t.tx_id (a ++ (z ++ (c ++ rest))) h.tx_id, second, action_back t.action, third)

-- ---- the code of one record

-- bytes that a number of so many more than the width holds does not change
bytes_more : (w v q : ℕ) → le_bytes w (256 ^ w * q + v) ≡ le_bytes w v
unfolding le_bytes
bytes_more zero v q = refl
bytes_more (suc w) v q =
    let p = pow-succ' 256 w in
    let m : 256 ^ suc w * q + v ≡ 256 * (256 ^ w * q) + v = rw p (omega arith) in
    let lo : (256 * (256 ^ w * q) + v) % 256 ≡ v % 256 = omega arith in
    let hi : (256 * (256 ^ w * q) + v) / 256 ≡ 256 ^ w * q + v / 256 = omega arith in
    rw (m, lo, hi, bytes_more w (v / 256) q)

-- a number that wraps at its width has the same bytes
bytes_wrap : (w v : ℕ) → le_bytes w (v % 256 ^ w) ≡ le_bytes w v
bytes_wrap w v = sym (bytes_more w (v % 256 ^ w) (v / 256 ^ w)) ∙ ap (le_bytes w) (div-add-mod v (256 ^ w))

-- some more, wrapped
pub some_more : (number : ℕ) (action : RecoveryAction) (count more n : ℕ) → n ≡ (count + more) % 2 ^ 64 → transaction_bytes (record { tx_id = number; action = action; count = n }) ≡ transaction_bytes (record { tx_id = number; action = action; count = count + more })
unfolding transaction_bytes
some_more number action count more n e = rw (e, bytes_wrap 8 (count + more))

-- three numbers one after the other are a record
pub put_three : (t : TransactionRecord) (s : List ℕ) (at : ℕ) → sets (sets (sets s at (le_bytes 8 t.tx_id)) (at + 8) (le_bytes 8 (action_number t.action))) (at + 16) (le_bytes 8 t.count) ≡ sets s at (transaction_bytes t)
unfolding transaction_bytes
put_three t s at =
    let n = le_bytes 8 t.tx_id in
    let a = le_bytes 1 (action_number t.action) in
    let z = replicate {A = ℕ} 7 0 in
    let c = le_bytes 8 t.count in
    let w : length (a ++ z) ≡ 8 = simp (length-append, length_bytes) in
    rw (byte_and_zeros (action_number t.action) (action_small t.action))
    (sets_join (sets s at n) (a ++ z) c (at + 8) (at + 16) (rw w (omega arith))
    ∙ rw (append_assoc a z c) (sets_join s n (a ++ (z ++ c)) at (at + 8) (rw length_bytes)))

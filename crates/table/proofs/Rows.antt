-- The laws of the table's record: its length, there and back, and its code.
-- Assumes nothing.
use mathlib.Core.Path.{◌≡◌, refl, ◌∙◌}
use mathlib.Core.Bool.{true, and-eq-true_iff}
use mathlib.Core.List.{List, ◌++◌, append_assoc}
use Prim.Native.Nat.{ℕ, ◌+◌, ◌-◌, ◌<◌, ◌≤◌}
use native.Mathlib.Omega.{arith}
use borrow.Author.Tests.{leb-true}
use lib.ListN.{length, take, drop, replicate, length-append, length-take, length-drop, length-replicate}
use lib.Seq.{sets, take_all, take_at, drop_at}
use Rattle.fields.specs.Le.{Bytes, le_bytes, num_at}
use Rattle.fields.proofs.Numbers.{length_bytes, num_front, num_skip, num_below, bytes_drop}
use Rattle.fields.proofs.Stores.{sets_join}
use Rattle.table.specs.declared.row.RowRecord.{RowRecord}
use Rattle.table.specs.Row.{Row, row_of, fits, RowFits, padded, marked_bytes, row_bytes, empty_bytes, row_record_at, row_at}

pub fits_true : (r : Row) → fits r ≡ true → RowFits r
unfolding fits
fits_true r e = let h = (and-eq-true_iff _ _).0 e in record { key = leb-true _ _ h.0; value = leb-true _ _ h.1 }

length-padded : (size : ℕ) (s : List ℕ) → length (padded size s) ≡ size
unfolding padded
length-padded size s = simp (length-append, length-take, length-drop, length-replicate) (omega arith)

padded_fits : (size : ℕ) (s : List ℕ) → length s ≤ size → padded size s ≡ s ++ replicate (size - length s) 0
unfolding padded
padded_fits size s h = rw (take_all size s h)

padded_back : (size : ℕ) (s rest : List ℕ) → length s ≤ size → take (length s) (padded size s ++ rest) ≡ s
padded_back size s rest h = rw (padded_fits size s h, append_assoc) (take_at s _ (length s) refl)

pub length_row : (r : Row) → length (row_bytes r) ≡ 320
unfolding marked_bytes
length_row r = simp (length-append, length_bytes, length-padded)

-- a row that was written is read back, whatever stands after it
pub row_back : (r : Row) (rest : List ℕ) → RowFits r → row_at (row_bytes r ++ rest) ≡ r
unfolding marked_bytes row_record_at row_at
row_back r rest f =
    let m = le_bytes 1 1 in
    let k = le_bytes 1 (length r.key) in
    let v = le_bytes 2 (length r.value) in
    let ks = padded 64 r.key in
    let vs = padded 252 r.value in
    let lk = length_bytes 1 (length r.key) in
    let front : length (m ++ (k ++ v)) ≡ 4 = simp (length-append, length_bytes) in
    let front' : length (m ++ (k ++ (v ++ ks))) ≡ 68 = simp (length-append, length_bytes, length-padded) in
    let e : (m ++ (k ++ (v ++ (ks ++ vs)))) ++ rest ≡ m ++ (k ++ (v ++ (ks ++ (vs ++ rest)))) = simp append_assoc in
    let key : num_at 1 1 (m ++ (k ++ (v ++ (ks ++ (vs ++ rest))))) ≡ length r.key =
    num_skip m _ 1 0 1 (length_bytes 1 1) ∙ num_front 1 (length r.key) _ (omega arith) in
    let value : num_at 2 2 (m ++ (k ++ (v ++ (ks ++ (vs ++ rest))))) ≡ length r.value =
    num_skip m _ 1 1 2 (length_bytes 1 1) ∙ num_skip k _ 1 0 2 lk ∙ num_front 2 (length r.value) _ (omega arith) in
    let keys : drop 4 (m ++ (k ++ (v ++ (ks ++ (vs ++ rest))))) ≡ ks ++ (vs ++ rest) = (simp append_assoc at (drop_at (m ++ (k ++ v)) (ks ++ (vs ++ rest)) 4 front)) in
    let values : drop 68 (m ++ (k ++ (v ++ (ks ++ (vs ++ rest))))) ≡ vs ++ rest = (simp append_assoc at (drop_at (m ++ (k ++ (v ++ ks))) (vs ++ rest) 68 front')) in
    rw (e, key, value, keys, values, padded_back 64 r.key (vs ++ rest) f.key, padded_back 252 r.value rest f.value)

pub empty_is : empty_bytes ≡ replicate 320 0
unfolding empty_bytes
empty_is = refl

-- ---- the code of one record

-- a key length is one byte
pub key_short : (s : List ℕ) (at : ℕ) (r : RowRecord) → r ≡ row_record_at (drop at s) → Bytes s → r.key_len < 256
unfolding row_record_at
key_short s at r e b = rw e (num_below (drop at s) 1 1 1 (omega arith) (bytes_drop at s b))

-- a part and the zeros behind it
pub put_zeros : (s part : List ℕ) (at size : ℕ) → length part ≤ size → sets (sets s at part) (at + length part) (replicate (size - length part) 0) ≡ sets s at (padded size part)
put_zeros s part at size h = rw (padded_fits size part h) (sets_join s part (replicate (size - length part) 0) at (at + length part) refl)

-- five fields one behind the other are a record
pub put_five : (s : List ℕ) (at mark : ℕ) (key value : List ℕ)
    → sets (sets (sets (sets (sets s at (le_bytes 1 mark)) (at + 1) (le_bytes 1 (length key))) (at + 2) (le_bytes 2 (length value))) (at + 4) (padded 64 key)) (at + 68) (padded 252 value) ≡ sets s at (marked_bytes mark (row_of key value))
unfolding marked_bytes
put_five s at mark key value =
    let m = le_bytes 1 mark in
    let k = le_bytes 1 (length key) in
    let v = le_bytes 2 (length value) in
    let ks = padded 64 key in
    let vs = padded 252 value in
    sets_join (sets (sets (sets s at m) (at + 1) k) (at + 2) v) ks vs (at + 4) (at + 68) (rw (length-padded 64 key) (omega arith))
    ∙ sets_join (sets (sets s at m) (at + 1) k) v (ks ++ vs) (at + 2) (at + 4) (rw length_bytes (omega arith))
    ∙ sets_join (sets s at m) k (v ++ (ks ++ vs)) (at + 1) (at + 2) (rw length_bytes (omega arith))
    ∙ sets_join s m (k ++ (v ++ (ks ++ vs))) at (at + 1) (rw length_bytes)

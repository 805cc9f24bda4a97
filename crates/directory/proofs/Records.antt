-- The laws of the directory's records: there and back, and what a stored record makes of the records of the bytes.
-- Assumes nothing.
use mathlib.Core.Path.{◌≡◌, refl, ap, ◌∙◌}
use mathlib.Core.List.{List, [], ◌∷◌, ◌++◌, append_assoc}
use Prim.Native.Nat.{ℕ, zero, suc, ◌+◌, ◌-◌, ◌*◌, ◌^◌, ◌<◌, ◌≤◌}
use native.Mathlib.Omega.{arith}
use lib.ListN.{length, get_or, take, drop, set, length-append, length-drop}
use lib.Seq.{sets, drop-drop, drop_at, set_at}
use Rattle.fields.specs.Le.{Bytes, le_bytes}
use Rattle.fields.proofs.Numbers.{length_bytes, num_front, num_skip, num_below}
use Rattle.fields.proofs.Stores.{sets_join, sets_front, drop-sets, num_before}
use Rattle.directory.specs.Record.{record_at, record_bytes, records_of}
use Rattle.directory.specs.declared.record.SegmentRecord.{SegmentRecord}

-- a record whose numbers have 8 bytes
pub record Held (r : SegmentRecord) : Type 0 where
  pub id : r.id < 2 ^ 64
  pub start : r.start < 2 ^ 64
  pub length : r.length < 2 ^ 64

pub length_record : (r : SegmentRecord) → length (record_bytes r) ≡ 24
unfolding record_bytes
length_record r = simp (length-append, length_bytes)

-- a record that was written is read back, whatever stands after it
pub record_back : (r : SegmentRecord) (rest : List ℕ) → Held r → record_at (record_bytes r ++ rest) ≡ r
unfolding record_at record_bytes
record_back r rest h =
    let i = le_bytes 8 r.id in
    let s = le_bytes 8 r.start in
    let l = le_bytes 8 r.length in
    let e : (i ++ (s ++ l)) ++ rest ≡ i ++ (s ++ (l ++ rest)) = simp append_assoc in
    rw (e, num_front 8 r.id (s ++ (l ++ rest)) h.id, num_skip i (s ++ (l ++ rest)) 8 0 8 (length_bytes 8 r.id), num_front 8 r.start (l ++ rest) h.start, num_skip i (s ++ (l ++ rest)) 8 8 8 (length_bytes 8 r.id), num_skip s (l ++ rest) 8 0 8 (length_bytes 8 r.start), num_front 8 r.length rest h.length)

-- the numbers of a record of bytes have 8 bytes
pub record_held : (s : List ℕ) → Bytes s → Held (record_at s)
unfolding record_at
record_held s b =
    record { id = num_below s 0 8 8 (omega arith) b; start = num_below s 8 8 8 (omega arith) b; length = num_below s 16 8 8 (omega arith) b }

-- three numbers one after the other are a record
pub put_three : (r : SegmentRecord) (s : List ℕ) (at : ℕ) → sets (sets (sets s at (le_bytes 8 r.id)) (at + 8) (le_bytes 8 r.start)) (at + 16) (le_bytes 8 r.length) ≡ sets s at (record_bytes r)
unfolding record_bytes
put_three r s at =
    let i = le_bytes 8 r.id in
    let t = le_bytes 8 r.start in
    let l = le_bytes 8 r.length in
    sets_join (sets s at i) t l (at + 8) (at + 16) (rw length_bytes (omega arith))
    ∙ sets_join s i (t ++ l) at (at + 8) (rw length_bytes)

-- ---- the records of the bytes

pub length_records : (n : ℕ) (s : List ℕ) → length (records_of n s) ≡ n
unfolding records_of
length_records zero s = refl
length_records (suc n) s = ap suc (length_records n (drop 24 s))

pub record_of : (n : ℕ) (s : List ℕ) (k : ℕ) (d : SegmentRecord) → k < n → get_or (records_of n s) k d ≡ record_at (drop (24 * k) s)
unfolding records_of
record_of zero s k d h = absurd (omega arith)
record_of (suc n) s zero d h = refl
record_of (suc n) s (suc k) d h =
    let e : 24 * suc k ≡ 24 + 24 * k = omega arith in
    rw (e, ← drop-drop (24 * k) 24 s) (record_of n (drop 24 s) k d (omega arith))

-- the first of them
pub records_first : (n k : ℕ) (s : List ℕ) → k ≤ n → records_of k s ≡ take k (records_of n s)
unfolding records_of
records_first n zero s h = refl
records_first zero (suc k) s h = absurd (omega arith)
records_first (suc n) (suc k) s h = rw (records_first n k (drop 24 s) (omega arith))

-- one record more
pub records_snoc : (n : ℕ) (s : List ℕ) → records_of (n + 1) s ≡ records_of n s ++ (record_at (drop (24 * n) s) ∷ [])
unfolding records_of
records_snoc zero s = refl
records_snoc (suc n) s =
    let e : suc n + 1 ≡ suc (n + 1) = omega arith in
    let f : 24 * suc n ≡ 24 + 24 * n = omega arith in
    rw (e, f, ← drop-drop (24 * n) 24 s, ← records_snoc n (drop 24 s))

-- a turn of a loop over records
pub records_turn : (n k : ℕ) (s : List ℕ) → k < n → records_of (n - k) (drop (24 * k) s) ≡ record_at (drop (24 * k) s) ∷ records_of (n - (k + 1)) (drop (24 * (k + 1)) s)
unfolding records_of
records_turn n k s h =
    let e : n - k ≡ suc (n - (k + 1)) = omega arith in
    let f : 24 * (k + 1) ≡ 24 * k + 24 = omega arith in
    rw (e, f, drop-drop)

-- ---- a stored record

record_before : (s vs : List ℕ) (i : ℕ) → 24 ≤ i → record_at (sets s i vs) ≡ record_at s
unfolding record_at
record_before s vs i h =
    rw (num_before s vs 0 8 i (omega arith), num_before s vs 8 8 i (omega arith), num_before s vs 16 8 i (omega arith))

pub records_set : (n : ℕ) (s : List ℕ) (k : ℕ) (r : SegmentRecord) → k < n → 24 * n ≤ length s → Held r → records_of n (sets s (24 * k) (record_bytes r)) ≡ set (records_of n s) k r
unfolding records_of
records_set zero s k r h l b = absurd (omega arith)
records_set (suc n) s zero r h l b =
    let v = record_bytes r in
    let f : sets s 0 v ≡ v ++ drop 24 s = sets_front s v (rw length_record (omega arith)) ∙ rw (length_record r) in
    rw (f, record_back r (drop 24 s) b, drop_at v (drop 24 s) 24 (length_record r))
records_set (suc n) s (suc k) r h l b =
    let e : 24 * suc k ≡ 24 + 24 * k = omega arith in
    let m : 24 * n ≤ length (drop 24 s) = rw length-drop (omega arith) in
    rw (e, record_before s (record_bytes r) (24 + 24 * k) (omega arith), drop-sets 24 s (record_bytes r) (24 * k), records_set n (drop 24 s) k r (omega arith) m b)

pub records_more : (n : ℕ) (s : List ℕ) (r : SegmentRecord) → 24 * (n + 1) ≤ length s → Held r → records_of (n + 1) (sets s (24 * n) (record_bytes r)) ≡ records_of n s ++ (r ∷ [])
records_more n s r l b =
    records_set (n + 1) s n r (omega arith) l b
    ∙ rw (records_snoc n s, set_at (records_of n s) (record_at (drop (24 * n) s)) [] r n (length_records n s))

-- The laws of records in bytes: read and moved in any bytes; where they are dense, a record changed, added, inserted or removed,
-- and the records read back.
-- Assumes nothing.
use mathlib.Core.Path.{◌≡◌, refl, sym, ap, ◌∙◌}
use mathlib.Core.List.{List, [], ◌∷◌, ◌++◌, append_assoc}
use Prim.Native.Nat.{ℕ, zero, suc, ◌+◌, ◌-◌, ◌*◌, ◌<◌, ◌≤◌}
use native.Mathlib.Nat.{mul-zero, mul-add, sub-zero}
use native.Mathlib.Omega.{arith}
use borrow.Author.Tests.{le-leb}
use lib.ListN.{length, take, drop, replicate, length-append, length-replicate, replicate-append-replicate}
use lib.Seq.{sets, take_at, drop_at, drop-drop}
use Rattle.records.specs.Dense.{bytes_of, dense, records_of, All}
use Rattle.records.specs.Moves.{moved_up, moved_down}
use Rattle.records.proofs.Stores.{sets_part, sets_insert, sets_remove}

module _ {R : Type 0} (Good : R → Type 0) where
  pub all_at : (before : List R) (r : R) (after : List R) → All Good (before ++ (r ∷ after)) → Good r
  all_at [] r after gs = gs.0
  all_at (b ∷ bs) r after gs = all_at bs r after gs.1

  pub all_append : (xs ys : List R) → All Good xs → All Good ys → All Good (xs ++ ys)
  all_append [] ys p q = q
  all_append (x ∷ xs) ys p q = (p.0, all_append xs ys p.1 q)

  pub all_parts : (xs ys : List R) → All Good (xs ++ ys) → All Good xs × All Good ys
  all_parts [] ys p = (tt, p)
  all_parts (x ∷ xs) ys p = let q = all_parts xs ys p.1 in ((p.0, q.0), q.1)

-- the records of any bytes
module _ {R : Type 0} (size : ℕ) (read : List ℕ → R) where
  pub length_read : (n : ℕ) (s : List ℕ) → length (records_of size read n s) ≡ n
  unfolding records_of
  length_read zero s = refl
  length_read (suc n) s = ap suc (length_read n (drop size s))

  -- a turn of a loop over them
  pub read_turn : (n k : ℕ) (s : List ℕ) → k < n → records_of size read (n - k) (drop (size * k) s) ≡ read (drop (size * k) s) ∷ records_of size read (n - (k + 1)) (drop (size * (k + 1)) s)
  unfolding records_of
  read_turn n k s h =
      let e : n - k ≡ suc (n - (k + 1)) = omega arith in
      let f : size * (k + 1) ≡ size * k + size = omega arith in
      rw (e, f, drop-drop)

-- records of a size, moved by one
module _ (size : ℕ) (s : List ℕ) (n k : ℕ) where
  -- those from k on, up to the n-th, make room for one
  pub made_room : k ≤ n → size * (n + 1) ≤ length s → moved_up s (size * k) (size * (n - k)) size ≡ sets s (size * (k + 1)) (take (size * (n - k)) (drop (size * k) s))
  unfolding moved_up
  made_room h l =
      let a : size * k + size ≡ size * (k + 1) = omega arith in
      let e : k + 1 + (n - k) ≡ n + 1 = omega arith in
      rw (a, le-leb (size * (k + 1) + size * (n - k)) (length s) (rw (← mul-add size (k + 1) (n - k), e) l))

  -- those behind k, up to the n-th, close up
  pub closed_up_lem : k < n → size * n ≤ length s → moved_down s (size * k) (size * (n - k - 1)) size ≡ sets s (size * k) (take (size * (n - (k + 1))) (drop (size * (k + 1)) s))
  unfolding moved_down
  closed_up_lem h l =
      let w : n - k - 1 ≡ n - (k + 1) = omega arith in
      let a : size * k + size ≡ size * (k + 1) = omega arith in
      let e : k + 1 + (n - (k + 1)) ≡ n = omega arith in
      rw (w, a, le-leb (size * (k + 1) + size * (n - (k + 1))) (length s) (rw (← mul-add size (k + 1) (n - (k + 1)), e) l))

zeros_split : (m n : ℕ) → m ≤ n → replicate {A = ℕ} n 0 ≡ replicate m 0 ++ replicate (n - m) 0
zeros_split m n h =
    let e : m + (n - m) ≡ n = omega arith in
    rw (replicate-append-replicate, e)

module _ {R : Type 0} (bytes : R → List ℕ) where
  pub bytes_append : (xs ys : List R) → bytes_of bytes (xs ++ ys) ≡ bytes_of bytes xs ++ bytes_of bytes ys
  unfolding bytes_of
  bytes_append [] ys = refl
  bytes_append (x ∷ xs) ys = rw (bytes_append xs ys, append_assoc)

  pub dense_none : (room : ℕ) → dense bytes room [] ≡ replicate {A = ℕ} room 0
  unfolding bytes_of dense
  dense_none room = rw sub-zero

-- records of one size
module _ {R : Type 0} (bytes : R → List ℕ) (size : ℕ) (sized : (r : R) → length (bytes r) ≡ size) where
  pub length_records : (rs : List R) → length (bytes_of bytes rs) ≡ size * length rs
  unfolding bytes_of
  length_records [] = sym (mul-zero size)
  length_records (r ∷ rs) = rw (length-append, sized r, length_records rs) (omega arith)

  pub dense_length : (room : ℕ) (rs : List R) → size * length rs ≤ room → length (dense bytes room rs) ≡ room
  unfolding dense
  dense_length room rs h = simp (length-append, length-replicate, length_records) (omega arith)

  -- the first records, and the others in the room behind them
  dense_append : (room : ℕ) (before after : List R) → dense bytes room (before ++ after) ≡ bytes_of bytes before ++ dense bytes (room - size * length before) after
  unfolding dense
  dense_append room before after =
      let e : room - length (bytes_of bytes before ++ bytes_of bytes after) ≡ room - size * length before - length (bytes_of bytes after) = rw (length-append, length_records before) (omega arith) in
      rw (bytes_append bytes before after, e, append_assoc)

  dense_cons : (room : ℕ) (r : R) (rs : List R) → dense bytes room (r ∷ rs) ≡ bytes r ++ dense bytes (room - size) rs
  unfolding bytes_of dense
  dense_cons room r rs =
      let e : room - length (bytes r ++ bytes_of bytes rs) ≡ room - size - length (bytes_of bytes rs) = rw (length-append, sized r) (omega arith) in
      rw (e, append_assoc)

  dense_split : (room : ℕ) (before : List R) (r : R) (after : List R) → dense bytes room (before ++ (r ∷ after)) ≡ bytes_of bytes before ++ (bytes r ++ dense bytes (room - size * length before - size) after)
  dense_split room before r after =
      dense_append room before (r ∷ after) ∙ rw (dense_cons (room - size * length before) r after)

  -- record k and what stands behind it
  pub dense_from : (room : ℕ) (before : List R) (r : R) (after : List R) → drop (size * length before) (dense bytes room (before ++ (r ∷ after))) ≡ bytes r ++ dense bytes (room - size * length before - size) after
  dense_from room before r after =
      rw (dense_split room before r after)
      (drop_at (bytes_of bytes before) (bytes r ++ dense bytes (room - size * length before - size) after) (size * length before) (length_records before))

  -- one record is written over
  pub dense_changed : (room : ℕ) (before : List R) (r : R) (after : List R) (q : R) → sets (dense bytes room (before ++ (r ∷ after))) (size * length before) (bytes q) ≡ dense bytes room (before ++ (q ∷ after))
  dense_changed room before r after q =
      rw (dense_split room before r after, dense_split room before q after)
      (sets_part (bytes_of bytes before) (bytes r) _ (bytes q) (size * length before) (length_records before) (rw (sized q, sized r)))

  -- where one more record has room, there are zeros in its place
  dense_spare : (room : ℕ) (rs : List R) → size * (length rs + 1) ≤ room → dense bytes room rs ≡ bytes_of bytes rs ++ (replicate size 0 ++ replicate (room - size * length rs - size) 0)
  unfolding dense
  dense_spare room rs h = rw (length_records rs, zeros_split size (room - size * length rs) (omega arith))

  -- one record is written behind the last
  pub dense_added : (room : ℕ) (rs : List R) (r : R) → size * (length rs + 1) ≤ room → sets (dense bytes room rs) (size * length rs) (bytes r) ≡ dense bytes room (rs ++ (r ∷ []))
  dense_added room rs r h =
      rw (dense_spare room rs h, dense_split room rs r [], dense_none bytes (room - size * length rs - size))
      (sets_part (bytes_of bytes rs) (replicate size 0) _ (bytes r) (size * length rs) (length_records rs) (rw (sized r, length-replicate)))

  -- the records behind the first ones move up by one, and one is written in the gap
  pub dense_inserted : (room : ℕ) (before after : List R) (r : R) → size * (length (before ++ after) + 1) ≤ room
      → sets (sets (dense bytes room (before ++ after)) (size * (length before + 1)) (take (size * (length (before ++ after) - length before)) (drop (size * length before) (dense bytes room (before ++ after))))) (size * length before) (bytes r) ≡ dense bytes room (before ++ (r ∷ after))
  unfolding dense
  dense_inserted room before after r h =
      let n = length-append before after in
      let fits : size * (length before + length after + 1) ≤ room = rw n at h in
      let k : length (before ++ after) - length before ≡ length after = omega arith in
      let room' = room - size * length before in
      let z : room' - size * length after - size ≡ room' - size - size * length after = omega arith in
      let pre = bytes_of bytes before in
      let part = bytes_of bytes after in
      let e = dense_append room before after ∙ ap (λ (l : List ℕ). pre ++ l) (dense_spare room' after (omega arith)) in
      rw (e, k, drop_at pre _ (size * length before) (length_records before), take_at part _ (size * length after) (length_records after), dense_split room before r after, length_records after, z)
      (sets_insert pre part (replicate size 0) _ (bytes r) (size * length before) (size * (length before + 1)) (length_records before) (rw length-replicate (omega arith)) (rw (sized r, length-replicate)))

  -- the records behind one move down by one, and the last becomes zero; a name for its zeros keeps a numeral's from being
  -- written out
  pub dense_removed : (room : ℕ) (before : List R) (r : R) (after : List R) (empty : List ℕ) → empty ≡ replicate size 0 → size * length (before ++ (r ∷ after)) ≤ room
      → sets (sets (dense bytes room (before ++ (r ∷ after))) (size * length before) (take (size * (length (before ++ (r ∷ after)) - (length before + 1))) (drop (size * (length before + 1)) (dense bytes room (before ++ (r ∷ after)))))) (size * (length (before ++ (r ∷ after)) - 1)) empty ≡ dense bytes room (before ++ after)
  unfolding dense
  dense_removed room before r after empty z h =
      let n = length-append before (r ∷ after) in
      let fits : size * (length before + suc (length after)) ≤ room = rw n at h in
      let k : length (before ++ (r ∷ after)) - (length before + 1) ≡ length after = omega arith in
      let l : length (before ++ (r ∷ after)) - 1 ≡ length before + length after = omega arith in
      let room' = room - size * length before in
      let w : room' - size - size * length after ≡ room' - size * length after - size = omega arith in
      let pre = bytes_of bytes before in
      let part = bytes_of bytes after in
      let zeros = replicate {A = ℕ} (room' - size * length after - size) 0 in
      let e : dense bytes room (before ++ (r ∷ after)) ≡ pre ++ (bytes r ++ (part ++ zeros)) = dense_split room before r after ∙ rw (length_records after, w) in
      let f : dense bytes room (before ++ after) ≡ pre ++ (part ++ (empty ++ zeros)) = dense_append room before after ∙ rw (dense_spare room' after (omega arith), z) in
      let front : length (pre ++ bytes r) ≡ size * (length before + 1) = rw (length-append, length_records before, sized r) (omega arith) in
      let d : drop (size * (length before + 1)) (pre ++ (bytes r ++ (part ++ zeros))) ≡ part ++ zeros = rw (← append_assoc pre (bytes r) (part ++ zeros)) (drop_at (pre ++ bytes r) (part ++ zeros) (size * (length before + 1)) front) in
      rw (e, f, k, l, d, take_at part zeros (size * length after) (length_records after))
      (sets_remove pre (bytes r) part zeros empty (size * length before) (size * (length before + length after)) (length_records before) (rw (length_records after) (omega arith)) (rw (z, sized r, length-replicate)))

  -- ---- reading back, by a reader that reads what was written, whatever stands after it

  module _ (read : List ℕ → R) (Good : R → Type 0) (back : (r : R) (rest : List ℕ) → Good r → read (bytes r ++ rest) ≡ r) where
    pub record_back : (room : ℕ) (before : List R) (r : R) (after : List R) → Good r → read (drop (size * length before) (dense bytes room (before ++ (r ∷ after)))) ≡ r
    record_back room before r after g = rw (dense_from room before r after) (back r _ g)

    pub records_back : (room : ℕ) (rs : List R) → All Good rs → records_of size read (length rs) (dense bytes room rs) ≡ rs
    unfolding records_of
    records_back room [] gs = refl
    records_back room (r ∷ rs) gs =
        rw (dense_cons room r rs, back r (dense bytes (room - size) rs) gs.0, drop_at (bytes r) (dense bytes (room - size) rs) size (sized r), records_back (room - size) rs gs.1)

-- What a store makes of the parts of a list, and the turns of the loops that move bytes.
-- Assumes nothing.
use mathlib.Core.Path.{◌≡◌, refl, ap, ◌∙◌}
use mathlib.Core.List.{List, [], ◌∷◌, ◌++◌, append_assoc, append-nil}
use Prim.Native.Nat.{ℕ, suc, ◌+◌, ◌-◌, ◌<◌, ◌≤◌, min}
use native.Mathlib.Nat.{add-zero}
use native.Mathlib.Omega.{arith}
use lib.ListN.{drop_of_length-le, length, take, drop, set, get_or, length-append, length-take, length-drop}
use borrow.Rule.Slice.PartMut.{put_mid}
use lib.Dec.{leb}
use lib.Seq.{take_all, sets, sets-eq, set_comm, take_at, drop_at, drop-cons, take-add, drop-drop}
use Rattle.std.proofs.lemmas.List.{take-append-drop}
use Rattle.fields.proofs.Cases.{case_b, tests}
use Rattle.fields.proofs.Stores.{take-sets, drop-sets, behind_sets, sets_join, sets_out}

-- a part is stored over by another of its length
pub sets_part : (pre old post new : List ℕ) (i : ℕ) → length pre ≡ i → length new ≡ length old → sets (pre ++ (old ++ post)) i new ≡ pre ++ (new ++ post)
sets_part pre old post new i e f =
    let n : length (pre ++ old) ≡ i + length new = rw length-append (omega arith) in
    let h : i + length new ≤ length (pre ++ (old ++ post)) = simp length-append (omega arith) in
    sets-eq new (pre ++ (old ++ post)) i h
    ∙ rw (take_at pre (old ++ post) i e, ← append_assoc pre old post, drop_at (pre ++ old) post (i + length new) n, append_assoc)

-- one store, and then one before it
set_before : (l vs : List ℕ) (i j v : ℕ) → i < j → set (sets l j vs) i v ≡ sets (set l i v) j vs
set_before l [] i j v h = refl
set_before l (w ∷ ws) i j v h =
    set_before (set l j w) ws i (suc j) v (omega arith) ∙ rw (set_comm l j i w v (λ e. omega arith))

sets_before : (l xs ys : List ℕ) (i j : ℕ) → j ≡ i + length xs → sets (sets l j ys) i xs ≡ sets l i (xs ++ ys)
sets_before l [] ys i j e = rw (e, add-zero)
sets_before l (x ∷ xs) ys i j e =
    rw (set_before l ys i j x (omega arith)) (sets_before (set l i x) xs ys (suc i) j (omega arith))

-- a part moves up over another, and a new one of the other's length is stored where it stood
pub sets_insert : (pre part over post new : List ℕ) (i j : ℕ) → length pre ≡ i → i + length over ≡ j → length new ≡ length over → sets (sets (pre ++ (part ++ (over ++ post))) j part) i new ≡ pre ++ (new ++ (part ++ post))
sets_insert pre part over post new i j e f g =
    let n : length (new ++ part) ≡ length (part ++ over) = simp length-append (omega arith) in
    sets_before (pre ++ (part ++ (over ++ post))) new part i j (omega arith)
    ∙ rw (← append_assoc part over post, sets_part pre (part ++ over) post (new ++ part) i e n, append_assoc)

-- a part moves down over another before it, and a new one of the other's length is stored behind it
pub sets_remove : (pre over part post new : List ℕ) (i j : ℕ) → length pre ≡ i → i + length part ≡ j → length new ≡ length over → sets (sets (pre ++ (over ++ (part ++ post))) i part) j new ≡ pre ++ (part ++ (new ++ post))
sets_remove pre over part post new i j e f g =
    let n : length (part ++ new) ≡ length (over ++ part) = simp length-append (omega arith) in
    sets_join (pre ++ (over ++ (part ++ post))) part new i j (omega arith)
    ∙ rw (← append_assoc over part post, sets_part pre (over ++ part) post (part ++ new) i e n, append_assoc)

-- a byte, as the list that a store takes
one_at : (s : List ℕ) (i : ℕ) → i < length s → take 1 (drop i s) ≡ get_or s i 0 ∷ []
one_at s i h = rw (drop-cons s i 0 h)

-- the loop that moves k bytes up: a turn, from the last byte to the first
pub up_turn : (s : List ℕ) (at k by : ℕ) → 0 < k → at + by + k ≤ length s
    → sets (set s (at + by + (k - 1)) (get_or s (at + (k - 1)) 0)) (at + by) (take (k - 1) (drop at (set s (at + by + (k - 1)) (get_or s (at + (k - 1)) 0)))) ≡ sets s (at + by) (take k (drop at s))
up_turn s at k by h l =
    let m = k - 1 in
    let front = take m (drop at s) in
    let byte = get_or s (at + m) 0 ∷ [] in
    let e : at + by + m ≡ at + (by + m) = omega arith in
    let f : k ≡ m + 1 = omega arith in
    let n : length front ≡ m = simp (length-take, length-drop) (omega arith) in
    let w : take 1 (drop (at + m) s) ≡ byte = one_at s (at + m) (omega arith) in
    let kept : take m (drop at (sets s (at + by + m) byte)) ≡ front =
    rw (e, drop-sets at s byte (by + m)) (take-sets m (drop at s) byte (by + m) (omega arith)) in
    let all : take k (drop at s) ≡ front ++ byte = ap (λ (j : ℕ). take j (drop at s)) f ∙ take-add m 1 (drop at s) ∙ rw (drop-drop, w) in
    rw (kept, sets_before s front byte (at + by) (at + by + m) (rw n), all)

-- the loop that moves bytes down behind the m that it has moved: a turn, from the first byte to the last
pub down_turn : (s : List ℕ) (at n by m : ℕ) → m < n → at + by + n ≤ length s
    → sets (set s (at + m) (get_or s (at + by + m) 0)) (at + (m + 1)) (take (n - (m + 1)) (drop (at + by + (m + 1)) (set s (at + m) (get_or s (at + by + m) 0)))) ≡ sets s (at + m) (take (n - m) (drop (at + by + m) s))
down_turn s at n by m h l =
    let byte = get_or s (at + by + m) 0 ∷ [] in
    let rest = take (n - (m + 1)) (drop (at + by + (m + 1)) s) in
    let w : take 1 (drop (at + by + m) s) ≡ byte = one_at s (at + by + m) (omega arith) in
    let e : n - m ≡ 1 + (n - (m + 1)) = omega arith in
    let f : at + by + (m + 1) ≡ at + by + m + 1 = omega arith in
    rw (behind_sets (at + by + (m + 1)) s byte (at + m) (omega arith), e, take-add 1 (n - (m + 1)) (drop (at + by + m) s), drop-drop, w, ← f)
    (sets_join s byte rest (at + m) (at + (m + 1)) (omega arith))

-- a store into what stands behind a place, or behind the end if the place is past it
module _ (s vs : List ℕ) (at i place : ℕ) (e : place ≡ min at (length s)) where
  into_rest : take place s ++ sets (drop place s) i vs ≡ sets s (at + i) vs
  into_rest =
      case_b (leb at (length s))
      (λ q.
      let f : place ≡ at = omega (arith, tests) in
      rw (f, ← drop-sets at s vs i, ← take-sets at s vs (at + i) (omega arith)) (take-append-drop at (sets s (at + i) vs)))
      (λ q.
      let f : length s ≤ place = omega (arith, tests) in
      let g : length s ≤ at + i = omega (arith, tests) in
      rw (drop_of_length-le s f, sets_out [] vs i (omega arith), take_all place s f, append-nil, sets_out s vs (at + i) g))

  pub stored_behind : put_mid place (length s - place) s (sets (take (length s - place) (drop place s)) i vs) ≡ sets s (at + i) vs
  stored_behind =
      let w : length (drop place s) ≤ length s - place = rw length-drop (omega arith) in
      rw (take_all (length s - place) (drop place s) w, drop_of_length-le (drop place s) w, append-nil) into_rest

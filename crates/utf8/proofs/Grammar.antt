-- The test says what the grammar says: `is_utf8 bs` is true exactly if `Octets bs`.
use Prim.Native.Nat.{ℕ}
use native.Mathlib.Omega.{arith}
use mathlib.Core.Path.{◌≡◌, refl, ap, subst}
use mathlib.Core.Logic.{◌↔◌, ⊎_elim}
use mathlib.Core.Bool.{Bool, true, false, cond, ◌||◌, or-true, false≢true}
use mathlib.Core.List.Memᴰ
use mathlib.Core.List.{List, [], ◌∷◌, ◌++◌, Memᴰ}
use Rattle.utf8.specs.Grammar.{Range, utf8_char, Within, all, one, Octets, none, more, holds, begun, after, any, completes, is_utf8}
use Rattle.utf8.proofs.Holds.{inside, held}

-- a member that passes the test, and back
module _ {A : Type 0} (p : A → Bool) where
  any_mem : {x : A} {xs : List A} → Memᴰ x xs → p x ≡ true → any p xs ≡ true
  unfolding any
  any_mem {xs = []} m e = elim m [ ]
  any_mem {xs = y ∷ ys} (Memᴰ.head q) e = rw (← q, e)
  any_mem {xs = y ∷ ys} (Memᴰ.tail m) e = rw (any_mem m e) (or-true (p y))

  abbrev Passing : List A → Type 0
  Passing xs = (x : A) × Memᴰ x xs × (p x ≡ true)

  mem_any : (xs : List A) → any p xs ≡ true → Passing xs
  unfolding any
  mem_any [] e = absurd (false≢true e)
  mem_any (x ∷ xs) e = go (p x) refl e (mem_any xs)
    where
      go : (t : Bool) → p x ≡ t → (t || any p xs) ≡ true → (any p xs ≡ true → Passing xs) → Passing (x ∷ xs)
      go true q e ih = (x, Memᴰ.head refl, q)
      go false q e ih = let w = ih e in (w.0, Memᴰ.tail w.1, w.2)

-- an alternative that b begins, and back
mem_begun : (b : ℕ) (r : Range) (rs : List Range) (rule : List (List Range)) → Memᴰ (r ∷ rs) rule → holds r b ≡ true → Memᴰ rs (begun b rule)
unfolding begun
mem_begun b r rs [] m h = absurd (Memᴰ.not-nil m)
mem_begun b r rs ([] ∷ rule) m h =
    ⊎_elim (λ q. let z : ◌≡◌ {A = ℕ} 0 1 = cc in absurd (omega arith)) (λ n. mem_begun b r rs rule n h) (Memᴰ.cases_cons m)
mem_begun b r rs ((q ∷ qs) ∷ rule) m h =
    ⊎_elim (λ e. here (cc) (cc)) (λ n. there (holds q b) (mem_begun b r rs rule n h)) (Memᴰ.cases_cons m)
  where
    here : r ≡ q → rs ≡ qs → Memᴰ rs (cond (holds q b) (qs ∷ begun b rule) (begun b rule))
    here e f = let k : holds q b ≡ true = rw e at h in rw k (Memᴰ.head f)

    there : (t : Bool) → Memᴰ rs (begun b rule) → Memᴰ rs (cond t (qs ∷ begun b rule) (begun b rule))
    there true n = Memᴰ.tail n
    there false n = n

record Begins (b : ℕ) (rs : List Range) (rule : List (List Range)) : Type 0 where
  first : Range
  alternative : Memᴰ (first ∷ rs) rule
  holding : holds first b ≡ true

later : {b : ℕ} {rs a : List Range} {rule : List (List Range)} → Begins b rs rule → Begins b rs (a ∷ rule)
later w = record { first = w.first; alternative = Memᴰ.tail w.alternative; holding = w.holding }

begun_mem : (b : ℕ) (rs : List Range) (rule : List (List Range)) → Memᴰ rs (begun b rule) → Begins b rs rule
unfolding begun
begun_mem b rs [] m = absurd (Memᴰ.not-nil m)
begun_mem b rs ([] ∷ rule) m = later (begun_mem b rs rule m)
begun_mem b rs ((r ∷ qs) ∷ rule) m = go (holds r b) refl m (begun_mem b rs rule)
  where
    go : (t : Bool) → holds r b ≡ t → Memᴰ rs (cond t (qs ∷ begun b rule) (begun b rule)) → (Memᴰ rs (begun b rule) → Begins b rs rule) → Begins b rs ((r ∷ qs) ∷ rule)
    go true e m ih =
        ⊎_elim
        (λ q. record { first = r; alternative = Memᴰ.head (ap (λ (l : List Range). r ∷ l) q); holding = e })
        (λ n. later (ih n))
        (Memᴰ.cases_cons m)
    go false e m ih = later (ih m)

-- octets that end the character that was begun, and the characters after them
record Ended (rs : List Range) (bs : List ℕ) : Type 0 where
  char : List ℕ
  rest : List ℕ
  within : Within rs char
  octets : Octets rest
  joined : char ++ rest ≡ bs

-- b before them: the first octet of a character, or one that was awaited
ended_more : (b : ℕ) (rs left : List Range) (bs : List ℕ) → Memᴰ left (after b rs) → Ended left bs → Ended rs (b ∷ bs)
unfolding after
ended_more b [] left bs m w =
    let a = begun_mem b left utf8_char m in
    let h = held a.first b a.holding in
    let o : Octets (b ∷ (w.char ++ w.rest)) = more a.alternative (one h.0 h.1 w.within) w.octets in
    record { char = []; rest = b ∷ bs; within = all; octets = rw w.joined at o; joined = refl }
ended_more b (r ∷ rs) left bs m w = go (holds r b) refl m
  where
    go : (t : Bool) → holds r b ≡ t → Memᴰ left (cond t (rs ∷ []) []) → Ended (r ∷ rs) (b ∷ bs)
    go true e m =
        let h = held r b e in
        let q : left ≡ rs = Memᴰ.eq_of_singleton m in
        record { char = b ∷ w.char; rest = w.rest; within = one h.0 h.1 (rw q at w.within); octets = w.octets; joined = ap (λ (l : List ℕ). b ∷ l) w.joined }
    go false e m = absurd (Memᴰ.not-nil m)

ended : (bs : List ℕ) (rs : List Range) → completes rs bs ≡ true → Ended rs bs
unfolding completes
ended [] [] e = record { char = []; rest = []; within = all; octets = none; joined = refl }
ended [] (r ∷ rs) e = absurd (false≢true e)
ended (b ∷ bs) rs e =
    let w = mem_any (λ left. completes left bs) (after b rs) e in
    ended_more b rs w.0 bs w.1 (ended bs w.0 w.2)

-- octets in the ranges to come, and characters after them
joins : {rs : List Range} {char : List ℕ} (rest : List ℕ) → Within rs char → completes [] rest ≡ true → completes rs (char ++ rest) ≡ true
unfolding completes after any
joins rest all e = e
joins rest (one {r} {rs} {b} {bs} l h w) e = rw (inside r b l h, joins rest w e)

completed : {bs : List ℕ} → Octets bs → completes [] bs ≡ true
unfolding completes after
completed none = refl
completed (more {rest = rest} m all o) = completed o
completed (more {rest = rest} m (one {r} {rs} {b} {bs} l h w) o) =
    any_mem (λ left. completes left (bs ++ rest)) (mem_begun b r rs utf8_char m (inside r b l h)) (joins rest w (completed o))

-- no range is left at the start of a character
whole : {char : List ℕ} (rest bs : List ℕ) → Within [] char → Octets rest → char ++ rest ≡ bs → Octets bs
whole rest bs all o e = subst Octets e o

pub grammar : (bs : List ℕ) → (is_utf8 bs ≡ true) ↔ Octets bs
unfolding is_utf8
grammar bs = (λ e. let w = ended bs [] e in whole w.rest bs w.within w.octets w.joined, completed)

-- The grammar is what section 3 says: the octets of scalar values, and nothing else.
use Prim.Native.Nat.{ℕ, zero, suc, ◌+◌, ◌-◌, ◌*◌, ◌/◌, ◌%◌, ◌≤◌, ◌<◌}
use mathlib.Core.Path.{◌≡◌, refl, sym, ap₂, subst, ◌∙◌}
use mathlib.Core.Logic.{◌⊎◌, inl, inr, ⊎_elim}
use mathlib.Core.Bool.{Bool, true, false}
use mathlib.Core.List.Memᴰ
use mathlib.Core.List.{List, [], ◌∷◌, ◌++◌, Memᴰ}
use native.Mathlib.Omega.{arith}
use borrow.Author.Rules.{rules}
use borrow.Author.Tests.{le-leb, lt-leb, leb-true, leb-false}
use lib.Dec.{leb}
use lib.ListN.{length, get_or}
use Rattle.utf8.specs.Grammar.{Range, tail, utf8_1, utf8_2, utf8_3, utf8_4, utf8_char, Within, all, one, Octets, none, more, is_utf8}
use Rattle.utf8.specs.Scalar.{Scalar, Scalars, tail_of, encode_scalar, encode_scalars}
use Rattle.utf8.proofs.Grammar.{grammar}

-- A row of the table, by its range of numbers.
module _ (c : ℕ) where
  row1 : c ≤ 0x7F → encode_scalar c ≡ c ∷ []
  unfolding encode_scalar
  row1 h = rw (le-leb c 0x7F h)

  row2 : 0x7F < c → c ≤ 0x7FF → encode_scalar c ≡ (0xC0 + c / 64) ∷ tail_of c ∷ []
  unfolding encode_scalar
  row2 l h = rw (lt-leb c 0x7F l, le-leb c 0x7FF h)

  row3 : 0x7FF < c → c ≤ 0xFFFF → encode_scalar c ≡ (0xE0 + c / 4096) ∷ tail_of (c / 64) ∷ tail_of c ∷ []
  unfolding encode_scalar
  row3 l h = let l1 : 0x7F < c = omega arith in rw (lt-leb c 0x7F l1, lt-leb c 0x7FF l, le-leb c 0xFFFF h)

  row4 : 0xFFFF < c → encode_scalar c ≡ (0xF0 + c / 262144) ∷ tail_of (c / 4096) ∷ tail_of (c / 64) ∷ tail_of c ∷ []
  unfolding encode_scalar
  row4 l = let l1 : 0x7F < c = omega arith in let l2 : 0x7FF < c = omega arith in rw (lt-leb c 0x7F l1, lt-leb c 0x7FF l2, lt-leb c 0xFFFF l)

-- the number that a character's octets stand for
record Decoded (char : List ℕ) : Type 0 where
  number : ℕ
  scalar : Scalar number
  encoded : encode_scalar number ≡ char

one_octet : (r : Range) {char : List ℕ} → r.high ≤ 0x7F → Within (r ∷ []) char → Decoded char
one_octet r u (one {b = x} l h all) =
    record { number = x; scalar = record { last = omega arith; apart = inl (omega arith) }; encoded = row1 x (omega arith) }

two_octets : (r : Range) {char : List ℕ} → 0xC2 ≤ r.low → r.high ≤ 0xDF → Within (r ∷ tail ∷ []) char → Decoded char
unfolding tail
two_octets r u v (one {b = x} l h (one {b = y} l' h' all)) =
    let c = (x - 0xC0) * 64 + (y - 0x80) in
    let p : 0xC0 + c / 64 ≡ x = omega arith in
    let q : 0x80 + c % 64 ≡ y = omega arith in
    record { number = c; scalar = record { last = omega arith; apart = inl (omega arith) }; encoded = row2 c (omega arith) (omega arith) ∙ rw (p, q) }

-- Two octets x y are ordered as x * 64 + y. From E0 A0 no number is overlong; ED A0 to ED BF begin the surrogates.
three_octets : (r s : Range) {char : List ℕ}
    → (0xE0 ≤ r.low) × (r.high ≤ 0xEF) × (0x80 ≤ s.low) × (s.high ≤ 0xBF) × (0xE0 * 64 + 0xA0 ≤ r.low * 64 + s.low)
    → (r.high * 64 + s.high < 0xED * 64 + 0xA0) ⊎ (0xED * 64 + 0xBF < r.low * 64 + s.low)
    → Within (r ∷ s ∷ tail ∷ []) char → Decoded char
unfolding tail
three_octets r s u d (one {b = x} l h (one {b = y} l' h' (one {b = z} l'' h'' all))) =
    let c = (x - 0xE0) * 4096 + (y - 0x80) * 64 + (z - 0x80) in
    let k : c / 64 ≡ (x - 0xE0) * 64 + (y - 0x80) = omega arith in
    let p : 0xE0 + c / 4096 ≡ x = omega arith in
    let q : 0x80 + c / 64 % 64 ≡ y = rw k (omega arith) in
    let w : 0x80 + c % 64 ≡ z = omega arith in
    record {
      number = c;
      scalar = record { last = omega arith; apart = ⊎_elim (λ k. inl (omega arith)) (λ k. inr (omega arith)) d };
      encoded = row3 c (omega arith) (omega arith) ∙ rw (p, q, w);
    }

-- From F0 90 no number is overlong; F4 8F begins the last number.
four_octets : (r s : Range) {char : List ℕ}
    → (0xF0 ≤ r.low) × (0x80 ≤ s.low) × (s.high ≤ 0xBF) × (0xF0 * 64 + 0x90 ≤ r.low * 64 + s.low) × (r.high * 64 + s.high ≤ 0xF4 * 64 + 0x8F)
    → Within (r ∷ s ∷ tail ∷ tail ∷ []) char → Decoded char
unfolding tail
four_octets r s u (one {b = x} l h (one {b = y} l' h' (one {b = z} l'' h'' (one {b = t} l''' h''' all)))) =
    let c = (x - 0xF0) * 262144 + (y - 0x80) * 4096 + (z - 0x80) * 64 + (t - 0x80) in
    let k : c / 64 ≡ (x - 0xF0) * 4096 + (y - 0x80) * 64 + (z - 0x80) = omega arith in
    let j : c / 4096 ≡ (x - 0xF0) * 64 + (y - 0x80) = omega arith in
    let p : 0xF0 + c / 262144 ≡ x = omega arith in
    let q : 0x80 + c / 4096 % 64 ≡ y = rw j (omega arith) in
    let v : 0x80 + c / 64 % 64 ≡ z = rw k (omega arith) in
    let w : 0x80 + c % 64 ≡ t = omega arith in
    record {
      number = c;
      scalar = record { last = omega arith; apart = inr (omega arith) };
      encoded = row4 c (omega arith) ∙ rw (p, q, v, w);
    }

-- what holds of each member, member by member
module _ {A : Type 0} (P : A → Type 0) where
  abbrev All : List A → Type 0
  All [] = Unit {0}
  All (x ∷ xs) = P x × All xs

  all_mem : (a : A) (xs : List A) → All xs → Memᴰ a xs → P a
  all_mem a [] ps m = absurd (Memᴰ.not-nil m)
  all_mem a (x ∷ xs) ps m = ⊎_elim (λ e. subst P (sym e) ps.0) (λ n. all_mem a xs ps.1 n) (Memᴰ.cases_cons m)

also : {X Y : Type 0} → X → Y → X × Y
also x y = (x, y)

decoded : (a : List Range) (char : List ℕ) → Memᴰ a utf8_char → Within a char → Decoded char
unfolding utf8_char utf8_1 utf8_2 utf8_3 utf8_4 tail
decoded a char m w =
    all_mem (λ (a : List Range). Within a char → Decoded char) a utf8_char
    (also (one_octet _ (omega arith))
    (also (two_octets _ (omega arith) (omega arith))
    (also (three_octets _ _ (search rules) (inl (omega arith)))
    (also (three_octets _ _ (search rules) (inl (omega arith)))
    (also (three_octets _ _ (search rules) (inl (omega arith)))
    (also (three_octets _ _ (search rules) (inr (omega arith)))
    (also (four_octets _ _ (search rules))
    (also (four_octets _ _ (search rules))
    (also (four_octets _ _ (search rules))
    tt)))))))))
    m w

decode_all : {bs : List ℕ} → Octets bs → (cs : List ℕ) × Scalars cs × (encode_scalars cs ≡ bs)
unfolding encode_scalars
decode_all none = ([], (λ c m. absurd (Memᴰ.not-nil m)), refl)
decode_all (more {alternative} {char} {rest} m w o) =
    let d = decoded alternative char m w in
    let ds = decode_all o in (
      d.number ∷ ds.0,
      (λ c n. ⊎_elim (λ e. subst Scalar (sym e) d.scalar) (λ k. ds.1 c k) (Memᴰ.cases_cons n)),
      ap₂ ◌++◌ d.encoded ds.2,
    )

pub grammar_sound : (bs : List ℕ) → is_utf8 bs ≡ true → (cs : List ℕ) × Scalars cs × (encode_scalars cs ≡ bs)
grammar_sound bs e = decode_all ((grammar bs).0 e)

-- `Within` as facts about numbers alone, which are found by arithmetic
abbrev Lies : List Range → List ℕ → Type 0
Lies [] [] = Unit {0}
Lies [] (b ∷ bs) = ⊥
Lies (r ∷ rs) [] = ⊥
Lies (r ∷ rs) (b ∷ bs) = (r.low ≤ b) × (b ≤ r.high) × Lies rs bs

lies_within : (rs : List Range) (bs : List ℕ) → Lies rs bs → Within rs bs
lies_within [] [] w = all
lies_within [] (b ∷ bs) w = absurd w
lies_within (r ∷ rs) [] w = absurd w
lies_within (r ∷ rs) (b ∷ bs) w = one w.0 w.1 (lies_within rs bs w.2)

at : {A : Type 0} (d : A) (n : ℕ) (xs : List A) → n < length xs → Memᴰ (get_or xs n d) xs
at d n [] h = absurd (omega arith)
at d zero (x ∷ xs) h = Memᴰ.head refl
at d (suc n) (x ∷ xs) h = Memᴰ.tail (at d n xs (omega arith))

-- a character of the grammar, by the number of its alternative
Char : List ℕ → Type 0
Char char = (a : List Range) × Memᴰ a utf8_char × Within a char

alternative : (n : ℕ) (char : List ℕ) → n < length utf8_char → Lies (get_or utf8_char n []) char → Char char
unfolding Char
alternative n char h w = (get_or utf8_char n [], at [] n utf8_char h, lies_within (get_or utf8_char n []) char w)

-- up to a bound, or beyond it
up_to : {A : Type 0} (c k : ℕ) → (c ≤ k → A) → (k < c → A) → A
up_to {A = A} c k f g = go (leb c k) refl
  where
    go : (t : Bool) → leb c k ≡ t → A
    go true e = f (leb-true c k e)
    go false e = g (leb-false c k e)

-- the rows of the table, cut where the grammar's alternatives part
encoded : (c : ℕ) → Scalar c → Char (encode_scalar c)
unfolding utf8_char utf8_1 utf8_2 utf8_3 utf8_4 tail
encoded c s =
    up_to c 0x7F (λ h. rw (row1 c h) (alternative 0 _ (omega arith) (search rules))) (λ l0.
    up_to c 0x7FF (λ h. rw (row2 c (omega arith) h) (alternative 1 _ (omega arith) (search rules))) (λ l1.
    up_to c 0xFFF (λ h. rw (row3 c (omega arith) (omega arith)) (alternative 2 _ (omega arith) (search rules))) (λ l2.
    up_to c 0xCFFF (λ h. rw (row3 c (omega arith) (omega arith)) (alternative 3 _ (omega arith) (search rules))) (λ l3.
    up_to c 0xD7FF (λ h. rw (row3 c (omega arith) (omega arith)) (alternative 4 _ (omega arith) (search rules))) (λ l4.
    up_to c 0xFFFF (λ h. ⊎_elim (λ u. absurd (omega arith)) (λ u. rw (row3 c (omega arith) (omega arith)) (alternative 5 _ (omega arith) (search rules))) s.apart) (λ l5.
    up_to c 0x3FFFF (λ h. rw (row4 c (omega arith)) (alternative 6 _ (omega arith) (search rules))) (λ l6.
    up_to c 0xFFFFF (λ h. rw (row4 c (omega arith)) (alternative 7 _ (omega arith) (search rules))) (λ l7.
    rw (row4 c (omega arith)) (alternative 8 _ (omega arith) (search rules))))))))))

encode_all : (cs : List ℕ) → Scalars cs → Octets (encode_scalars cs)
unfolding encode_scalars Char
encode_all [] s = none
encode_all (c ∷ cs) s =
    let w = encoded c (s c (Memᴰ.head refl)) in
    more w.1 w.2 (encode_all cs (λ d m. s d (Memᴰ.tail m)))

pub grammar_complete : (cs : List ℕ) → Scalars cs → is_utf8 (encode_scalars cs) ≡ true
grammar_complete cs s = (grammar (encode_scalars cs)).1 (encode_all cs s)

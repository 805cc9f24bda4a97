-- Laws of reading a number digit by digit.
-- Assumes nothing.
use mathlib.Core.Path.{◌≡◌, refl, sym, ap, ◌∙◌}
use mathlib.Core.Bool.{true, false, and-false, and-eq-true_iff}
use mathlib.Core.List.{List, [], ◌∷◌}
use mathlib.Core.Logic.{◌⊎◌, inl, inr, ⊎_elim}
use Prim.Native.Nat.{ℕ, suc, ◌+◌, ◌-◌, ◌*◌, ◌^◌, ◌<◌, ◌≤◌}
use native.Mathlib.Numerals.{add-one}
use native.Mathlib.Omega.{arith}
use borrow.Author.Tests.{lt-ltb, le-ltb, le-leb, lt-leb}
use lib.Dec.{leb, ltb, eqb}
use lib.ListN.{length, get_or, take, drop, drop_of_length-le}
use lib.Seq.{drop-cons}
use Rattle.fields.proofs.Cases.{case_b, tests}
use Rattle.std.specs.declared.option.Option.TheVariants.{None, Some}
use Rattle.std.specs.declared.option.Option.{Option}
use Rattle.std.specs.Option.{SomeIff, MatchOption, unwrap_or}
use Rattle.std.specs.Char.{is_ascii_digit}
use Rattle.std.specs.Prelude.{nat_eq}
use Rattle.std.specs.Cmp.Lexicographic.{pointwise}
use denote.Ref.{Bor}
use Rattle.names.specs.Name.{without_plus}
use Rattle.names.specs.Decimal.{byte_of, all_digits, value_after, value_of, number_after, number_in}
use Rattle.names.proofs.Digits.{value_grows}

-- ---- one byte more

module _ (v b : ℕ) (bs : List ℕ) where
  pub digit_low : b < byte_of 0 → number_after v (b ∷ bs) ≡ None
  unfolding number_after all_digits
  digit_low h = rw (lt-leb 48 b h)

  pub digit_high : byte_of 9 < b → number_after v (b ∷ bs) ≡ None
  unfolding number_after all_digits
  digit_high h = rw (le-leb 48 b (omega arith), lt-leb b 57 h)

  pub digit_over : 2 ^ 64 ≤ 10 * v + (b - byte_of 0) → number_after v (b ∷ bs) ≡ None
  unfolding number_after value_after
  digit_over h =
      let w = 10 * v + (b - byte_of 0) in
      rw (le-ltb (value_after w bs) (2 ^ 64) (omega (arith, value_grows w bs)), and-false)

  pub digit_taken : byte_of 0 ≤ b → b ≤ byte_of 9 → number_after v (b ∷ bs) ≡ number_after (10 * v + (b - byte_of 0)) bs
  unfolding number_after all_digits value_after
  digit_taken h k = rw (le-leb 48 b h, le-leb b 57 k)

pub number_end : (v : ℕ) → v < 2 ^ 64 → number_after v [] ≡ Some v
unfolding number_after all_digits value_after
number_end v h = rw (lt-ltb v (2 ^ 64) h)

-- ---- what the code says of a byte

module _ (v b : ℕ) where
  pub no_digit : is_ascii_digit b ≡ false → None ≡ number_after v (b ∷ [])
  unfolding number_after all_digits
  no_digit h = rw h

  pub no_room : ¬ (v * 10 < 2 ^ 64) → None ≡ number_after v (b ∷ [])
  no_room h = sym (digit_over v b [] (omega arith))

  pub digit_says : (r : Option ℕ) (x d : ℕ) → is_ascii_digit b ≡ true → x ≡ v * 10 → d ≡ b - 48 → SomeIff r (x + d < 2 ^ 64) (x + d) → r ≡ number_after v (b ∷ [])
  digit_says None x d h e f i = sym (digit_over v b [] (omega arith))
  digit_says (Some y) x d h e f i =
      let t = (and-eq-true_iff (leb 48 b) (leb b 57)).0 h in
      let g : y ≡ 10 * v + (b - 48) = omega arith in
      ap Some g ∙ sym (digit_taken v b [] (omega (arith, tests, t.0)) (omega (arith, tests, t.1)) ∙ number_end (10 * v + (b - 48)) (omega arith))

-- what one byte decides, it decides whatever follows
one_byte : (v b : ℕ) → ((bs : List ℕ) → number_after v (b ∷ bs) ≡ None) ⊎ ((10 * v + (b - byte_of 0) < 2 ^ 64) × ((bs : List ℕ) → number_after v (b ∷ bs) ≡ number_after (10 * v + (b - byte_of 0)) bs))
one_byte v b =
    case_b (ltb b 48) (λ q. inl (λ bs. digit_low v b bs (omega (arith, tests))))
    (λ q.
    case_b (ltb 57 b) (λ r. inl (λ bs. digit_high v b bs (omega (arith, tests))))
    (λ r.
    case_b (ltb (10 * v + (b - 48)) (2 ^ 64))
    (λ s. inr (omega (arith, tests), λ bs. digit_taken v b bs (omega (arith, tests)) (omega (arith, tests))))
    (λ s. inl (λ bs. digit_over v b bs (omega (arith, tests))))))

number_turn : (v b next : ℕ) (bs : List ℕ) → Some next ≡ number_after v (b ∷ []) → number_after next bs ≡ number_after v (b ∷ bs)
number_turn v b next bs e =
    ⊎_elim (λ s. let z : ◌≡◌ {A = ℕ} 0 1 = cc (s []) in absurd (omega arith))
    (λ s. let f : next ≡ 10 * v + (b - 48) = cc (s.1 [], number_end (10 * v + (b - 48)) s.0) in rw f (sym (s.1 bs)))
    (one_byte v b)

number_stop : (v b : ℕ) (bs : List ℕ) → None ≡ number_after v (b ∷ []) → None ≡ number_after v (b ∷ bs)
number_stop v b bs e =
    ⊎_elim (λ s. sym (s bs))
    (λ s. let z : ◌≡◌ {A = ℕ} 0 1 = cc (s.1 [], number_end (10 * v + (b - 48)) s.0) in absurd (omega arith))
    (one_byte v b)

-- ---- a number, or none

pub number_digits : (ds : List ℕ) → 0 < length ds → all_digits ds ≡ true → value_of ds < 2 ^ 64 → number_in ds ≡ Some (value_of ds)
unfolding number_in number_after
number_digits [] l h k = absurd (omega arith)
number_digits (b ∷ bs) l h k = rw (h, lt-ltb (value_of (b ∷ bs)) (2 ^ 64) k)

-- a text without digits, with another byte or with too great a number is none
pub number_none : (ds : List ℕ) → ¬ ((all_digits ds ≡ true) × (0 < length ds) × (value_of ds < 2 ^ 64)) → None ≡ number_in ds
unfolding number_in number_after
number_none [] n = refl
number_none (b ∷ bs) n =
    case_b (all_digits (b ∷ bs))
    (λ h.
    case_b (ltb (value_of (b ∷ bs)) (2 ^ 64)) (λ k. absurd (n (h, omega arith, omega (arith, tests))))
    (λ k. rw (h, k)))
    (λ h. rw h)

-- ---- the loop: v is the number so far, from i on

pub number_start : (text : List ℕ) → 0 < length text → number_after 0 text ≡ number_in text
unfolding number_in
number_start [] h = absurd (omega arith)
number_start (b ∷ bs) h = refl

module _ (text : List ℕ) (v i : ℕ) where
  pub read_turn : (next : ℕ) → i < length text → Some next ≡ number_after v (get_or text i 0 ∷ []) → number_after next (drop (i + 1) text) ≡ number_after v (drop i text)
  read_turn next h e = rw (add-one, drop-cons text i 0 h) (number_turn v (get_or text i 0) next (drop (suc i) text) e)

  pub read_stop : i < length text → None ≡ number_after v (get_or text i 0 ∷ []) → None ≡ number_after v (drop i text)
  read_stop h e = rw (drop-cons text i 0 h) (number_stop v (get_or text i 0) (drop (suc i) text) e)

  pub read_end : length text ≤ i → v < 2 ^ 64 → Some v ≡ number_after v (drop i text)
  read_end h k = rw (drop_of_length-le text h, number_end v k)

-- ---- the optional `+`

-- what std's `strip_prefix` says of it
pub plus_says : (d : Bor (List ℕ)) (text : List ℕ) (r : Option (Bor (List ℕ))) → d.now ≡ text → MatchOption r (pointwise nat_eq (take 1 text) (43 ∷ []) ≡ false) (λ x. (pointwise nat_eq (take 1 text) (43 ∷ []) ≡ true) × (x.now ≡ drop 1 text) × (length x.now + 1 ≡ length text)) → (unwrap_or r d).now ≡ without_plus text
unfolding without_plus
plus_says d [] None e h = e
plus_says d [] (Some x) e h = h.1
plus_says d (b ∷ bs) None e h = case_b (eqb b 43) (λ q. let f : true ≡ false = rw q at h in let z : ◌≡◌ {A = ℕ} 0 1 = cc in absurd (omega arith)) (λ q. rw q e)
plus_says d (b ∷ bs) (Some x) e h = case_b (eqb b 43) (λ q. rw q h.1) (λ q. let f : false ≡ true = rw q at h.0 in let z : ◌≡◌ {A = ℕ} 0 1 = cc in absurd (omega arith))

-- Octets of UTF8-1: eight of them by one test, and passing them changes nothing.
use Prim.Native.Nat.{ℕ, ◌+◌, ◌<◌}
use mathlib.Core.Path.{◌≡◌, refl, sym, ◌∙◌}
use mathlib.Core.Bool.{Bool, true, false, cond, ◌&&◌, or-false, and_assoc, and-true}
use mathlib.Core.List.{List, [], ◌∷◌, ◌++◌}
use native.Mathlib.Omega.{arith}
use borrow.Author.Tests.{leb-true, le-leb, lt-leb, ltb-true, ltb-false, lt-ltb, le-ltb}
use lib.Bits.{bit_or, or_lt, or_add_and, and_le_l, and_le_r}
use lib.Dec.{leb, ltb}
use lib.ListN.{length, take, drop, get_or, take-append-drop, drop_of_length-le, length-drop}
use lib.Seq.{drop-cons}
use Rattle.std.specs.declared.option.Option.TheVariants.{None, Some}
use Rattle.std.proofs.lemmas.Option.{cond_some}
use Rattle.utf8.specs.Grammar.{begun, utf8_char, utf8_1, utf8_2, utf8_3, utf8_4, tail, after, any, completes}
use Rattle.utf8.specs.Ascii.{ascii, behind_ascii}
use Rattle.utf8.proofs.Holds.{both_left, both_right}
use Rattle.utf8.proofs.Stretch.{stretch, begun_same}

-- an OR is below 0x80 exactly if both are
or_low : (a b : ℕ) → ltb (bit_or a b) 0x80 ≡ (ltb a 0x80 && ltb b 0x80)
or_low a b = go (ltb a 0x80) (ltb b 0x80) refl refl
  where
    go : (s t : Bool) → ltb a 0x80 ≡ s → ltb b 0x80 ≡ t → ltb (bit_or a b) 0x80 ≡ (s && t)
    go true true p q = lt-ltb (bit_or a b) 0x80 (or_lt 7 a b (ltb-true a 0x80 p) (ltb-true b 0x80 q))
    go true false p q = le-ltb (bit_or a b) 0x80 (omega (arith, ltb-false b 0x80 q, or_add_and a b, and_le_l a b))
    go false t p q = le-ltb (bit_or a b) 0x80 (omega (arith, ltb-false a 0x80 p, or_add_and a b, and_le_r a b))

pub ascii_eight : (s : List ℕ) → length s ≡ 8
    → ltb (bit_or (bit_or (bit_or (bit_or (get_or s 0 0) (get_or s 1 0)) (get_or s 2 0)) (get_or s 3 0)) (bit_or (bit_or (bit_or (get_or s 4 0) (get_or s 5 0)) (get_or s 6 0)) (get_or s 7 0))) 0x80 ≡ ascii s
unfolding ascii
ascii_eight s e =
    let end : drop 8 s ≡ [] = drop_of_length-le s {i = 8} (omega arith) in
    let whole : ascii s ≡ ascii (drop 0 s) = refl in
    simp (or_low, and_assoc)
    (sym (whole ∙ rw (drop-cons s 0 0 (omega arith), drop-cons s 1 0 (omega arith), drop-cons s 2 0 (omega arith), drop-cons s 3 0 (omega arith), drop-cons s 4 0 (omega arith), drop-cons s 5 0 (omega arith), drop-cons s 6 0 (omega arith), drop-cons s 7 0 (omega arith), end, and-true)))

begun_ascii : (b : ℕ) → b < 0x80 → begun b utf8_char ≡ [] ∷ []
unfolding begun stretch utf8_char utf8_1 utf8_2 utf8_3 utf8_4 tail
begun_ascii b h = begun_same 0x00 0x7F b (omega arith) (omega arith) utf8_char refl

passes : (xs ys : List ℕ) → ascii xs ≡ true → completes [] (xs ++ ys) ≡ completes [] ys
unfolding ascii completes after any
passes [] ys e = refl
passes (b ∷ xs) ys e =
    let h = ltb-true b 0x80 (both_left (ltb b 0x80) _ e) in
    rw (begun_ascii b h) (or-false _ ∙ passes xs ys (both_right (ltb b 0x80) _ e))

-- what is answered of too few octets, and of eight and more
pub behind_few : (bytes : List ℕ) → length bytes < 8 → None ≡ behind_ascii bytes
unfolding behind_ascii
behind_few bytes h = rw (lt-leb 8 (length bytes) h)

pub behind_eight : (bytes eight rest : List ℕ) (t : Bool) → eight ≡ take 8 bytes → rest ≡ drop 8 bytes → length rest + 8 ≡ length bytes → ascii eight ≡ t → cond t (Some rest) None ≡ behind_ascii bytes
unfolding behind_ascii
behind_eight bytes eight rest t e r l h = rw (le-leb 8 (length bytes) (omega arith), ← e, ← r, h)

-- eight octets that are passed change nothing
pub record Passed (bytes rest : List ℕ) : Type 0 where
  pub shorter : length rest < length bytes
  pub same : completes [] rest ≡ completes [] bytes

pub eight_pass : (bytes rest : List ℕ) → behind_ascii bytes ≡ Some rest → Passed bytes rest
unfolding behind_ascii
eight_pass bytes rest e =
    let t = cond_some _ _ _ e in
    let there = leb-true 8 (length bytes) (both_left _ _ t.0) in
    let p = passes (take 8 bytes) (drop 8 bytes) (both_right (leb 8 (length bytes)) _ t.0) in
    record {
      shorter = rw (← t.1, length-drop) (omega arith);
      same = sym (rw (take-append-drop, t.1) at p);
    }

-- Laws of reading a name, and the round trips: a name that was written reads as its own id, and no other name is kept.
-- Assumes nothing.
use mathlib.Core.Path.{◌≡◌, refl, sym, ap, ◌∙◌}
use mathlib.Core.Bool.{true, false, and-false}
use mathlib.Core.List.{List, [], ◌∷◌, ◌++◌}
use Prim.Native.Nat.{ℕ, ◌+◌, ◌-◌, ◌^◌, ◌<◌, ◌≤◌}
use native.Mathlib.Omega.{arith}
use borrow.Author.Tests.{le-leb}
use lib.Dec.{leb, eqb}
use lib.ListN.{length, take, drop, length-append}
use lib.Seq.{take-append-le, take-append_seam, drop-append-le, drop-append_seam, drop-drop}
use Rattle.fields.proofs.Cases.{case_b, tests}
use Rattle.fields.proofs.Ordered.{same_is, same_true, same_self}
use denote.Ref.{Bor}
use Rattle.std.specs.Prelude.{nat_eq}
use Rattle.std.specs.Cmp.Lexicographic.{pointwise}
use Rattle.std.specs.Option.{MatchOption, option_copied}
use Rattle.std.proofs.lemmas.Option.{cond_some, none-some, same_Some}
use Rattle.std.specs.declared.option.Option.{Option}
use Rattle.std.specs.declared.option.Option.TheVariants.{None, Some}
use Rattle.names.specs.declared.Parsed.{Parsed}
use Rattle.names.specs.Decimal.{digits_of, padded, all_digits, value_of, number_in}
use Rattle.names.specs.Name.{prefix, suffix, name_of, is_framed, between, text_of, without_plus, parsed_as, read_of}
use Rattle.names.proofs.Digits.{length-padded, value_padded, all_padded}
use Rattle.names.proofs.Numerals.{number_digits}

-- ---- prefix and suffix

module _ (name : List ℕ) where
  unframed : is_framed name ≡ false → None ≡ text_of name
  unfolding text_of
  unframed e = rw e

  pub no_prefix : pointwise nat_eq (take 4 name) prefix ≡ false → None ≡ text_of name
  unfolding is_framed prefix
  no_prefix e = unframed (rw (← same_is, e, and-false))

  -- what stands behind the prefix, and what std says of its suffix
  module _ (rest : List ℕ) (first : pointwise nat_eq (take 4 name) prefix ≡ true) (is : rest ≡ drop 4 name) (long : length rest + 4 ≡ length name) where
    last : 4 ≤ length rest → drop (length rest - 4) rest ≡ drop (length name - 4) name
    last h =
        let e : 4 + (length rest - 4) ≡ length name - 4 = omega arith in
        ap (λ l. drop (length rest - 4) l) is ∙ rw (drop-drop, e)

    pub suffix_says : (r : Option (Bor (List ℕ))) → MatchOption r (pointwise nat_eq (drop (length rest - 4) rest) suffix ≡ false) (λ x. (pointwise nat_eq (drop (length rest - 4) rest) suffix ≡ true) × (x.now ≡ take (length rest - 4) rest) × (length x.now + 4 ≡ length rest)) → option_copied r ≡ text_of name
    unfolding text_of is_framed prefix suffix between
    suffix_says None e =
        case_b (leb 8 (length name))
        (λ q. let h : 4 ≤ length rest = omega (arith, tests) in unframed (rw (q, ← same_is, ← same_is, first, ← last h, e)))
        (λ q. unframed (rw q))
    suffix_says (Some x) e =
        let h : 4 ≤ length rest = omega (arith, e.2) in
        let k : length rest - 4 ≡ length name - 8 = omega arith in
        rw (le-leb 8 (length name) (omega arith), ← same_is, ← same_is, first, ← last h, e.0, e.1, k, is)

  -- ---- from the parts to the whole

  pub read_none : None ≡ text_of name → None ≡ read_of name
  unfolding text_of read_of
  read_none e = case_b (is_framed name) (λ q. absurd (none-some _ (rw q at e))) (λ q. rw q)

  pub read_some : (text : List ℕ) (m : Option ℕ) → Some text ≡ text_of name → m ≡ number_in (without_plus text) → parsed_as name m ≡ read_of name
  unfolding text_of read_of
  read_some text m e f = let t = cond_some _ _ _ (sym e) in rw (t.0, t.1, f)

-- ---- what stands between prefix and suffix

module _ (text : List ℕ) where
  abbrev name : List ℕ
  name = prefix ++ text ++ suffix

  lengths : length name ≡ length prefix + length text + length suffix
  lengths = rw (length-append (prefix ++ text) suffix, length-append prefix text)

  before_suffix : length name - length suffix ≡ length (prefix ++ text)
  before_suffix = omega (arith, lengths, length-append prefix text)

  framed_around : is_framed name ≡ true
  unfolding is_framed
  framed_around =
      let a : length prefix + length suffix ≤ length name = omega (arith, lengths) in
      let b : length prefix ≤ length (prefix ++ text) = omega (arith, length-append prefix text) in
      rw (le-leb _ _ a, take-append-le (length prefix) (prefix ++ text) suffix b, take-append_seam prefix text, same_self prefix, before_suffix, drop-append_seam (prefix ++ text) suffix, same_self suffix)

  between_around : between name ≡ text
  unfolding between
  between_around =
      let a : length prefix ≤ length (prefix ++ text) = omega (arith, length-append prefix text) in
      let b : length name - (length prefix + length suffix) ≡ length text = omega (arith, lengths) in
      rw (b, drop-append-le (length prefix) (prefix ++ text) suffix a, drop-append_seam prefix text, take-append_seam text suffix)

-- digits have no `+`
plus_digits : (ds : List ℕ) → all_digits ds ≡ true → without_plus ds ≡ ds
unfolding without_plus all_digits
plus_digits [] h = refl
plus_digits (b ∷ bs) h =
    case_b (eqb b 43)
    (λ q. let e : b ≡ 43 = omega (arith, tests) in let f : false ≡ true = rw e at h in let z : ◌≡◌ {A = ℕ} 0 1 = cc in absurd (omega arith))
    (λ q. rw q)

-- ---- the round trips

pub read_written : (id : ℕ) → id < 2 ^ 64 → read_of (name_of id) ≡ Some (record { id = id; kept = true })
unfolding read_of parsed_as name_of
read_written id h =
    let ds = padded 8 (digits_of id) in
    let l : 0 < length ds = omega (arith, length-padded 8 (digits_of id)) in
    let k : value_of ds < 2 ^ 64 = omega (arith, value_padded 8 id) in
    rw (framed_around ds, between_around ds, plus_digits ds (all_padded 8 id), number_digits ds l (all_padded 8 id) k, value_padded 8 id, same_self (name_of id))

pub kept_exactly : (name : List ℕ) (id : ℕ) → read_of name ≡ Some (record { id = id; kept = true }) → name ≡ name_of id
unfolding read_of parsed_as
kept_exactly name id e =
    case_b (is_framed name) (λ q. told (number_in (without_plus (between name))) (rw q at e))
    (λ q. absurd (none-some _ (rw q at e)))
  where
    told : (m : Option ℕ) → parsed_as name m ≡ Some (record { id = id; kept = true }) → name ≡ name_of id
    told None e = absurd (none-some _ e)
    told (Some v) e =
        let p = same_Some _ _ e in
        let a : v ≡ id = ap (λ (x : Parsed). x.id) p in
        same_true name (name_of v) (ap (λ (x : Parsed). x.kept) p) ∙ ap name_of a

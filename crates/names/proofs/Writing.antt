-- Laws of writing a name.
-- Assumes nothing.
use mathlib.Core.Path.{◌≡◌, refl, ap, ◌∙◌, sym}
use mathlib.Core.List.{List, ◌++◌}
use Prim.Native.Nat.{ℕ, ◌+◌, ◌^◌, ◌<◌, ◌≤◌}
use native.Mathlib.Omega.{arith}
use borrow.Author.Tests.{le-leb, lt-leb}
use lib.ListN.{length, take, drop, length-append}
use lib.Seq.{sets, length-sets, sets-eq, take_at}
use Rattle.fields.proofs.Stores.{sets_join}
use Rattle.refusal.specs.Number.{number_of}
use Rattle.refusal.specs.Answer.{refused, accepted, answer_of}
use Rattle.refusal.specs.declared.Refusal.{Refusal}
use Rattle.refusal.specs.declared.Refusal.TheVariants.{InvalidBuffer}
use Rattle.std.specs.declared.result.Result.{Result}
use Rattle.std.specs.declared.result.Result.TheVariants.{Ok, Err}
use Rattle.names.specs.Decimal.{digits_of, padded, low_digits}
use Rattle.names.specs.Name.{Naming, prefix, suffix, name_of, naming, name_into}
use Rattle.names.proofs.Digits.{length-padded, digits_most, padded_width}

pub length_parts : (id : ℕ) → length (name_of id) ≡ 4 + length (padded 8 (digits_of id)) + 4
unfolding name_of prefix suffix
length_parts id = rw (length-append (prefix ++ padded 8 (digits_of id)) suffix, length-append prefix (padded 8 (digits_of id)))

pub width_most : (id : ℕ) → id < 2 ^ 64 → length (padded 8 (digits_of id)) ≤ 20
width_most id h = omega (arith, length-padded 8 (digits_of id), digits_most 19 id (omega arith))

-- a name has 28 bytes at most
pub name_length : (id : ℕ) → id < 2 ^ 64 → length (name_of id) ≤ 28
name_length id h = omega (arith, length_parts id, width_most id h)

length-prefix : length prefix ≡ 4
unfolding prefix
length-prefix = refl

-- the three stores, one after the other
pub name_stored : (l : List ℕ) (id n : ℕ) → n ≡ length (padded 8 (digits_of id)) → sets (sets (sets l 0 prefix) 4 (low_digits n id)) (4 + n) suffix ≡ sets l 0 (name_of id)
unfolding name_of
name_stored l id n e =
    let ds = padded 8 (digits_of id) in
    let a : 4 ≡ 0 + length prefix = omega (arith, length-prefix) in
    let b : 4 + length ds ≡ 0 + length (prefix ++ ds) = omega (arith, length-prefix, length-append prefix ds) in
    rw (e, ← padded_width 8 id, ← sets_join l (prefix ++ ds) suffix 0 (4 + length ds) b, ← sets_join l prefix ds 0 4 a)

pub refuses : (id : ℕ) (l : List ℕ) → length l < length (name_of id) → naming (Err InvalidBuffer) l ≡ name_into id l
unfolding name_into
refuses id l h = rw (lt-leb _ _ h)

pub accepts : (id : ℕ) (l : List ℕ) (n : ℕ) (k : List ℕ) → length (name_of id) ≤ length l → n ≡ length (name_of id) → k ≡ sets l 0 (name_of id) → naming (Ok n) k ≡ name_into id l
unfolding name_into
accepts id l n k h e f = rw (le-leb _ _ h, e, f)

-- a target that is long enough: the answer, and the bytes that were written
module _ (id : ℕ) (l : List ℕ) (r : Result ℕ Refusal) (k : List ℕ) (w : naming r k ≡ name_into id l) (h : length (name_of id) ≤ length l) where
  whole : naming r k ≡ record { answer = accepted (length (name_of id)); target = sets l 0 (name_of id) }
  unfolding name_into
  whole = w ∙ rw (le-leb _ _ h)

  answered : answer_of r ≡ accepted (length (name_of id))
  answered = ap (λ (x : Naming). x.answer) whole

  pub not_refused : (e : Refusal) → r ≡ Err e → ⊥
  not_refused e f =
      let g : refused (number_of e) ≡ accepted (length (name_of id)) = sym (ap answer_of f) ∙ answered in
      let z : ◌≡◌ {A = ℕ} 0 1 = cc in omega arith

  pub written_count : (n : ℕ) → r ≡ Ok n → n ≡ length (name_of id)
  written_count n e =
      let f : accepted n ≡ accepted (length (name_of id)) = sym (ap answer_of e) ∙ answered in cc

  stored : k ≡ sets l 0 (name_of id)
  stored = ap (λ (x : Naming). x.target) whole

  pub written_length : length k ≡ length l
  written_length = rw (stored, length-sets)

  pub written_bytes : take (length (name_of id)) k ≡ name_of id
  written_bytes = rw (stored, sets-eq (name_of id) l 0 (omega arith), take_at (name_of id) (drop (0 + length (name_of id)) l) (length (name_of id)) refl)

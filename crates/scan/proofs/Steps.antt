-- The laws of a step: which answer is given when, and what an answer with a payload says.
-- Assumes nothing.
use mathlib.Core.Path.{◌≡◌, refl}
use mathlib.Core.List.{List}
use Prim.Native.Nat.{ℕ, ◌+◌, ◌-◌, ◌<◌, ◌≤◌}
use native.Mathlib.Omega.{arith}
use borrow.Author.Tests.{leb-true, leb-false, ltb-true, ltb-false, lt-ltb, le-ltb, le-leb, lt-leb, eq-eqb, ne_eqb}
use lib.Dec.{leb, ltb}
use lib.ListN.{length, drop, length-drop, length-take}
use lib.Seq.{drop-drop}
use Rattle.fields.proofs.Cases.{case_b}
use Rattle.header.specs.Header.{header_at, valid_for}
use Rattle.header.specs.declared.WalEntryHeader.{WalEntryHeader}
use Rattle.entry.specs.Decode.{bytes_at, end_of, decode_of}
use Rattle.entry.specs.declared.Place.{Place}
use Rattle.entry.specs.declared.WalEntry.{WalEntry}
use Rattle.std.specs.declared.option.Option.{Option}
use Rattle.std.specs.declared.option.Option.TheVariants.{None, Some}
use Rattle.entry.specs.declared.decoding.Decoded.{Decoded}
use Rattle.entry.proofs.Places.{decode_within}
use Rattle.scan.specs.Step.{judged_as, judge_of, step_as, step_from, step_at}
use Rattle.scan.specs.declared.Step.{Step}
use Rattle.scan.specs.declared.Step.TheVariants.{Entry, End, Torn, WrongChecksum, Undecodable}

-- the place of the payload whose header stands at an offset
abbrev pub payload_at : List ℕ → (at : ℕ) → Place
payload_at s at = record { start = at + 13; len = (header_at (drop at s)).length }

-- ---- the tests, each with its answer

module _ (s : List ℕ) (at : ℕ) where
  pub from_end : length s ≤ at → step_from at (drop at s) ≡ End
  unfolding step_from
  from_end h =
      let e : length s - at ≡ 0 = omega arith in
      rw (length-drop, eq-eqb _ _ e)

  -- fewer than 13 bytes left, but at least 1
  pub from_short : at < length s → length s - at < 13 → step_from at (drop at s) ≡ Torn
  unfolding step_from
  from_short h k =
      let n : length s - at ≡ 0 → ⊥ = λ e. omega arith in
      rw (length-drop, ne_eqb _ _ n, lt-ltb _ _ k)

  -- a length above what is left
  pub from_beyond : 13 ≤ length s - at → length s - at - 13 < (payload_at s at).len → step_from at (drop at s) ≡ Torn
  unfolding step_from
  from_beyond h k =
      let n : length s - at ≡ 0 → ⊥ = λ e. omega arith in
      rw (length-drop, ne_eqb _ _ n, le-ltb _ _ h, lt-leb _ _ k)

  pub from_whole : 13 ≤ length s - at → (payload_at s at).len ≤ length s - at - 13 → step_from at (drop at s) ≡ step_as (payload_at s at) (judge_of (header_at (drop at s)) (bytes_at s (payload_at s at)))
  unfolding step_from
  from_whole h k =
      let n : length s - at ≡ 0 → ⊥ = λ e. omega arith in
      rw (length-drop, ne_eqb _ _ n, le-ltb _ _ h, le-leb _ _ k, drop-drop)

pub step_end : (s : List ℕ) (at : ℕ) → length s ≤ at → step_at s at ≡ End
unfolding step_at
step_end s at h = from_end s at h

-- ---- what an answer with a payload says

pub record PayloadAt (s : List ℕ) (at : ℕ) (p : Place) : Type 0 where
  pub start : p.start ≡ at + 13
  pub end : end_of p ≤ length s

pub record EntryAt (s : List ℕ) (at : ℕ) (e : WalEntry) (p : Place) : Type 0 where
  pub start : p.start ≡ at + 13
  pub end : end_of p ≤ length s
  pub least : 20 ≤ p.len
  pub used : ℕ
  pub decoded : decode_of (bytes_at s p) ≡ Some (record { entry = e; used = used })

abbrev Says : List ℕ → (at : ℕ) → Step → Type 0
Says s at (Entry e p) = EntryAt s at e p
Says s at (Undecodable p) = PayloadAt s at p
Says s at End = Unit {0}
Says s at Torn = Unit {0}
Says s at WrongChecksum = Unit {0}

module _ (s : List ℕ) (at : ℕ) (p : Place) (start : p.start ≡ at + 13) (end : end_of p ≤ length s) (h : WalEntryHeader) where
  decoded_says : (d : Option Decoded) → decode_of (bytes_at s p) ≡ d → Says s at (step_as p (judged_as d))
  decoded_says None e = record { start = start; end = end }
  decoded_says (Some d) e =
      let n : length (bytes_at s p) ≤ p.len = rw length-take (omega arith) in
      let w = decode_within (bytes_at s p) d.entry d.used e in
      record { start = start; end = end; least = omega arith; used = d.used; decoded = e }

  judged_says : Says s at (step_as p (judge_of h (bytes_at s p)))
  unfolding judge_of
  judged_says =
      case_b (valid_for h (bytes_at s p)) (λ q. rw q (decoded_says (decode_of (bytes_at s p)) refl)) (λ q. rw q tt)

step_says : (s : List ℕ) (at : ℕ) → Says s at (step_at s at)
unfolding step_at
step_says s at =
    case_b (leb (length s) at) (λ q. rw (from_end s at (leb-true _ _ q)) tt)
    (λ q.
    let l : at < length s = leb-false _ _ q in
    case_b (ltb (length s - at) 13) (λ r. rw (from_short s at l (ltb-true _ _ r)) tt)
    (λ r.
    let m : 13 ≤ length s - at = ltb-false _ _ r in
    case_b (leb (payload_at s at).len (length s - at - 13))
    (λ t.
    let k : (payload_at s at).len ≤ length s - at - 13 = leb-true _ _ t in
    rw (from_whole s at m k) (judged_says s at (payload_at s at) refl (omega arith) (header_at (drop at s))))
    (λ t. rw (from_beyond s at m (leb-false _ _ t)) tt)))

pub step_entry : (s : List ℕ) (at : ℕ) (e : WalEntry) (p : Place) → step_at s at ≡ Entry e p → EntryAt s at e p
step_entry s at e p h = rw h at (step_says s at)

pub step_undecodable : (s : List ℕ) (at : ℕ) (p : Place) → step_at s at ≡ Undecodable p → PayloadAt s at p
step_undecodable s at p h = rw h at (step_says s at)

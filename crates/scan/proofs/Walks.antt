-- A reading from an offset on is what the step there makes of the reading behind its payload.
-- Assumes nothing.
use mathlib.Core.Path.{◌≡◌, refl, sym, ap, ◌∙◌}
use mathlib.Core.List.{List, [], ◌∷◌}
use Prim.Native.Nat.{ℕ, zero, suc, ◌+◌, ◌-◌, ◌<◌, ◌≤◌, max}
use native.Mathlib.Omega.{arith}
use borrow.Author.Tests.{leb-true, leb-false}
use lib.Dec.{leb}
use lib.ListN.{length, drop, drop_of_length-le}
use lib.Seq.{drop-nil, drop-cons, drop-drop}
use Rattle.fields.proofs.Cases.{case_b}
use Rattle.entry.specs.Decode.{end_of}
use Rattle.entry.specs.Parts.{tx_of}
use Rattle.entry.specs.declared.Place.{Place}
use Rattle.entry.specs.declared.WalEntry.{WalEntry}
use Rattle.scan.specs.Step.{step_at}
use Rattle.scan.specs.Walk.{behind, walk, walk_from}
use Rattle.scan.specs.Read.{nothing, on_read, read_from}
use Rattle.scan.specs.Highest.{on_highest, highest_from}
use Rattle.scan.specs.declared.Step.{Step}
use Rattle.scan.specs.declared.Step.TheVariants.{Entry, End, Torn, WrongChecksum, Undecodable}
use Rattle.scan.proofs.Steps.{step_end, step_entry, step_undecodable}

-- what is read behind a payload depends only on what is read behind a place that ends after the offset
behind_same : {A : Type 0} (ends : A) (f g : Place → A) (s : List ℕ) (at : ℕ) → ((p : Place) → at < end_of p → f p ≡ g p) → behind (step_at s at) ends f ≡ behind (step_at s at) ends g
behind_same {A} ends f g s at same = told (step_at s at) refl
  where
    told : (x : Step) → step_at s at ≡ x → behind x ends f ≡ behind x ends g
    told (Entry e p) h = let t = step_entry s at e p h in same p (omega arith)
    told (Undecodable p) h = let t = step_undecodable s at p h in same p (omega arith)
    told End h = refl
    told Torn h = refl
    told WrongChecksum h = refl

module _ {A : Type 0} (ends : A) (on : Step → A → A) where
  walk_skip : (s : List ℕ) (k at : ℕ) → walk ends on s k at ≡ walk ends on (drop k s) 0 at
  unfolding walk
  walk_skip [] k at = rw drop-nil
  walk_skip (b ∷ bs) (suc k) at = walk_skip bs k at
  walk_skip (b ∷ bs) zero at = refl

  pub walk_end : (s : List ℕ) (at : ℕ) → length s ≤ at → walk_from ends on s at ≡ ends
  unfolding walk_from walk
  walk_end s at h = rw (drop_of_length-le s h)

  walk_first : (s : List ℕ) (at : ℕ) → at < length s → walk_from ends on s at ≡ on (step_at s at) (behind (step_at s at) ends (λ p. walk ends on (drop (suc at) s) (end_of p - at - 1) (end_of p)))
  unfolding walk_from walk step_at
  walk_first s at h = rw (drop-cons s at 0 h)

  walk_behind : (s : List ℕ) (at : ℕ) (p : Place) → at < end_of p → walk ends on (drop (suc at) s) (end_of p - at - 1) (end_of p) ≡ walk_from ends on s (end_of p)
  unfolding walk_from
  walk_behind s at p h =
      let e : suc at + (end_of p - at - 1) ≡ end_of p = omega arith in
      rw (walk_skip (drop (suc at) s) (end_of p - at - 1) (end_of p), drop-drop, e)

  pub walk_step : on End ends ≡ ends → (s : List ℕ) (at : ℕ) → walk_from ends on s at ≡ on (step_at s at) (behind (step_at s at) ends (λ p. walk_from ends on s (end_of p)))
  walk_step e s at =
      case_b (leb (length s) at)
      (λ q. let h : length s ≤ at = leb-true _ _ q in walk_end s at h ∙ rw (step_end s at h) (sym e))
      (λ q.
      walk_first s at (leb-false _ _ q)
      ∙ ap (on (step_at s at)) (behind_same ends _ _ s at (λ p h. walk_behind s at p h)))

-- ---- recovery's reading

pub read_step : (s : List ℕ) (at : ℕ) → read_from s at ≡ on_read (step_at s at) (behind (step_at s at) nothing (λ p. read_from s (end_of p)))
unfolding read_from
read_step s at = walk_step nothing on_read refl s at

module _ (s : List ℕ) (at : ℕ) where
  pub read_entry : (e : WalEntry) (p : Place) → step_at s at ≡ Entry e p → read_from s at ≡ on_read (Entry e p) (read_from s (end_of p))
  read_entry e p h = rw h at (read_step s at)

  pub read_undecodable : (p : Place) → step_at s at ≡ Undecodable p → read_from s at ≡ record { good = []; partial = 0; checksum = 1 }
  read_undecodable p h = rw h at (read_step s at)

  pub read_wrong : step_at s at ≡ WrongChecksum → read_from s at ≡ record { good = []; partial = 0; checksum = 1 }
  read_wrong h = rw h at (read_step s at)

  pub read_partial : step_at s at ≡ Torn → read_from s at ≡ record { good = []; partial = 1; checksum = 0 }
  read_partial h = rw h at (read_step s at)

  pub read_end : step_at s at ≡ End → read_from s at ≡ nothing
  read_end h = rw h at (read_step s at)

-- ---- truncation's highest number

pub highest_step : (s : List ℕ) (at : ℕ) → highest_from s at ≡ on_highest (step_at s at) (behind (step_at s at) 0 (λ p. highest_from s (end_of p)))
unfolding highest_from
highest_step s at = walk_step 0 on_highest refl s at

module _ (s : List ℕ) (at : ℕ) where
  pub highest_entry : (e : WalEntry) (p : Place) → step_at s at ≡ Entry e p → highest_from s at ≡ max (tx_of e) (highest_from s (end_of p))
  highest_entry e p h = rw h at (highest_step s at)

  pub highest_undecodable : (p : Place) → step_at s at ≡ Undecodable p → highest_from s at ≡ highest_from s (end_of p)
  highest_undecodable p h = rw h at (highest_step s at)

  pub highest_wrong : step_at s at ≡ WrongChecksum → highest_from s at ≡ 0
  highest_wrong h = rw h at (highest_step s at)

  pub highest_partial : step_at s at ≡ Torn → highest_from s at ≡ 0
  highest_partial h = rw h at (highest_step s at)

  pub highest_end : step_at s at ≡ End → highest_from s at ≡ 0
  highest_end h = rw h at (highest_step s at)

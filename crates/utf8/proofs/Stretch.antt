-- First octets come in stretches: from lo to hi the same may follow, if each alternative's first range holds all of them or none.
use Prim.Native.Nat.{ℕ, ◌≤◌}
use mathlib.Core.Path.{◌≡◌, refl, sym, ◌∙◌}
use mathlib.Core.Bool.{Bool, true, false, ◌&&◌, ◌||◌}
use mathlib.Core.List.{List, [], ◌∷◌}
use native.Mathlib.Omega.{arith}
use borrow.Author.Tests.{ltb-true, leb-true}
use lib.Dec.{leb, ltb}
use Rattle.utf8.specs.Grammar.{Range, holds, begun}
use Rattle.utf8.proofs.Holds.{inside, below, above, both_left, both_right}

abbrev together : ℕ → ℕ → Range → Bool
together lo hi r = ltb hi r.low || (ltb r.high lo || (leb r.low lo && leb hi r.high))

unfoldable pub stretch : ℕ → ℕ → List (List Range) → Bool
stretch lo hi [] = true
stretch lo hi ([] ∷ others) = stretch lo hi others
stretch lo hi ((r ∷ rs) ∷ others) = together lo hi r && stretch lo hi others

module _ (lo hi b : ℕ) (l : lo ≤ b) (h : b ≤ hi) where
  holds_same : (r : Range) → together lo hi r ≡ true → holds r b ≡ holds r lo
  holds_same r t = go (ltb hi r.low) (ltb r.high lo) (leb r.low lo) (leb hi r.high) refl refl refl refl t
    where
      go : (u v x y : Bool) → ltb hi r.low ≡ u → ltb r.high lo ≡ v → leb r.low lo ≡ x → leb hi r.high ≡ y → (u || (v || (x && y))) ≡ true → holds r b ≡ holds r lo
      go true v x y p q s t e = below r b (omega (arith, ltb-true)) ∙ sym (below r lo (omega (arith, ltb-true)))
      go false true x y p q s t e = above r b (omega (arith, ltb-true)) ∙ sym (above r lo (omega (arith, ltb-true)))
      go false false true true p q s t e = inside r b (omega (arith, leb-true)) (omega (arith, leb-true)) ∙ sym (inside r lo (omega (arith, leb-true)) (omega (arith, leb-true)))
      go false false true false p q s t e = cc
      go false false false y p q s t e = cc

  pub begun_same : (rule : List (List Range)) → stretch lo hi rule ≡ true → begun b rule ≡ begun lo rule
  unfolding begun stretch
  begun_same [] t = refl
  begun_same ([] ∷ others) t = begun_same others t
  begun_same ((r ∷ rs) ∷ others) t = rw (holds_same r (both_left (together lo hi r) _ t), begun_same others (both_right (together lo hi r) _ t))

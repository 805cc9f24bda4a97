-- One octet's turn: what may follow it, and that the rest is to be tested for that.
use Prim.Native.Nat.{ℕ, zero, suc, ◌-◌}
use mathlib.Core.Path.{◌≡◌, refl, sym}
use mathlib.Core.Bool.{Bool, false, cond, or-false}
use mathlib.Core.List.{List, [], ◌∷◌}
use native.Mathlib.Omega.{arith}
use lib.Dec.{eqb, eqb-suc-zero}
use lib.ListN.{length, replicate}
use Rattle.utf8.specs.Grammar.{Range, tail, holds, after, any, completes}
use Rattle.utf8.specs.State.{ranges}

tails : (n : ℕ) → replicate n tail ≡ ranges n tail
tails zero = refl
tails (suc n) = refl

pub after_some : (b n : ℕ) (r : Range) (t : Bool) → (n ≡ 0 → ⊥) → holds r b ≡ t → after b (ranges n r) ≡ cond t (ranges (n - 1) tail ∷ []) []
unfolding after
after_some b zero r t h e = absurd (h refl)
after_some b (suc n) r t h e = let m : suc n - 1 ≡ n = omega arith in rw (e, m, tails n)

-- at the octets' end nothing may be awaited
pub ended : (n : ℕ) (r : Range) (bs : List ℕ) → length bs ≡ 0 → completes (ranges n r) bs ≡ eqb n 0
unfolding completes
ended zero r [] e = refl
ended (suc n) r [] e = sym (eqb-suc-zero n)
ended n r (b ∷ bs) e = absurd (omega arith)

module _ (b : ℕ) (bs : List ℕ) (rs : List Range) where
  pub goes : (left : List Range) → (left ∷ []) ≡ after b rs → completes left bs ≡ completes rs (b ∷ bs)
  unfolding completes any
  goes left e = rw (← e) (sym (or-false (completes left bs)))

  pub stops : [] ≡ after b rs → completes rs (b ∷ bs) ≡ false
  unfolding completes any
  stops e = rw (← e)

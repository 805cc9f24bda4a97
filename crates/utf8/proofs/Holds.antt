-- Whether a range holds an octet, by the octet's place.
use Prim.Native.Nat.{ℕ, ◌≤◌, ◌<◌}
use mathlib.Core.Path.{◌≡◌, refl}
use mathlib.Core.Bool.{Bool, true, false, ◌&&◌, and-false}
use borrow.Author.Tests.{le-leb, lt-leb, leb-true}
use lib.Dec.{leb}
use Rattle.utf8.specs.Grammar.{Range, holds}

pub both_left : (s t : Bool) → (s && t) ≡ true → s ≡ true
both_left true t e = refl
both_left false t e = e

pub both_right : (s t : Bool) → (s && t) ≡ true → t ≡ true
both_right true t e = e
both_right false t e = cc

module _ (r : Range) (b : ℕ) where
  pub inside : r.low ≤ b → b ≤ r.high → holds r b ≡ true
  inside l h = rw (le-leb r.low b l, le-leb b r.high h)

  pub below : b < r.low → holds r b ≡ false
  below l = rw (lt-leb r.low b l)

  pub above : r.high < b → holds r b ≡ false
  above h = rw (lt-leb b r.high h) (and-false (leb r.low b))

  pub held : holds r b ≡ true → (r.low ≤ b) × (b ≤ r.high)
  held e = (leb-true r.low b (both_left (leb r.low b) _ e), leb-true b r.high (both_right (leb r.low b) _ e))

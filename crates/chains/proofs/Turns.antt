-- The turns of the loops that link and unlink, from the last record to the first.
-- Assumes nothing.
use mathlib.Core.Path.{◌≡◌}
use Prim.Native.Nat.{ℕ, zero, suc, ◌-◌, ◌<◌}
use mathlib.Core.List.{List}
use native.Mathlib.Omega.{arith}
use Rattle.chains.specs.Link.{Lent, with_spare, link_one, link_all, unlink_all}

pub link_turn : (l : Lent) (m k : ℕ) → 0 < k → link_all (link_one l m (k - 1)) m (k - 1) ≡ link_all l m k
unfolding link_all
link_turn l m zero h = absurd (omega arith)
link_turn l m (suc k) h = let e : suc k - 1 ≡ k = omega arith in rw e

pub unlink_turn : (size offset : ℕ) (s : List ℕ) (k : ℕ) → 0 < k → unlink_all size offset (with_spare size offset s (k - 1) 0) (k - 1) ≡ unlink_all size offset s k
unfolding unlink_all
unlink_turn size offset s zero h = absurd (omega arith)
unlink_turn size offset s (suc k) h = let e : suc k - 1 ≡ k = omega arith in rw e

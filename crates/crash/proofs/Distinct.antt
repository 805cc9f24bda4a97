-- The elements of a list, each once: how many there are at most.
-- Assumes nothing.
use mathlib.Core.Path.{refl}
use mathlib.Core.Logic.{⊎_elim}
use mathlib.Core.List.Memᴰ
use mathlib.Core.List.{List, [], ◌∷◌, Memᴰ}
use Prim.Native.Nat.{◌≤◌}
use native.Mathlib.Omega.{arith}
use lib.ListN.{length}
use Rattle.std.specs.declared.cmp.Ordering.{Ordering}
use Rattle.records.specs.Dense.{All}
use Rattle.records.specs.Sorted.{itself, put, Ascends}
use Rattle.records.proofs.Sorted.{IsOrder, put_all, put_length, put_ascends, Has, put_has, put_had, no_more}

-- put at its place, if it isn't there yet
unfoldable pub distinct : {K : Type 0} → (compare : K → K → Ordering) → List K → List K
distinct compare [] = []
distinct compare (k ∷ ks) = put compare itself k itself k (distinct compare ks)

module _ {K : Type 0} (compare : K → K → Ordering) (order : IsOrder compare) where
  abbrev pub IsIn : List K → K → Type 0
  IsIn ks k = Has compare itself k (distinct compare ks)

  pub distinct_own : (k : K) (ks : List K) → IsIn (k ∷ ks) k
  unfolding distinct
  distinct_own k ks = put_has compare order itself k itself k (λ r e. e) refl (distinct compare ks)

  pub distinct_had : (k : K) (ks : List K) (j : K) → IsIn ks j → IsIn (k ∷ ks) j
  unfolding distinct
  distinct_had k ks j h = put_had compare order itself k itself k (λ r e. e) refl j (distinct compare ks) h

  -- what is in the list is there
  is_in : (ks : List K) (k : K) → Memᴰ k ks → IsIn ks k
  is_in [] k m = absurd (Memᴰ.not-nil m)
  is_in (j ∷ ks) k m =
      ⊎_elim (λ e. rw e (distinct_own j ks)) (λ n. distinct_had j ks k (is_in ks k n)) (Memᴰ.cases_cons m)

  distinct_all : (P : K → Type 0) (ks : List K) → All P ks → All P (distinct compare ks)
  unfolding distinct
  distinct_all P [] ps = tt
  distinct_all P (k ∷ ks) ps =
      put_all compare itself k itself k P (λ r p. p) ps.0 (distinct compare ks) (distinct_all P ks ps.1)

  distinct_ascends : (ks : List K) → Ascends compare itself (distinct compare ks)
  unfolding distinct
  distinct_ascends [] = tt
  distinct_ascends (k ∷ ks) =
      put_ascends compare order itself k itself k (λ r e. e) refl (distinct compare ks) (distinct_ascends ks)

  pub length_most : (ks : List K) → length (distinct compare ks) ≤ length ks
  unfolding distinct
  length_most [] = omega arith
  length_most (k ∷ ks) =
      omega (arith, (put_length compare itself k itself k (distinct compare ks)).1, length_most ks)

  pub all_in : (ks js : List K) → All (λ (k : K). Memᴰ k ks) js → All (IsIn ks) js
  all_in ks [] hs = tt
  all_in ks (j ∷ js) hs = (is_in ks j hs.0, all_in ks js hs.1)

  -- all are in the other list: they are no more than its elements
  pub distinct_most : (ks js : List K) → All (λ (k : K). Memᴰ k ks) js → length (distinct compare js) ≤ length ks
  distinct_most ks js hs =
      omega (arith, length_most ks, no_more compare order itself itself (distinct compare ks) (distinct compare js) (distinct_ascends js) (distinct_all (IsIn ks) js (all_in ks js hs)))

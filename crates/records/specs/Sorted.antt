-- Records that strictly ascend by a key: where a key stands among them, its record, and a record put at its place.
-- Assumes nothing.
use Rattle.std.specs.Prelude.{◌≡◌, cond, List, [], ◌∷◌, ℕ, suc, ltb}
use Rattle.std.proofs.Math.Option.{Option, none, some}
use Rattle.std.specs.declared.cmp.Ordering.{Ordering}
use Rattle.std.specs.declared.cmp.Ordering.TheVariants.{Less, Equal, Greater}
use Rattle.std.specs.declared.result.Result.{Result}
use Rattle.std.specs.declared.result.Result.TheVariants.{Ok, Err}

unfoldable pub compare_numbers : ℕ → ℕ → Ordering
compare_numbers a b = cond (ltb a b) Less (cond (ltb b a) Greater Equal)

abbrev pub by_order : {A : Type 0} → Ordering → A → A → A → A
by_order Less a b c = a
by_order Equal a b c = b
by_order Greater a b c = c

-- the key of a record that is nothing but its key
abbrev pub itself : {A : Type 0} → A → A
itself a = a

-- one record further on
abbrev pub further : Result ℕ ℕ → Result ℕ ℕ
further (Ok k) = Ok (suc k)
further (Err k) = Err (suc k)

module _ {K R : Type 0} (compare : K → K → Ordering) (key : R → K) where
  -- the place of the key's record, or of the gap where it belongs
  unfoldable pub place_of : K → List R → Result ℕ ℕ
  place_of k [] = Err 0
  place_of k (r ∷ rs) = by_order (compare (key r) k) (further (place_of k rs)) (Ok 0) (Err 0)

  -- the key's record
  unfoldable pub record_of : K → List R → Option R
  record_of k [] = none
  record_of k (r ∷ rs) = by_order (compare (key r) k) (record_of k rs) (some r) none

  -- the key's record is changed; a key that has none gets a new one at its place
  unfoldable pub put : K → (change : R → R) → (new : R) → List R → List R
  put k change new [] = new ∷ []
  put k change new (r ∷ rs) = by_order (compare (key r) k) (r ∷ put k change new rs) (change r ∷ rs) (new ∷ r ∷ rs)

  -- the key's record goes
  unfoldable pub remove : K → List R → List R
  remove k [] = []
  remove k (r ∷ rs) = by_order (compare (key r) k) (r ∷ remove k rs) rs (r ∷ rs)

  -- strictly ascending
  abbrev pub Before : R → List R → Type 0
  Before r [] = Unit {0}
  Before r (q ∷ qs) = compare (key r) (key q) ≡ Less

  abbrev pub Ascends : List R → Type 0
  Ascends [] = Unit {0}
  Ascends (r ∷ rs) = Before r rs × Ascends rs

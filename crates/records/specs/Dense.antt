-- Document 01: "House records have a fixed size and no header." They are "dense from the front. Records after the last
-- used one are zero at every byte".
-- Assumes nothing.
use Rattle.std.specs.Prelude.{List, [], ◌∷◌, ◌++◌, ℕ, zero, suc, ◌-◌, length, drop, replicate}

module _ {R : Type 0} (bytes : R → List ℕ) where
  -- the records one after the other
  unfoldable pub bytes_of : List R → List ℕ
  bytes_of [] = []
  bytes_of (r ∷ rs) = bytes r ++ bytes_of rs

  -- a buffer of so many bytes that holds the records
  unfoldable pub dense : (room : ℕ) → List R → List ℕ
  dense room rs = bytes_of rs ++ replicate (room - length (bytes_of rs)) 0

module _ {R : Type 0} (size : ℕ) (read : List ℕ → R) where
  -- the first n records of a buffer; `read` reads the one at the front
  unfoldable pub records_of : ℕ → List ℕ → List R
  records_of zero s = []
  records_of (suc n) s = read s ∷ records_of n (drop size s)

-- what holds of each of the records
abbrev pub All : {R : Type 0} → (Good : R → Type 0) → List R → Type 0
All Good [] = Unit {0}
All Good (r ∷ rs) = Good r × All Good rs

-- Lists from their end: what holds of no records, and of one more at the end, holds of all.
-- Assumes nothing.
use mathlib.Core.Path.{◌≡◌}
use mathlib.Core.List.{List, [], ◌∷◌, ◌++◌, append-nil}
use Prim.Native.Nat.{suc}
use native.Mathlib.Omega.{arith}
use lib.ListN.{length, length-append}
use lib.Seq.{append_snoc}

pub length_snoc : {R : Type 0} (before : List R) (r : R) → length (before ++ (r ∷ [])) ≡ suc (length before)
length_snoc before r = simp length-append (omega arith)

module _ {R : Type 0} (Holds : List R → Type 0) (step : (before : List R) (r : R) → Holds before → Holds (before ++ (r ∷ []))) where
  holds_behind : (before rs : List R) → Holds before → Holds (before ++ rs)
  holds_behind before [] h = rw append-nil h
  holds_behind before (r ∷ rs) h = rw (← append_snoc before r rs) (holds_behind (before ++ (r ∷ [])) rs (step before r h))

  pub from_last : Holds [] → (rs : List R) → Holds rs
  from_last none rs = holds_behind [] rs none

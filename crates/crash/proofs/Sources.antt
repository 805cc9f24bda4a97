-- Every row of the table was set by a kept entry of a transaction that was run.
-- Assumes nothing.
use mathlib.Core.Path.{◌≡◌, refl}
use mathlib.Core.List.{List, [], ◌∷◌, Memᴰ}
use Prim.Native.Nat.{ℕ}
use borrow.Author.Tests.{eqb-true}
use lib.Dec.{eqb}
use Rattle.fields.specs.Order.{compare_bytes}
use Rattle.fields.proofs.Cases.{case_b}
use Rattle.records.specs.Dense.{All}
use Rattle.records.proofs.Sorted.{put_all, remove_all}
use Rattle.table.specs.Row.{Row, row_of, key_of}
use Rattle.table.specs.Table.{set, remove_key}
use Rattle.store.specs.Effect.{Effect, puts, drops, keeps}
use Rattle.crash.specs.Request.{Written}
use Rattle.crash.specs.Settings.{effect_by, settle, run_number, run_numbers}
use Rattle.crash.specs.Operator.{Source}

-- each element of a list is one of it
all_of : {A : Type 0} (P : A → Type 0) (xs : List A) → ((x : A) → Memᴰ x xs → P x) → All P xs
all_of P [] f = tt
all_of P (x ∷ xs) f = (f x (Memᴰ.head refl), all_of P xs (λ y m. f y (Memᴰ.tail m)))

module _ (kept : List Written) (order : List ℕ) where
  abbrev IsKept : Written → Type 0
  IsKept w = Memᴰ w kept

  abbrev IsRun : ℕ → Type 0
  IsRun n = Memᴰ n order

  settle_source : (w : Written) → IsKept w → IsRun w.request.tx → (x : Effect) → effect_by w.request ≡ x → (rows : List Row) → All (Source kept order) rows → All (Source kept order) (settle x rows)
  unfolding settle set remove_key
  settle_source w k r (puts key value) e rows ss =
      let s : Source kept order (row_of key value) = record { entry = w; is_kept = k; is_run = r; sets = e } in
      put_all compare_bytes key_of key (λ (r : Row). row_of key value) (row_of key value) (Source kept order) (λ r t. s) s rows ss
  settle_source w k r (drops key) e rows ss = remove_all compare_bytes key_of key (Source kept order) rows ss
  settle_source w k r keeps e rows ss = ss

  number_source : (n : ℕ) → IsRun n → (ws : List Written) → All IsKept ws → (rows : List Row) → All (Source kept order) rows → All (Source kept order) (run_number n ws rows)
  unfolding run_number
  number_source n r [] ks rows ss = ss
  number_source n r (w ∷ ws) ks rows ss =
      case_b (eqb w.request.tx n)
      (λ q.
      let mine : IsRun w.request.tx = rw (eqb-true w.request.tx n q) r in
      rw q (number_source n r ws ks.1 _ (settle_source w ks.0 mine (effect_by w.request) refl rows ss)))
      (λ q. rw q (number_source n r ws ks.1 rows ss))

  numbers_source : (ns : List ℕ) → All IsRun ns → (rows : List Row) → All (Source kept order) rows → All (Source kept order) (run_numbers ns kept rows)
  unfolding run_numbers
  numbers_source [] rs rows ss = ss
  numbers_source (n ∷ ns) rs rows ss =
      numbers_source ns rs.1 (run_number n kept rows) (number_source n rs.0 kept (all_of IsKept kept (λ w m. m)) rows ss)

  pub rows_source : All (Source kept order) (run_numbers order kept [])
  rows_source = numbers_source order (all_of IsRun order (λ n m. m)) [] tt

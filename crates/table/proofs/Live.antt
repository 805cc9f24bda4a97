-- The marks tell the rows: what a table holds is read back without a count.
-- Assumes nothing.
use mathlib.Core.Path.{◌≡◌, refl}
use mathlib.Core.List.{List, [], ◌∷◌, ◌++◌, append_assoc}
use Prim.Native.Nat.{ℕ, zero, suc, ◌-◌, ◌/◌, ◌≤◌}
use native.Mathlib.Omega.{arith}
use lib.ListN.{length, drop, replicate}
use lib.Seq.{drop_at}
use Rattle.fields.specs.Le.{le_of}
use Rattle.fields.proofs.Numbers.{num_front}
use Rattle.records.specs.Dense.{bytes_of, dense, All}
use Rattle.table.specs.Row.{Row, RowFits, marked_bytes, row_bytes, row_record_at}
use Rattle.table.specs.Table.{table_of, live_rows, Held}
use Rattle.table.proofs.Rows.{length_row, row_back}

row_live : (r : Row) (rest : List ℕ) → (row_record_at (row_bytes r ++ rest)).mark ≡ 1
unfolding row_record_at marked_bytes
row_live r rest = rw append_assoc (num_front 1 1 _ (omega arith))

zeros_after : (k m left : ℕ) → left ≡ m - k → drop k (replicate {A = ℕ} m 0) ≡ replicate left 0
zeros_after zero m left e = let f : left ≡ m = omega arith in rw f
zeros_after (suc k) zero left e = let f : left ≡ 0 = omega arith in rw f
zeros_after (suc k) (suc m) left e = zeros_after k m left (omega arith)

none_live : (n m : ℕ) → live_rows n (replicate m 0) ≡ []
unfolding live_rows row_record_at le_of
none_live zero m = refl
none_live (suc n) zero = none_live n 0
none_live (suc n) (suc m) = rw (zeros_after 319 m (m - 319) refl) (none_live n (m - 319))

live_step : (n : ℕ) (r : Row) (rs : List Row) (rest : List ℕ) → RowFits r → live_rows n rest ≡ rs → live_rows (suc n) (row_bytes r ++ rest) ≡ r ∷ rs
unfolding live_rows
live_step n r rs rest f ih = rw (row_live r rest, row_back r rest f, drop_at (row_bytes r) rest 320 (length_row r), ih)

live_from : (n m : ℕ) (rs : List Row) → All RowFits rs → length rs ≤ n → live_rows n (bytes_of row_bytes rs ++ replicate m 0) ≡ rs
unfolding bytes_of
live_from n m [] fs h = none_live n m
live_from zero m (r ∷ rs) fs h = absurd (omega arith)
live_from (suc n) m (r ∷ rs) fs h =
    rw append_assoc (live_step n r rs (bytes_of row_bytes rs ++ replicate m 0) fs.0 (live_from n m rs fs.1 (omega arith)))

-- the rows that a table holds are its live ones
pub live_back : (room : ℕ) (rs : List Row) → Held room rs → live_rows (room / 320) (table_of room rs) ≡ rs
unfolding dense
live_back room rs h = live_from (room / 320) (room - length (bytes_of row_bytes rs)) rs h.fit (omega (arith, h.inside))

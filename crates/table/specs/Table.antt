-- What a table means: rows sorted "by key bytes, a proper prefix first", with set, remove and lookup.
-- Assumes nothing.
use Rattle.std.specs.Prelude.{ℕ, zero, suc, ◌*◌, ◌≤◌, cond, List, [], ◌∷◌, leb, eqb, length, drop}
use Rattle.std.proofs.Math.Option.{Option, none, some}
use Rattle.fields.specs.Order.{compare_bytes}
use Rattle.refusal.specs.Answer.{Answer, refused, accepted}
use Rattle.records.specs.Dense.{dense, All}
use Rattle.records.specs.Sorted.{record_of, put, remove, Ascends}
use Rattle.table.specs.Row.{Row, key_of, fits, RowFits, row_bytes, row_record_at, row_at}

abbrev pub Sorted : List Row → Type 0
Sorted rows = Ascends compare_bytes key_of rows

-- rows that a table of so many bytes may hold
pub record Held (room : ℕ) (rs : List Row) : Type 0 where
  pub sorted : Sorted rs
  pub fit : All RowFits rs
  pub inside : 320 * length rs ≤ room

unfoldable pub set : Row → List Row → List Row
set row rows = put compare_bytes key_of row.key (λ (r : Row). row) row rows

unfoldable pub remove_key : (key : List ℕ) → List Row → List Row
remove_key key rows = remove compare_bytes key_of key rows

abbrev pub value_of : Option Row → Option (List ℕ)
value_of none = none
value_of (some r) = some r.value

-- the key's value
unfoldable pub lookup : (key : List ℕ) → List Row → Option (List ℕ)
lookup key rows = value_of (record_of compare_bytes key_of key rows)

-- a row set in a table of so many records. 8: it doesn't fit a record; 9: it "fits but needs a new record in a full table"
unfoldable pub set_in : (records : ℕ) → Row → List Row → Answer (List Row)
set_in records row rs =
    cond (fits row) (cond (leb (length (set row rs)) records) (accepted (set row rs)) (refused 9)) (refused 8)

-- a table of so many bytes that holds the rows
abbrev pub table_of : (room : ℕ) → List Row → List ℕ
table_of room rs = dense row_bytes room rs

-- the rows of n records: those that are live. "Table mark: 1 live, 0 empty."
unfoldable pub live_rows : (n : ℕ) → (table : List ℕ) → List Row
live_rows zero s = []
live_rows (suc n) s = cond (eqb (row_record_at s).mark 1) (row_at s ∷ live_rows n (drop 320 s)) (live_rows n (drop 320 s))

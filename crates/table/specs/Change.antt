-- A row set and a key removed, in bytes, on any table and any count.
-- Assumes nothing.
use Rattle.std.specs.Prelude.{ℕ, ◌+◌, ◌-◌, ◌*◌, ◌/◌, min, cond, List, leb, length, take, drop}
use Rattle.std.proofs.lemmas.List.Edits.{sets}
use Rattle.fields.specs.Order.{compare_bytes}
use Rattle.std.specs.declared.cmp.Ordering.{Ordering}
use Rattle.refusal.specs.Answer.{Answer, refused, accepted, by_answer, answer_of}
use Rattle.refusal.specs.declared.Refusal.{Refusal}
use Rattle.records.specs.Halving.{found_in}
use Rattle.std.specs.declared.result.Result.{Result}
use Rattle.std.specs.declared.result.Result.TheVariants.{Ok, Err}
use Rattle.table.specs.Row.{Row, fits, row_bytes, empty_bytes, row_at}
use Rattle.table.specs.Table.{table_of}

-- how record i stands to a key
unfoldable pub order_in : (table key : List ℕ) → ℕ → Ordering
order_in table key i = compare_bytes (row_at (drop (320 * i) table)).key key

-- a used count, as far as there are records
abbrev pub used_in : (table : List ℕ) → (n : ℕ) → ℕ
used_in table n = min n (length table / 320)

-- the key's place among the first n records
unfoldable pub found_of : (table : List ℕ) → (n : ℕ) → (key : List ℕ) → Result ℕ ℕ
found_of table n key = found_in (order_in table key) (used_in table n)

-- how many rows there are after a change, or the refusal; and the table
pub record Changed : Type 0 where
  pub answer : Answer ℕ
  pub table : List ℕ

abbrev pub changed : Answer ℕ → List ℕ → Changed
changed answer table = record { answer = answer; table = table }

-- what a call gave back, with the table that it left
abbrev pub changing : Result ℕ Refusal → List ℕ → Changed
changing r table = changed (answer_of r) table

-- the records from k on, up to the n-th, make room for a new one
abbrev pub inserted_at : (table : List ℕ) → (n k : ℕ) → Row → List ℕ
inserted_at table n k row =
    sets (sets table (320 * (k + 1)) (take (320 * (n - k)) (drop (320 * k) table))) (320 * k) (row_bytes row)

-- a new row, if there is a record left for it
unfoldable pub insert_of : (table : List ℕ) → (n k : ℕ) → Row → Changed
insert_of table n k row =
    cond (leb (length table / 320) n) (changed (refused 9) table) (changed (accepted (n + 1)) (inserted_at table n k row))

abbrev pub set_at : Result ℕ ℕ → (table : List ℕ) → (n : ℕ) → Row → Changed
set_at (Ok k) table n row = changed (accepted n) (sets table (320 * k) (row_bytes row))
set_at (Err k) table n row = insert_of table n k row

-- 8 goes before 9: a row that is too long, then a new record in a full table
unfoldable pub set_of : (table : List ℕ) → (n : ℕ) → Row → Changed
set_of table n row = cond (fits row) (set_at (found_of table n row.key) table (used_in table n) row) (changed (refused 8) table)

-- the records behind k close up, and the last becomes zero
abbrev pub removed_at : (table : List ℕ) → (n k : ℕ) → List ℕ
removed_at table n k =
    sets (sets table (320 * k) (take (320 * (n - (k + 1))) (drop (320 * (k + 1)) table))) (320 * (n - 1)) empty_bytes

abbrev pub remove_at : Result ℕ ℕ → (table : List ℕ) → (n : ℕ) → Changed
remove_at (Ok k) table n = changed (accepted (n - 1)) (removed_at table n k)
remove_at (Err k) table n = changed (accepted n) table

-- "delete of an absent key, over-long ones too, does nothing"
unfoldable pub remove_of : (table : List ℕ) → (n : ℕ) → (key : List ℕ) → Changed
remove_of table n key = remove_at (found_of table n key) table (used_in table n)

-- ---- what a set means, in bytes

-- a set that is refused leaves the rows that were there
abbrev pub result_in : (room : ℕ) → List Row → Answer (List Row) → Changed
result_in room old answer =
    by_answer answer (λ number. changed (refused number) (table_of room old)) (λ new. changed (accepted (length new)) (table_of room new))

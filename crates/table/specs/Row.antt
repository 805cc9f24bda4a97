-- Document 01: the table's record, "320 bytes: mark (1 byte), key length (1), value length (2), 64 key bytes, 252 value bytes".
-- Assumes nothing.
use Rattle.std.specs.Prelude.{ℕ, ◌-◌, ◌≤◌, Bool, ◌&&◌, List, ◌++◌, leb, length, take, drop, replicate}
use Rattle.fields.specs.Le.{le_bytes, num_at}
use Rattle.table.specs.declared.row.RowRecord.{RowRecord}

pub record Row : Type 0 where
  pub key : List ℕ
  pub value : List ℕ

abbrev pub row_of : (key value : List ℕ) → Row
row_of key value = record { key = key; value = value }

abbrev pub key_of : Row → List ℕ
key_of r = r.key

-- whether a row fits a record
unfoldable pub fits : Row → Bool
fits r = leb (length r.key) 64 && leb (length r.value) 252

-- a row that fits
pub record RowFits (r : Row) : Type 0 where
  pub key : length r.key ≤ 64
  pub value : length r.value ≤ 252

-- "zero at every byte, and so are unused key and value bytes"; a part that doesn't fit is cut, so that every record has its size
unfoldable pub padded : (size : ℕ) → List ℕ → List ℕ
padded size s = take size s ++ replicate (size - length s) 0

-- a record with a mark
unfoldable pub marked_bytes : (mark : ℕ) → Row → List ℕ
marked_bytes mark r =
    le_bytes 1 mark ++ (le_bytes 1 (length r.key) ++ (le_bytes 2 (length r.value) ++ (padded 64 r.key ++ padded 252 r.value)))

-- "Table mark: 1 live, 0 empty."
abbrev pub row_bytes : Row → List ℕ
row_bytes r = marked_bytes 1 r

-- "Records after the last used one are zero at every byte"
unfoldable pub empty_bytes : List ℕ
empty_bytes = replicate 320 0

-- the mark and the two lengths of the record at the front of the bytes
unfoldable pub row_record_at : List ℕ → RowRecord
row_record_at s = record { mark = num_at 0 1 s; key_len = num_at 1 1 s; value_len = num_at 2 2 s }

-- its row
unfoldable pub row_at : List ℕ → Row
row_at s = row_of (take (row_record_at s).key_len (drop 4 s)) (take (row_record_at s).value_len (drop 68 s))

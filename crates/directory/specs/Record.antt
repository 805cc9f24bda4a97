-- Document 01: the directory's record, "24 bytes: id, start, length". "Numbers are little endian, 8 bytes".
-- Assumes nothing.
use Rattle.std.specs.Prelude.{List, [], ◌∷◌, ◌++◌, ℕ, zero, suc, ◌+◌, drop}
use Rattle.fields.specs.Le.{le_bytes, num_at}
use Rattle.directory.specs.declared.record.SegmentRecord.{SegmentRecord}

-- the record at the front of the bytes
unfoldable pub record_at : List ℕ → SegmentRecord
record_at s = record { id = num_at 0 8 s; start = num_at 8 8 s; length = num_at 16 8 s }

unfoldable pub record_bytes : SegmentRecord → List ℕ
record_bytes r = le_bytes 8 r.id ++ (le_bytes 8 r.start ++ le_bytes 8 r.length)

-- the first n records of the bytes
unfoldable pub records_of : ℕ → List ℕ → List SegmentRecord
records_of zero s = []
records_of (suc n) s = record_at s ∷ records_of n (drop 24 s)

-- where a segment ends
abbrev pub end_of : SegmentRecord → ℕ
end_of r = r.start + r.length

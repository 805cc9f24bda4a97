-- Document 01, "Recovery": what is read of a log. "Segments are read by ascending id", which is the directory's order.
-- Assumes nothing.
use Rattle.std.specs.Prelude.{ℕ, ◌+◌, List, [], ◌∷◌, ◌++◌, map, length}
use Rattle.directory.specs.Image.{segment_bytes}
use Rattle.directory.specs.declared.record.SegmentRecord.{SegmentRecord}
use Rattle.scan.specs.Read.{Good, Reading, read_segment}
use Rattle.lists.specs.Entries.{listed}
use Rattle.lists.specs.declared.entries.EntryRecord.{EntryRecord}

pub record LogRead : Type 0 where
  pub entries : List EntryRecord
  pub partial : ℕ
  pub checksum : ℕ

-- a place counts from the area's first byte
abbrev pub listed_from : (base : ℕ) → List Good → List EntryRecord
listed_from base goods = map (λ (g : Good). listed base g.entry g.payload) goods

-- "Each ends that segment only; the next is read."
abbrev pub and_then : (base : ℕ) → Reading → LogRead → LogRead
and_then base segment rest =
    record {
      entries = listed_from base segment.good ++ rest.entries;
      partial = segment.partial + rest.partial;
      checksum = segment.checksum + rest.checksum;
    }

unfoldable pub read_log : List ℕ → List SegmentRecord → LogRead
read_log area [] = record { entries = []; partial = 0; checksum = 0 }
read_log area (r ∷ rs) = and_then r.start (read_segment (segment_bytes area r)) (read_log area rs)

-- the record of a segment that is the whole area
abbrev pub whole : List ℕ → SegmentRecord
whole area = record { id = 1; start = 0; length = length area }

-- Document 01: "area: segment images". A segment's image is its bytes of the area.
-- Assumes nothing.
use Rattle.std.specs.Prelude.{List, ℕ, take, drop}
use Rattle.directory.specs.declared.record.SegmentRecord.{SegmentRecord}

unfoldable pub segment_bytes : List ℕ → SegmentRecord → List ℕ
segment_bytes area r = take r.length (drop r.start area)

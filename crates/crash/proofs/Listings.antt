-- What recovery reads of segments that stand in the area: their entries, and a partial write for each that ends inside one.
-- Assumes nothing.
use mathlib.Core.Path.{◌≡◌, refl, ap₂, ◌∙◌}
use mathlib.Core.List.{List, [], ◌∷◌, ◌++◌, map, map-append}
use Prim.Native.Nat.{ℕ, ◌+◌, ◌-◌}
use native.Mathlib.Omega.{arith}
use lib.ListN.{length, length-append}
use Rattle.records.specs.Dense.{All}
use Rattle.records.proofs.Dense.{all_append}
use Rattle.directory.specs.Image.{segment_bytes}
use Rattle.directory.specs.Record.{end_of}
use Rattle.scan.specs.Read.{read_segment}
use Rattle.recovery.specs.Log.{LogRead, read_log}
use Rattle.crash.specs.Kept.{listed_as}
use Rattle.crash.specs.Crash.{read_as}
use Rattle.crash.proofs.Segments.{Segment, place_of, left_in, torn_in, left_of, torn_of, Stands}
use Rattle.crash.proofs.Lefts.{read_up_to}
use Rattle.crash.proofs.CutSegments.{placed_at, segment_left}
use Rattle.crash.proofs.Holdings.{Kept, kept_there}

-- one reading in front of another
abbrev both : LogRead → LogRead → LogRead
both a b =
    record { entries = a.entries ++ b.entries; partial = a.partial + b.partial; checksum = a.checksum + b.checksum }

module _ (area : List ℕ) where
  segment_read : (s : Segment) → Stands area s → placed_at s.place.start (read_segment (segment_bytes area s.place)) ≡ read_as (left_in s) (length (torn_in s))
  unfolding read_up_to
  segment_read s st = rw st.bytes (segment_left s.place.start s.place.length s.asked st.accepted)

  pub segments_read : (ss : List Segment) → All (Stands area) ss → read_log area (map place_of ss) ≡ read_as (left_of ss) (length (torn_of ss))
  unfolding read_log left_of torn_of
  segments_read [] st = refl
  segments_read (s ∷ ss) st =
      ap₂ both (segment_read s st.0) (segments_read ss st.1)
      ∙ rw (map-append listed_as (left_in s) (left_of ss), length-append (torn_in s) (torn_of ss))

  -- the payload of every entry stands where the entry list says
  segment_kept : (s : Segment) → Stands area s → All (Kept area) (left_in s)
  unfolding segment_bytes
  segment_kept s st =
      let e : end_of s.place - s.place.start ≡ s.place.length = omega arith in
      kept_there area (end_of s.place) s.place.start s.asked (record { same = rw e st.bytes }) st.accepted

  pub segments_kept : (ss : List Segment) → All (Stands area) ss → All (Kept area) (left_of ss)
  unfolding left_of
  segments_kept [] st = tt
  segments_kept (s ∷ ss) st = all_append (Kept area) (left_in s) (left_of ss) (segment_kept s st.0) (segments_kept ss st.1)

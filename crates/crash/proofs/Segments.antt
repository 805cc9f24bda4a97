-- The relation that every call keeps: this area and directory hold these segments of entries, some with a torn end.
-- Assumes nothing.
use Prim.Native.Nat.{ℕ, ◌^◌, ◌<◌, ◌≤◌}
use mathlib.Core.Path.{◌≡◌, refl}
use mathlib.Core.List.{List, [], ◌∷◌, ◌++◌, map, append_assoc, append-nil}
use mathlib.Core.Option.{Option, none, some}
use lib.ListN.{length, take}
use Rattle.refusal.specs.Answer as Answers
use Rattle.records.specs.Dense.{All}
use Rattle.directory.specs.Image.{segment_bytes}
use Rattle.directory.specs.Record.{records_of, end_of}
use Rattle.directory.specs.Rule.{test_of}
use Rattle.directory.specs.declared.record.SegmentRecord.{SegmentRecord}
use Rattle.segment.specs.declared.SegmentManager.{SegmentManager}
use Rattle.crash.specs.Request.{Request, Written}
use Rattle.crash.specs.Kept.{kept_by, torn_by}
use Rattle.crash.specs.Life.{Held, Life}
use Rattle.crash.proofs.Images.{Accepted, image_of, written_from}

-- A segment begins as the images of these entries do: those that end in it are there, and it ends inside the next one, or
-- behind the last. A cut makes it shorter, and nothing else.
pub record Segment : Type 0 where
  pub place : SegmentRecord
  pub asked : List Request

abbrev pub place_of : Segment → SegmentRecord
place_of s = s.place

abbrev pub left_in : Segment → List Written
left_in s = kept_by (end_of s.place) (written_from s.place.start s.asked)

abbrev pub torn_in : Segment → List ℕ
torn_in s = torn_by (end_of s.place) (written_from s.place.start s.asked)

-- of all segments
unfoldable pub left_of : List Segment → List Written
left_of [] = []
left_of (s ∷ ss) = left_in s ++ left_of ss

unfoldable pub torn_of : List Segment → List ℕ
torn_of [] = []
torn_of (s ∷ ss) = torn_in s ++ torn_of ss

pub record Stands (area : List ℕ) (s : Segment) : Type 0 where
  pub accepted : All Accepted s.asked
  pub long : s.place.length ≤ length (image_of s.asked)
  pub bytes : segment_bytes area s.place ≡ take s.place.length (image_of s.asked)
  pub id : s.place.id < 2 ^ 64

pub record Holds (h : Held) (ss : List Segment) : Type 0 where
  pub sound : test_of (length h.area) h.directory h.used ≡ Answers.sound
  pub records : records_of h.used h.directory ≡ map place_of ss
  pub stand : All (Stands h.area) ss

-- an open writer's last segment is whole, so an entry always stands behind whole ones
abbrev pub IsWhole : Segment → Type 0
IsWhole s = s.place.length ≡ length (image_of s.asked)

pub record Active (ss : List Segment) : Type 0 where
  pub before : List Segment
  pub last : Segment
  pub parts : ss ≡ before ++ (last ∷ [])
  pub whole : IsWhole last

abbrev pub IsOpen : Option SegmentManager → List Segment → Type 0
IsOpen none ss = Unit {0}
IsOpen (some m) ss = Active ss

-- what a life says of a log is what its segments have
pub record Consists (l : Life) (ss : List Segment) : Type 0 where
  pub holds : Holds l.held ss
  pub entries : l.entries ≡ left_of ss
  pub torn : l.torn ≡ torn_of ss
  pub active : IsOpen l.writer ss

-- ---- more segments behind

pub left_append : (ss ts : List Segment) → left_of (ss ++ ts) ≡ left_of ss ++ left_of ts
unfolding left_of
left_append [] ts = refl
left_append (s ∷ ss) ts = rw (left_append ss ts, append_assoc)

pub left_snoc : (ss : List Segment) (s : Segment) → left_of (ss ++ (s ∷ [])) ≡ left_of ss ++ left_in s
unfolding left_of
left_snoc ss s = rw (left_append ss (s ∷ []), append-nil)

pub torn_append : (ss ts : List Segment) → torn_of (ss ++ ts) ≡ torn_of ss ++ torn_of ts
unfolding torn_of
torn_append [] ts = refl
torn_append (s ∷ ss) ts = rw (torn_append ss ts, append_assoc)

pub torn_snoc : (ss : List Segment) (s : Segment) → torn_of (ss ++ (s ∷ [])) ≡ torn_of ss ++ torn_in s
unfolding torn_of
torn_snoc ss s = rw (torn_append ss (s ∷ []), append-nil)

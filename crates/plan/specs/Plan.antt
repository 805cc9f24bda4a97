-- Document 01, "Writing": what refuses an opening, a rotation or an append, and else what is written where.
-- Assumes nothing.
use Rattle.std.specs.Prelude.{Bool, true, false, cond, List, ℕ, ◌+◌, ◌-◌, ◌*◌, ◌/◌, ◌^◌, leb, eqb, length, drop}
use Rattle.std.specs.declared.option.Option.{Option}
use Rattle.std.specs.declared.option.Option.TheVariants.{None, Some}
use Rattle.refusal.specs.Answer.{Answer, refused, accepted, and_then, sound}
use Rattle.directory.specs.Record.{record_at, end_of}
use Rattle.directory.specs.Rule.{test_of, after_record}
use Rattle.directory.specs.declared.record.SegmentRecord.{SegmentRecord}
use Rattle.directory.specs.declared.rule.Last.{Last}
use Rattle.plan.specs.declared.Write.{Write}

-- ---- the last used record

-- the active segment's
abbrev pub last_used : List ℕ → (used : ℕ) → SegmentRecord
last_used directory used = record_at (drop (24 * (used - 1)) directory)

-- what a new segment comes after
unfoldable pub last_in : List ℕ → (used : ℕ) → Option Last
last_in directory used = cond (eqb used 0) None (after_record (last_used directory used))

-- ---- a new segment

-- "id 1 at 0 for an empty directory, else last id plus one, at the last end"
unfoldable pub new_segment : Option Last → SegmentRecord
new_segment None = record { id = 1; start = 0; length = 0 }
new_segment (Some last) = record { id = last.id + 1; start = last.end; length = 0 }

-- 4: "a new segment is needed and the last id is 2^64 - 1"
abbrev pub no_next_id : Option Last → Bool
no_next_id None = false
no_next_id (Some last) = eqb last.id (2 ^ 64 - 1)

-- 5: "a new segment finds no unused directory record"; 4 goes before it
unfoldable pub next_of : Option Last → (used records : ℕ) → Answer SegmentRecord
next_of last used records =
    cond (no_next_id last) (refused 4)
    (cond (leb records used) (refused 5) (accepted (new_segment last)))

-- what opening and rotating add
unfoldable pub new_segment_of : (area : ℕ) → List ℕ → (used : ℕ) → Answer SegmentRecord
new_segment_of area directory used =
    and_then (test_of area directory used) (λ _. next_of (last_in directory used) used (length directory / 24))

-- ---- an append

-- 2: "or append finds a used count of 0"
unfoldable pub append_test_of : (area : ℕ) → List ℕ → (used : ℕ) → Answer (Unit {0})
append_test_of area directory used = and_then (test_of area directory used) (λ _. cond (eqb used 0) (refused 2) sound)

-- an entry behind a segment, which is record k: it goes to the segment's end, and the segment grows by it
abbrev pub write_behind : SegmentRecord → (k : ℕ) → (rotated : Bool) → (payload : ℕ) → Write
write_behind s k rotated payload =
    record {
      at = end_of s;
      k = k;
      segment = record { id = s.id; start = s.start; length = s.length + (13 + payload) };
      rotated = rotated;
    }

-- 5: "13 + payload exceeds the area left after the last segment's end"
unfoldable pub behind_of : SegmentRecord → (k : ℕ) → (rotated : Bool) → (area payload : ℕ) → Answer Write
behind_of s k rotated area payload =
    cond (leb (13 + payload) (area - end_of s)) (accepted (write_behind s k rotated payload)) (refused 5)

-- "Append first rotates if the active length is at or above the bound, so a segment may pass its bound by one entry."
unfoldable pub plan_of : (bound area : ℕ) → List ℕ → (used payload : ℕ) → Answer Write
plan_of bound area directory used payload =
    cond (leb bound (last_used directory used).length)
    (and_then (next_of (after_record (last_used directory used)) used (length directory / 24)) (λ s. behind_of s used true area payload))
    (behind_of (last_used directory used) (used - 1) false area payload)

-- 1 and 2 go before 4 and 5
unfoldable pub plan_append_of : (bound area : ℕ) → List ℕ → (used payload : ℕ) → Answer Write
plan_append_of bound area directory used payload =
    and_then (append_test_of area directory used) (λ _. plan_of bound area directory used payload)

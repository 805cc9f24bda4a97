-- A walk of a segment, one entry a call.
-- Assumes nothing.
use Rattle.std.specs.Prelude.{ℕ, List}
use Rattle.entry.specs.Decode.{end_of}
use Rattle.scan.specs.Step.{step_at}
use Rattle.scan.specs.declared.Step.{Step}
use Rattle.scan.specs.declared.Step.TheVariants.{Entry, End, Torn, WrongChecksum, Undecodable}
use Rattle.ringwal.specs.declared.walker.SegmentWalker.{SegmentWalker}
use Rattle.ringwal.specs.declared.walker.Walked.{Walked}

-- where the next step is: behind an entry. The end leaves the offset, and so does damage of any kind.
abbrev pub offset_after : Step → (at : ℕ) → ℕ
offset_after (Entry entry p) at = end_of p
offset_after End at = at
offset_after Torn at = at
offset_after WrongChecksum at = at
offset_after (Undecodable p) at = at

-- what stands at the offset, and where the next step is
unfoldable pub walked_at : List ℕ → (at : ℕ) → Walked
walked_at segment at = record { step = step_at segment at; at = offset_after (step_at segment at) at }

-- the walker after a step: the same segment, and the next offset
unfoldable pub stepped : SegmentWalker → SegmentWalker
stepped w = record { segment = w.segment; at = offset_after (step_at w.segment.now w.at) w.at }

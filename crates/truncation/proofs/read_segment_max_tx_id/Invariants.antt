-- `read_segment_max_tx_id` meets its contract. The invariant: the highest number so far and the highest of what is left
-- are together the segment's.
-- Assumes nothing.
use mathlib.Core.Path.{◌≡◌}
use Prim.Native.Nat.{max, ◌-◌}
use lib.ListN.{length}
use Rattle.scan.specs.Highest.{highest_from, highest_of}
use Rattle.truncation.proofs.read_segment_max_tx_id.Given as goal

abbrev pub invariant-loop-entry : goal.invariant-loop-entry
invariant-loop-entry l = max l.max_tx_id (highest_from l.segment l.at) ≡ highest_of l.segment

abbrev pub decreases-loop-entry : goal.decreases-loop-entry
decreases-loop-entry l = length l.segment - l.at

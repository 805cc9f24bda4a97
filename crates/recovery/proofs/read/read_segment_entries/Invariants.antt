-- `read_segment_entries` meets its contract. The invariant: what is left of the segment, read into the lists as they stand,
-- comes to the whole segment read into the lists at entry.
-- Assumes nothing.
use Prim.Native.Nat.{◌-◌}
use lib.ListN.{length}
use Rattle.recovery.specs.Reach.{reached}
use Rattle.recovery.proofs.Reaches.{Going, with_lists}
use Rattle.recovery.proofs.read.read_segment_entries.Given as goal

abbrev pub invariant-loop-entry : goal.invariant-loop-entry
invariant-loop-entry l =
    Going (reached l.initial.entries l.initial.transactions l.progress) (reached l.entries l.transactions (with_lists l.progress l.lists)) l.base l.segment l.at

abbrev pub decreases-loop-entry : goal.decreases-loop-entry
decreases-loop-entry l = length l.segment - l.at

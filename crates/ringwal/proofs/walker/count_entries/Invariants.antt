-- `count_entries` meets its contract. The invariant: the entries met so far and those that are left are the segment's.
-- Assumes nothing.
use mathlib.Core.Path.{◌≡◌}
use Prim.Native.Nat.{◌-◌}
use lib.ListN.{length}
use Rattle.ringwal.proofs.Walks.{Counting}
use Rattle.ringwal.proofs.walker.count_entries.Given as goal

abbrev pub invariant-loop-count : goal.invariant-loop-count
invariant-loop-count l = Counting l.segment l.walker.at l.count × (l.walker.segment.now ≡ l.segment)

abbrev pub decreases-loop-count : goal.decreases-loop-count
decreases-loop-count l = length l.segment - l.walker.at

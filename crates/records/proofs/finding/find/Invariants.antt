-- `records::finding::find` meets its contract. The invariant: what halving finds in the range that is left is what it
-- finds among all.
-- Assumes nothing.
use Rattle.std.proofs.Common.{◌≡◌, ◌+◌, ◌≤◌}
use Rattle.records.specs.Halving.{halved, found_in}
use Rattle.records.proofs.finding.find.Given as goal

abbrev pub invariant-loop-len : goal.invariant-loop-len
invariant-loop-len g l =
    (l.from + l.len ≤ l.n) × (halved (g.K.Keyed.order l.records) l.from l.len ≡ found_in (g.K.Keyed.order l.records) l.n)

abbrev pub decreases-loop-len : goal.decreases-loop-len
decreases-loop-len g l = l.len

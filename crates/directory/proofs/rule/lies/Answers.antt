-- `directory::rule::lies` meets its contract: its tests are the definition's, in their order.
-- Assumes nothing.
use native.Mathlib.Omega.{arith}
use Rattle.directory.specs.Rule.{lies_of}
use Rattle.directory.proofs.rule.lies.Goals.{then-end-segment, else-end-segment}
use Rattle.directory.proofs.rule.lies.Goals as goal

pub returns-then-segment-area : goal.returns-then-segment-area
unfolding lies_of
returns-then-segment-area c =
    elim c.if-end-segment.branch [ then-end-segment w ↦ grind arith | else-end-segment w ↦ grind arith ]

pub returns-else-segment-area : goal.returns-else-segment-area
unfolding lies_of
returns-else-segment-area c =
    elim c.if-end-segment.branch [ then-end-segment w ↦ grind arith | else-end-segment w ↦ grind arith ]

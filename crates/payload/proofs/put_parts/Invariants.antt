-- `put_parts` meets its contract. The invariant: the parts so far are put, one behind the other.
-- Assumes nothing.
use lib.ListN.{take}
use Rattle.payload.specs.Encode.{joined, Put}
use Rattle.payload.proofs.put_parts.Given as goal

abbrev pub invariant-loop-part : goal.invariant-loop-part
invariant-loop-part l = Put l.initial.target l.at (joined (take l.part-index l.parts)) l.target l.next

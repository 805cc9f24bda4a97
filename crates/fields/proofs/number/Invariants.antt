-- `fields::number` meets its contract. The invariant: the number so far is that of the bytes behind those that are left.
-- Assumes nothing.
use Rattle.std.proofs.Common.{◌≡◌, ◌++◌, drop, length}
use Rattle.fields.specs.Le.{le_of}
use Rattle.fields.proofs.number.Given as goal

abbrev pub invariant-loop-byte : goal.invariant-loop-byte
invariant-loop-byte l =
    let left = l.byte-iterator.iter.rest.now in
    (left ++ drop (length left) l.bytes ≡ l.bytes) × (l.v ≡ le_of (drop (length left) l.bytes))

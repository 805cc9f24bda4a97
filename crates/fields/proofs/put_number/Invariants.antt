-- `fields::put_number` meets its contract. The invariant: the bytes that are left, written to the list as it stands, are all of them written to the list at entry.
-- Assumes nothing.
use Rattle.std.proofs.Common.{◌≡◌, ◌-◌, length}
use lib.Seq.{sets}
use Rattle.fields.specs.Le.{le_bytes}
use Rattle.fields.proofs.put_number.Given as goal

abbrev pub invariant-loop-byte : goal.invariant-loop-byte
invariant-loop-byte l =
    sets l.bytes l.byte-index (le_bytes (length l.bytes - l.byte-index) l.rest) ≡ sets l.initial.bytes 0 (le_bytes (length l.initial.bytes) l.v)

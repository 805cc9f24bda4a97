-- `update` meets its contract. The invariant: the bytes that are left, taken in from crc, are all of them taken in from `start`.
use mathlib.Core.Path.{◌≡◌}
use lib.ListN.{drop}
use Rattle.crc32.specs.Crc.{register}
use Rattle.crc32.proofs.update.Given as goal

abbrev pub invariant-loop-byte : goal.invariant-loop-byte
invariant-loop-byte l = register l.crc (drop l.byte-index l.data) ≡ register l.start l.data

-- `crc32::one` meets its contract: the byte by its table.
-- Assumes nothing.
use mathlib.Core.Path.{ap, ◌∙◌}
use Prim.Native.Nat.{◌/◌}
use lib.Bits.{bit_xor}
use Rattle.crc32.proofs.Linear.{above}
use Rattle.crc32.proofs.one.Goals as goal

pub returns : goal.returns
returns c = ap (λ r. bit_xor r (c.args.x / 256)) c.after8.ensures ∙ above 8 c.args.x

-- `WalEntryHeader::read` meets its contract: four bytes fit a u32, and one a u8.
-- Assumes nothing.
use Rattle.fields.proofs.Numbers.{num_below}
use Rattle.header.specs.Header.{header_at}
use native.Mathlib.Omega.{arith}
use Rattle.header.proofs.WalEntryHeader.read.Goals as goal

pub overflow_cast-result : goal.overflow_cast-result
overflow_cast-result c =
    omega (arith, num_below c.args.bytes.now 8 4 4 (omega arith) (λ i. (c.type_inv.bytes i).fits))

pub overflow_cast-result-2 : goal.overflow_cast-result-2
overflow_cast-result-2 c =
    omega (arith, num_below c.args.bytes.now 12 1 1 (omega arith) (λ i. (c.type_inv.bytes i).fits))

pub returns : goal.returns
unfolding header_at
returns c = cc

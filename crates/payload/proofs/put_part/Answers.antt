-- `put_part` meets its contract: the length, and the bytes behind it.
-- Assumes nothing.
use Rattle.payload.proofs.Laws.{length_part, part_stored}
use native.Mathlib.Omega.{arith}
use Rattle.payload.proofs.put_part.Goals as goal

pub returns : goal.returns
returns c =
    let a = c.args in
    record {
      next = rw length_part (omega arith);
      target = cc (part_stored a.target.now a.at a.part.now);
    }

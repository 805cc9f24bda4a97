-- `put` meets its contract: the fixed part, and the parts behind it.
-- Assumes nothing.
use lib.ListN.{length-append}
use native.Mathlib.Omega.{arith}
use Rattle.payload.specs.Kind.{number_of}
use Rattle.payload.proofs.Laws.{length_fixed, length_joined, put_fixed, put_behind, put_all, put_nothing}
use Rattle.payload.proofs.put.Goals as goal

pub returns-then-target-parts_len : goal.returns-then-target-parts_len
returns-then-target-parts_len c =
    put_nothing _ _ (rw (length-append, length_fixed, length_joined) (omega arith))

pub returns : goal.returns
returns c =
    let a = c.args in
    put_all _ _ _ _
    (put_behind (put_fixed (number_of a.kind) a.tx_id a.timestamp c.put_fixed.ensures) c.put_parts.ensures)
    (rw (length-append, length_fixed, length_joined) (omega arith))

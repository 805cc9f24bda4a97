-- `put_parts` meets its contract. The invariant: the parts so far are put, one behind the other.
-- Assumes nothing.
use mathlib.Core.Path.{refl}
use mathlib.Core.List.{[]}
use native.Mathlib.Numerals.{add-one}
use native.Mathlib.Omega.{arith}
use Rattle.payload.specs.Encode.{joined}
use Rattle.payload.proofs.Laws.{put_behind, joined_more, joined_room}
use Rattle.payload.proofs.put_parts.Goals as goal

pub loop-part-init : goal.loop-part-init
unfolding joined
loop-part-init c = record { next = omega arith; target = refl }

pub put_part-next-requires : goal.put_part-next-requires
put_part-next-requires c =
    let l = c.loop-part in
    omega (arith, l.invariant.next, joined_room c.args.parts.now l.part-index (record { ref_ptr = (0, 0); now = [] }) c.loop-part-test.true)

pub loop-part-preserved : goal.loop-part-preserved
loop-part-preserved c =
    let l = c.loop-part in
    rw (add-one, joined_more c.args.parts.now l.part-index (record { ref_ptr = (0, 0); now = [] }) c.loop-part-test.true)
    (put_behind l.invariant c.put_part-next.ensures)

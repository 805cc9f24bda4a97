-- `close_up` meets its contract.
-- Assumes nothing.
use mathlib.Core.Path.{◌∙◌}
use native.Mathlib.Omega.{arith}
use Rattle.directory.proofs.Sound.{sound_says}
use Rattle.truncation.proofs.Closing.{closing_start, closing_dropped, closing_kept, closing_end}
use Rattle.truncation.proofs.close_up.Goals.{then-k-used, then-k-used-via-then-k-used, then-k-used-via-else-k-used+then-not-is_below, else-k-used+else-not-is_below}
use Rattle.truncation.proofs.close_up.Goals as goal

pub loop-k-init : goal.loop-k-init
loop-k-init c = closing_start _ _ _ _

pub loop-k-preserved : goal.loop-k-preserved
loop-k-preserved c =
    let l = c.loop-k in
    let r = c.record_at-segment in
    elim c.if-k-used.branch [
      | then-k-used w ↦
          rw (w.directory-is, w.kept-is, w.put_record.ensures)
          (closing_kept _ _ _ _ _ _ _ r.result l.invariant (omega arith) r.ensures
          (elim w.then-k-used.branch [ then-k-used-via-then-k-used w' ↦ grind arith | then-k-used-via-else-k-used+then-not-is_below w' ↦ grind arith ]))
      | else-k-used+else-not-is_below w ↦
          rw (w.directory-is, w.kept-is) (closing_dropped _ _ _ _ _ _ _ r.result l.invariant (omega arith) r.ensures (grind arith))
    ]

pub overflow_mul-freed : goal.overflow_mul-freed
overflow_mul-freed c = omega (arith, sound_says _ _ _ c.requires)

pub overflow_mul-kept : goal.overflow_mul-kept
overflow_mul-kept c = omega (arith, sound_says _ _ _ c.requires)

pub returns : goal.returns
returns c =
    let l = c.loop-k in
    let e = closing_end _ _ _ _ _ _ _ l.invariant (omega arith) in
    (e.number, c.zero.ensures ∙ e.bytes)

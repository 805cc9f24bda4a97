-- `utf8::step` meets its contract: a character begins, or the octet is tested against the awaited range.
use mathlib.Core.Path.{◌≡◌, sym, ap, ◌∙◌}
use mathlib.Core.Bool.{true, false}
use Rattle.utf8.specs.Grammar.{range, tail, holds, after}
use Rattle.utf8.specs.State.{next_of}
use Rattle.utf8.proofs.Holds.{inside, below, above}
use Rattle.utf8.proofs.Turn.{after_some}
use Rattle.utf8.proofs.step.Goals as goal
use Rattle.utf8.proofs.step.Goals.{then-b-s-via-then-b-s, then-b-s-via-else-b-s+then-s-b}

pub returns-then-s-eq0 : goal.returns-then-s-eq0
unfolding after
returns-then-s-eq0 c = let e : c.args.s.left ≡ 0 = c.if-s-eq0.true in c.begin.ensures ∙ rw e

pub returns-then-b-s : goal.returns-then-b-s
returns-then-b-s c =
    let a = c.args in
    let r = range a.s.low a.s.high in
    let out : holds r a.b ≡ false =
    elim c.then-b-s.branch [
      | then-b-s-via-then-b-s w ↦ below r a.b w.if-b-s.true
      | then-b-s-via-else-b-s+then-s-b w ↦ above r a.b w.if-s-b.true
    ] in
    sym (after_some a.b a.s.left r false c.if-s-eq0.false out)

pub returns : goal.returns
unfolding tail
returns c =
    let a = c.args in
    let r = range a.s.low a.s.high in
    ap next_of c.awaits.ensures
    ∙ sym (after_some a.b a.s.left r true c.if-s-eq0.false (inside r a.b c.if-b-s.false c.if-s-b.false))

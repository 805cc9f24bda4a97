-- `utf8::is_utf8` meets its contract. The loop's invariant: testing the octets left, from the state now, is testing all.
use mathlib.Core.Path.{◌≡◌, refl, sym, ◌∙◌}
use Rattle.utf8.specs.Grammar.{range, is_utf8}
use Rattle.utf8.specs.State.{ranges_of}
use Rattle.utf8.proofs.Turn.{goes, stops, ended}
use Rattle.utf8.proofs.Ascii.{Passed, eight_pass}
use Rattle.utf8.proofs.is_utf8.Goals as goal

passed : (c : goal.In-Some-behind_ascii) → Passed c.loop-b.rest.now c.in-Some-behind_ascii.behind.now
passed c = eight_pass _ _ (sym c.in-Some-behind_ascii.ensures)

pub loop-b-init : goal.loop-b-init
unfolding is_utf8
loop-b-init c = refl

pub loop-b-smaller-in-Some-behind_ascii : goal.loop-b-smaller-in-Some-behind_ascii
loop-b-smaller-in-Some-behind_ascii c = (passed c).shorter

pub loop-b-preserved-in-Some-behind_ascii : goal.loop-b-preserved-in-Some-behind_ascii
loop-b-preserved-in-Some-behind_ascii c =
    let z : c.loop-b.s.left ≡ 0 = c.if-s-eq0.true in
    rw z ((passed c).same ∙ rw z at c.loop-b.invariant)

pub returns-in_default-step : goal.returns-in_default-step
returns-in_default-step c =
    let l = c.loop-b in
    sym (stops _ _ (ranges_of l.s) c.in_default-step.ensures) ∙ rw c.in-Some.ensures.cases.0 at l.invariant

pub loop-b-preserved : goal.loop-b-preserved
loop-b-preserved c =
    let l = c.loop-b in
    goes _ _ (ranges_of l.s) (ranges_of c.in-Some-step.next) c.in-Some-step.ensures ∙ rw c.in-Some.ensures.cases.0 at l.invariant

pub returns : goal.returns
returns c =
    let l = c.loop-b in
    let s = l.s in
    sym (ended s.left (range s.low s.high) _ c.in_default.ensures.cases) ∙ l.invariant

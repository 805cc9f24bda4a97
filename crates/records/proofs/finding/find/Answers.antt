-- `records::finding::find` meets its contract.
-- Assumes nothing.
use Rattle.std.proofs.Common.{◌≡◌, sym, refl, ◌∙◌, arith}
use Rattle.records.specs.Halving.{found_in}
use Rattle.records.proofs.Halving.{is_equal, is_less, is_greater, halve_none, halve_less, halve_equal, halve_greater}
use Rattle.records.proofs.finding.find.Goals as goal

pub loop-len-init : goal.loop-len-init
unfolding found_in
loop-len-init g c = (omega arith, refl)

pub returns-then-is_eq : goal.returns-then-is_eq
returns-then-is_eq g c =
    let l = c.loop-len in
    let o = sym c.order-order.ensures ∙ is_equal c.order-order.result (sym c.is_eq.ensures ∙ c.if-is_eq.true) in
    sym (halve_equal (g.K.Keyed.order c.args.records.now) l.from l.len (omega arith) o) ∙ l.invariant.1

pub loop-len-preserved-then-is_lt : goal.loop-len-preserved-then-is_lt
loop-len-preserved-then-is_lt g c =
    let l = c.loop-len in
    let o = sym c.order-order.ensures ∙ is_less c.order-order.result (sym c.is_lt.ensures ∙ c.if-is_lt.true) in
    (omega arith, sym (halve_less (g.K.Keyed.order c.args.records.now) l.from l.len (omega arith) o) ∙ l.invariant.1)

pub loop-len-preserved : goal.loop-len-preserved
loop-len-preserved g c =
    let l = c.loop-len in
    let o =
    sym c.order-order.ensures
    ∙ is_greater c.order-order.result (sym c.is_eq.ensures ∙ c.if-is_eq.false) (sym c.is_lt.ensures ∙ c.if-is_lt.false) in
    (omega arith, sym (halve_greater (g.K.Keyed.order c.args.records.now) l.from l.len (omega arith) o) ∙ l.invariant.1)

pub returns : goal.returns
returns g c =
    let l = c.loop-len in
    let e : l.len ≡ 0 = omega arith in
    sym (halve_none (g.K.Keyed.order c.args.records.now) l.from) ∙ (rw e at l.invariant.1)

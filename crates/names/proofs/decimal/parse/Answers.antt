-- `names::decimal::parse` meets its contract. The invariant: the bytes that are left, read after v, are the whole text's number.
-- Assumes nothing.
use mathlib.Core.Path.{sym, ◌∙◌}
use native.Mathlib.Omega.{arith}
use borrow.Author.Tests.{eqb-true, eqb-false}
use Rattle.names.proofs.Numerals.{number_start, number_none, read_turn, read_stop, read_end}
use Rattle.names.proofs.decimal.parse.Goals as goal

pub returns-then-is_empty : goal.returns-then-is_empty
returns-then-is_empty c =
    let e = eqb-true _ _ (sym c.if-is_empty.ensures) in number_none _ (λ n. omega (arith, n.1, e))

pub loop-byte-init : goal.loop-byte-init
loop-byte-init c = (omega arith, number_start _ (omega (arith, eqb-false _ _ (sym c.if-is_empty.ensures))))

pub returns-in_err-v : goal.returns-in_err-v
returns-in_err-v c =
    let l = c.loop-byte in
    c.from_residual.ensures ∙ read_stop c.args.text.now l.v l.byte-index (omega arith) c.in_err-v.ensures ∙ l.invariant.1

pub loop-byte-preserved : goal.loop-byte-preserved
loop-byte-preserved c =
    let l = c.loop-byte in
    (omega arith, read_turn c.args.text.now l.v l.byte-index _ (omega arith) c.in_ok-v.ensures ∙ l.invariant.1)

pub returns : goal.returns
returns c =
    let l = c.loop-byte in
    read_end c.args.text.now l.v l.byte-index (omega arith) l.invariant.0 ∙ l.invariant.1

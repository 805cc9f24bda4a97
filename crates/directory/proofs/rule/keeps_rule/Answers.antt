-- `directory::rule::keeps_rule` meets its contract.
-- Assumes nothing.
use mathlib.Core.Path.{sym, ◌∙◌}
use Rattle.directory.specs.Record.{records_of}
use Rattle.directory.specs.Rule.{rule_from, directory_rule}
use Rattle.directory.proofs.Rules.{follows_says, rule_turn, rule_stop}
use native.Mathlib.Omega.{arith}
use Rattle.directory.proofs.rule.keeps_rule.Goals as goal

pub returns-then-directory-used : goal.returns-then-directory-used
unfolding directory_rule
returns-then-directory-used c = grind arith

pub loop-k-init : goal.loop-k-init
unfolding directory_rule
loop-k-init c = grind arith

pub returns-then-not-follows : goal.returns-then-not-follows
returns-then-not-follows c =
    let a = c.args in
    let l = c.loop-k in
    rule_stop a.area l.last a.used l.k a.directory.now (omega arith) (cc) ∙ l.invariant

pub overflow_add-last : goal.overflow_add-last
overflow_add-last c =
    let l = c.loop-k in
    omega (arith, follows_says _ l.last c.record_at-segment.result (sym c.follows.ensures ∙ c.if-not-follows.false))

pub loop-k-preserved : goal.loop-k-preserved
loop-k-preserved c =
    let a = c.args in
    let l = c.loop-k in
    let e = rule_turn a.area l.last a.used l.k a.directory.now (omega arith) cc in
    cc

pub returns : goal.returns
unfolding rule_from records_of
returns c = grind arith

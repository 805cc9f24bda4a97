-- `directory::rule::keeps_rule` meets its contract. The invariant: the records that are left keep the rule, after the
-- last one tested, exactly if the directory keeps it.
-- Assumes nothing.
use mathlib.Core.Path.{◌≡◌}
use Prim.Native.Nat.{◌-◌, ◌*◌}
use lib.ListN.{drop}
use Rattle.directory.specs.Record.{records_of}
use Rattle.directory.specs.Rule.{rule_from, directory_rule}
use Rattle.directory.proofs.rule.keeps_rule.Given as goal

abbrev pub invariant-loop-k : goal.invariant-loop-k
invariant-loop-k l =
    rule_from l.area l.last (records_of (l.used - l.k) (drop (24 * l.k) l.directory)) ≡ directory_rule l.area l.directory l.used

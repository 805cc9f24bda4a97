-- `utf8::behind_ascii` meets its contract.
use mathlib.Core.Path.{sym, ap, ◌∙◌}
use Rattle.std.specs.Option.{option_copied}
use Rattle.utf8.proofs.Ascii.{behind_few, behind_eight}
use Rattle.utf8.proofs.behind_ascii.Goals as goal

pub returns-in_err-eight : goal.returns-in_err-eight
returns-in_err-eight c = ap option_copied c.from_residual.ensures ∙ behind_few c.args.bytes.now c.in_err-eight.ensures.cases

pub returns-then-ascii_eight : goal.returns-then-ascii_eight
returns-then-ascii_eight c =
    let is = c.in_ok-eight.ensures.cases in
    behind_eight c.args.bytes.now _ _ _ is.0 is.1 is.2 (sym c.ascii_eight.ensures ∙ c.if-ascii_eight.true)

pub returns-else-ascii_eight : goal.returns-else-ascii_eight
returns-else-ascii_eight c =
    let is = c.in_ok-eight.ensures.cases in
    behind_eight c.args.bytes.now _ _ _ is.0 is.1 is.2 (sym c.ascii_eight.ensures ∙ c.if-ascii_eight.false)

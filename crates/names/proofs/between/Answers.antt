-- `names::between` meets its contract: the prefix, then the suffix of what stands behind it.
-- Assumes nothing.
use mathlib.Core.Path.{ap, ◌∙◌}
use Rattle.std.specs.Option.{option_copied}
use Rattle.names.specs.Name.{prefix, suffix}
use Rattle.names.proofs.Reading.{no_prefix, suffix_says}
use Rattle.names.proofs.between.Goals as goal

pub returns-in_err-strip_prefix : goal.returns-in_err-strip_prefix
unfolding prefix
returns-in_err-strip_prefix c =
    ap option_copied c.from_residual.ensures ∙ no_prefix c.args.name.now c.in_err-strip_prefix.ensures.cases

pub returns : goal.returns
unfolding prefix suffix
returns c =
    let is = c.in_ok-strip_prefix.ensures.cases in
    suffix_says c.args.name.now _ is.0 is.1 is.2 _ c.strip_suffix.ensures.cases

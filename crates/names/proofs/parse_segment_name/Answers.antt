-- `names::parse_segment_name` meets its contract, part by part as the definition has them.
-- Assumes nothing.
use mathlib.Core.Path.{ap, ◌∙◌}
use mathlib.Core.Bool.{Bool}
use Rattle.std.specs.declared.option.Option.TheVariants.{None, Some}
use Rattle.names.specs.Decimal.{number_in}
use Rattle.names.specs.Name.{parsed_as}
use Rattle.names.proofs.Reading.{read_none, read_some}
use Rattle.names.proofs.parse_segment_name.Goals as goal

pub returns-in_err-between : goal.returns-in_err-between
returns-in_err-between c = c.from_residual.ensures ∙ read_none c.args.name.now c.in_err-between.ensures

pub returns-in_err-id : goal.returns-in_err-id
unfolding parsed_as
returns-in_err-id c =
    c.from_residual-in_err-id.ensures
    ∙ read_some c.args.name.now _ None c.in_ok-between.ensures (c.in_err-id.ensures ∙ ap number_in c.unsigned.ensures)

pub returns : goal.returns
unfolding parsed_as
returns c =
    let id = c.in_ok-id.id in
    ap (λ (kept : Bool). Some (record { id = id; kept = kept })) c.is_kept-kept.ensures
    ∙ read_some c.args.name.now _ (Some id) c.in_ok-between.ensures (c.in_ok-id.ensures ∙ ap number_in c.unsigned.ensures)

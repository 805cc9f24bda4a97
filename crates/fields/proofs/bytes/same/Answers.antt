-- `fields::bytes::same` meets its contract: std finds equal what compares as equal.
-- Assumes nothing.
use Rattle.std.proofs.Common.{◌∙◌}
use Rattle.fields.proofs.Ordered.{same_is}
use Rattle.fields.proofs.bytes.same.Goals as goal

pub returns : goal.returns
returns c = c.eq.ensures ∙ same_is _ _

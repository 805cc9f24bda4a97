-- `chains::links::spare` meets its contract: past the end no byte is there.
-- Assumes nothing.
use mathlib.Core.Path.{◌∙◌}
use Rattle.chains.proofs.Places.{spare_read}
use Rattle.chains.proofs.links.spare.Goals as goal

pub returns : goal.returns
returns c = c.get_le.ensures ∙ spare_read _ _ _ _ _ c.place.ensures

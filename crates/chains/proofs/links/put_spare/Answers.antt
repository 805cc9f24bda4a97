-- `chains::links::put_spare` meets its contract: past the end no byte is there.
-- Assumes nothing.
use mathlib.Core.Path.{◌∙◌}
use Rattle.chains.proofs.Places.{spare_put}
use Rattle.chains.proofs.links.put_spare.Goals as goal

pub returns : goal.returns
returns c = c.put_le.ensures ∙ spare_put _ _ _ _ _ _ c.place-at.ensures

-- `read_checkpoint` meets its contract: by the image's length.
-- Assumes nothing.
use borrow.Author.Tests.{eq-eqb, ne_eqb}
use Rattle.recovery.specs.Checkpoint.{checkpoint_at}
use Rattle.recovery.proofs.checkpoints.read_checkpoint.Goals as goal

pub returns-then-image-ne-SIZE : goal.returns-then-image-ne-SIZE
unfolding checkpoint_at
returns-then-image-ne-SIZE c = rw (ne_eqb _ _ c.if-image-ne-SIZE.true)

pub returns : goal.returns
unfolding checkpoint_at
returns c = rw (eq-eqb _ _ c.if-image-ne-SIZE.false) c.get_u64.ensures

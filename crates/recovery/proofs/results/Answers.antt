-- `results` meets its contract: the counts and the next number of what was reached.
-- Assumes nothing.
use Rattle.recovery.specs.Reach.{told_by}
use Rattle.recovery.proofs.results.Goals as goal

pub returns : goal.returns
unfolding told_by
returns c = rw (c.next_number.ensures, c.stats.ensures)

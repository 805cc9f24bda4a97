-- `stats` meets its contract: the tally of the transactions, and what it is given.
-- Assumes nothing.
use Rattle.records.proofs.Dense.{length_read}
use Rattle.recovery.specs.Recover.{stats_of}
use Rattle.recovery.proofs.stats.Goals as goal

pub returns : goal.returns
unfolding stats_of
returns c = rw (← c.of-tally.ensures, length_read)

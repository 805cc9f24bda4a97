-- `table::find::find` meets its contract: the search among the records that are used and there.
-- Assumes nothing.
use Rattle.table.specs.Change.{found_of}
use Rattle.table.proofs.find.find.Goals as goal

pub returns : goal.returns
unfolding found_of
returns c = rw (← c.used_in.ensures) c.find.ensures

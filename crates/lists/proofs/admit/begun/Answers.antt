-- `lists::admit::begun` meets its contract.
-- Assumes nothing.
use Rattle.lists.specs.Transactions.{begun}
use Rattle.lists.proofs.admit.begun.Goals as goal

pub returns : goal.returns
unfolding begun
returns c = c.noted.ensures

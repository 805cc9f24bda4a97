-- `order` of the transactions and a number meets its contract: std's order of numbers is that of the definition.
-- Assumes nothing.
use Rattle.std.proofs.Common.{◌∙◌}
use Rattle.records.proofs.Sorted.{numbers_compared}
use Rattle.lists.specs.Admit.{order_in}
use Rattle.lists.proofs.transactions.NumberedKeyed.order.Goals as goal

pub returns : goal.returns
unfolding order_in
returns c = rw (← c.transaction_at.ensures) (c.cmp.ensures ∙ numbers_compared _ _)

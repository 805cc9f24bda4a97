-- `lists::transactions::TransactionRecord::read` meets its contract: the three fields are those of the record.
-- Assumes nothing.
use Rattle.std.proofs.Common.{arith}
use Rattle.fields.proofs.Numbers.{num_below}
use Rattle.lists.specs.Transactions.{transaction_at}
use Rattle.lists.proofs.transactions.TransactionRecordRecord.read.Goals as goal

pub overflow_cast-get_le : goal.overflow_cast-get_le
overflow_cast-get_le c = omega (arith, num_below c.args.bytes.now 8 1 1 (omega arith) (λ i. (c.type_inv.bytes i).fits))

pub returns : goal.returns
unfolding transaction_at
returns c = rw (c.from.ensures, c.get_u64.ensures, c.get_le.ensures, c.get_u64-2.ensures)

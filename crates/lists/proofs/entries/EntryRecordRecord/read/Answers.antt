-- `lists::entries::EntryRecord::read` meets its contract: the four fields are those of the record.
-- Assumes nothing.
use Rattle.std.proofs.Common.{arith}
use Rattle.fields.proofs.Numbers.{num_below}
use Rattle.lists.specs.Entries.{entry_record_at}
use Rattle.lists.proofs.entries.EntryRecordRecord.read.Goals as goal

pub overflow_cast-result : goal.overflow_cast-result
overflow_cast-result c = omega (arith, num_below c.args.bytes.now 24 1 1 (omega arith) (λ i. (c.type_inv.bytes i).fits))

pub returns : goal.returns
unfolding entry_record_at
returns c = cc

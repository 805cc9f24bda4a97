-- `lists::transactions::TransactionRecord::write` meets its contract: three numbers one after the other are the record.
-- Assumes nothing.
use Rattle.lists.proofs.TransactionRecords.{put_three}
use Rattle.lists.proofs.transactions.TransactionRecordWholeRecord.write.Goals as goal

pub returns : goal.returns
returns c =
    let a = c.args in
    cc (put_three a.self a.bytes.now 0)

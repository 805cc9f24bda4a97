-- `WalEntryHeader::to_bytes` meets its contract: three fields, one behind the other.
-- Assumes nothing.
use Rattle.header.proofs.Laws.{header_stored}
use Rattle.header.proofs.WalEntryHeader.to_bytes.Goals as goal

pub returns : goal.returns
returns c = cc (header_stored c.args.self)

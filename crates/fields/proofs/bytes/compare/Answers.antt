-- `fields::bytes::compare` meets its contract: std's order is the document's.
-- Assumes nothing.
use Rattle.std.proofs.Common.{rules}
use lib.Seq.{take_all}
use Rattle.fields.proofs.Ordered.{compare_says}
use Rattle.fields.proofs.bytes.compare.Goals as goal

pub returns : goal.returns
returns c = compare_says _ _ _ _ c.cmp.ensures (search (rules, take_all))

-- `fields::get_u64` meets its contract: eight bytes that are there, as std reads them.
-- Assumes nothing.
use Rattle.std.proofs.Common.{◌∙◌}
use Rattle.fields.proofs.Numbers.{word_there}
use Rattle.fields.proofs.get_u64.Goals as goal

pub returns-in-Some : goal.returns-in-Some
returns-in-Some c =
    let a = c.args in
    c.from_le_bytes.ensures ∙ word_there a.s.now c.in-Some.bytes.now a.at c.min.result c.min.ensures c.in-Some.ensures.cases

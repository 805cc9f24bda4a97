-- `fields::put_u64` meets its contract: std's bytes of a number are the document's.
-- Assumes nothing.
use Rattle.std.proofs.Common.{◌≡◌, ◌+◌, ◌-◌, ◌∙◌, arith}
use Rattle.fields.specs.Le.{le_bytes}
use Rattle.fields.proofs.Numbers.{length_bytes, bytes_eight}
use Rattle.fields.proofs.Stores.{whole_stored}
use Rattle.fields.proofs.put_u64.Goals as goal

pub returns : goal.returns
returns c =
    let a = c.args in
    let e : c.copy_from_slice.new.self ≡ le_bytes 8 a.v = c.copy_from_slice.ensures.after ∙ c.to_le_bytes.ensures ∙ bytes_eight a.v in
    rw e (whole_stored a.s.now (le_bytes 8 a.v) a.at (a.at + 8 - a.at) (rw length_bytes (omega arith)) (omega arith))

-- `fields::put_number` meets its contract.
-- Assumes nothing.
use Rattle.std.proofs.Common.{◌≡◌, ◌+◌, ◌-◌, ◌%◌, length, ◌∙◌, arith}
use lib.ListN.{set, length-set}
use Rattle.fields.specs.Le.{le_bytes}
use Rattle.fields.proofs.Numbers.{length_bytes, write_turn}
use Rattle.fields.proofs.Stores.{sets_all}
use Rattle.fields.proofs.put_number.Goals as goal

pub loop-byte-preserved : goal.loop-byte-preserved
loop-byte-preserved c =
    let l = c.loop-byte in
    let k : length (set l.bytes l.byte-index (l.rest % 256)) - (l.byte-index + 1) ≡ length l.bytes - l.byte-index - 1 =
    simp length-set (omega arith) in
    rw k (write_turn l.bytes l.byte-index (length l.bytes - l.byte-index) l.rest (omega arith) ∙ l.invariant)

pub returns : goal.returns
unfolding le_bytes
returns c =
    let a = c.args in
    let l = c.loop-byte in
    let e : length l.bytes - l.byte-index ≡ 0 = omega arith in
    (rw e at l.invariant) ∙ sets_all a.bytes.now (le_bytes (length a.bytes.now) a.v) (length_bytes _ _)

-- `crc32::update` meets its contract.
-- Assumes nothing.
use mathlib.Core.Path.{◌≡◌, ap, ◌∙◌}
use mathlib.Core.List.{List}
use Prim.Native.Nat.{ℕ, ◌+◌, ◌≤◌, ◌<◌}
use native.Mathlib.Numerals.{add-one}
use native.Mathlib.Omega.{arith}
use lib.Bits.{bit_xor}
use lib.ListN.{length, drop, get_or, drop_of_length-le}
use lib.Seq.{drop-cons}
use Rattle.crc32.specs.Crc.{bit_steps, byte_step, register}
use Rattle.crc32.proofs.update.Goals as goal

-- One byte goes from the bytes that are left into the register.
turn : (bs : List ℕ) (r i : ℕ) → i < length bs → register (bit_steps 8 (bit_xor r (get_or bs i 0))) (drop (i + 1) bs) ≡ register r (drop i bs)
unfolding register byte_step
turn bs r i h = rw (add-one, drop-cons bs i 0 h)

pub loop-byte-preserved : goal.loop-byte-preserved
loop-byte-preserved c =
    let at = c.loop-byte in
    let bs = c.args.«data».now in
    ap (λ r. register r (drop (at.byte-index + 1) bs)) (c.one-crc.ensures ∙ ap (λ b. bit_steps 8 (bit_xor at.crc b)) c.from.ensures)
    ∙ turn bs at.crc at.byte-index (omega arith)
    ∙ at.invariant

pub returns : goal.returns
unfolding register
returns c =
    let at = c.loop-byte in
    let done : length c.args.«data».now ≤ at.byte-index = omega arith in
    rw (drop_of_length-le _ done) at at.invariant

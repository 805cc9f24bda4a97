-- `records::moves::move_bytes_down` meets its contract.
-- Assumes nothing.
use Rattle.std.proofs.Common.{◌≡◌, ◌-◌, ◌∙◌, arith}
use native.Mathlib.Nat.{add-zero, sub-zero}
use Rattle.records.proofs.Stores.{down_turn}
use Rattle.records.proofs.moves.move_bytes_down.Goals as goal

pub loop-i-preserved : goal.loop-i-preserved
loop-i-preserved c =
    let l = c.loop-i in
    let a = c.args in
    down_turn l.s a.at a.len a.by l.i (omega arith) (omega arith) ∙ l.invariant

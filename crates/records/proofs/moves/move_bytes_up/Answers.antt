-- `records::moves::move_bytes_up` meets its contract.
-- Assumes nothing.
use Rattle.std.proofs.Common.{◌≡◌, ◌∙◌, arith}
use Rattle.records.proofs.Stores.{up_turn}
use Rattle.records.proofs.moves.move_bytes_up.Goals as goal

pub loop-i-preserved : goal.loop-i-preserved
loop-i-preserved c =
    let l = c.loop-i in
    let a = c.args in
    up_turn l.s a.at l.i a.by (omega arith) (omega arith) ∙ l.invariant

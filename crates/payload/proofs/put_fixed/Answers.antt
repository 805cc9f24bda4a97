-- `put_fixed` meets its contract: three fields, one behind the other.
-- Assumes nothing.
use Rattle.payload.specs.Kind.{number_of}
use Rattle.payload.proofs.Laws.{fixed_stored}
use Rattle.payload.proofs.put_fixed.Goals as goal

pub returns : goal.returns
returns c =
    let a = c.args in
    cc (fixed_stored a.target.now (number_of a.kind) a.tx_id a.timestamp)

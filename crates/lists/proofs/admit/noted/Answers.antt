-- `lists::admit::noted` meets its contract: its marker, or else the action it had; and one more, if it is no marker.
-- Assumes nothing.
use Rattle.std.proofs.Common.{◌∙◌, refl}
use Rattle.lists.specs.Transactions.{noted}
use Rattle.lists.proofs.TransactionRecords.{some_more}
use Rattle.lists.proofs.admit.noted.Goals as goal

pub returns : goal.returns
unfolding noted
returns c =
    let t = c.args.transaction in
    some_more t.tx_id _ t.count _ _ refl
    ∙ rw (c.decided.ensures, c.to_count.ensures, c.marker-marker.ensures)

-- `fields::bytes::copy` meets its contract: as many bytes are copied as have a place.
-- Assumes nothing.
use Rattle.fields.proofs.Stores.{part_stored}
use Rattle.fields.proofs.bytes.copy.Goals as goal

pub returns : goal.returns
returns c =
    let a = c.args in
    let p = c.places-places.ensures in
    rw c.copy_from_slice.ensures.after (part_stored a.target.now a.source.now a.at _ _ p.start p.end)

-- `fields::put_le` meets its contract: as many bytes are written as have a place.
-- Assumes nothing.
use Rattle.fields.specs.Le.{le_bytes}
use Rattle.std.proofs.Common.{length, take, drop, length-take, length-drop, ◌≡◌, ◌-◌, ◌∙◌, sym, arith}
use Rattle.fields.proofs.Numbers.{take_bytes, length_bytes}
use Rattle.fields.proofs.Stores.{part_stored}
use Rattle.fields.proofs.put_le.Goals as goal

pub returns : goal.returns
returns c =
    let a = c.args in
    let p = c.places-places.ensures in
    let r = c.places-places.result in
    let n = r.end - r.start in
    let w : length (take n (drop r.start a.s.now)) ≡ n = simp (length-take, length-drop) (omega arith) in
    let e : c.put_number.new.bytes ≡ take n (le_bytes a.n a.v) =
    c.put_number.ensures ∙ rw w (sym (take_bytes n a.n a.v (omega arith))) in
    rw e (part_stored a.s.now (le_bytes a.n a.v) a.at _ _ p.start (rw length_bytes p.end))

-- `fields::bytes::zero` meets its contract: as many bytes become zero as there are.
-- Assumes nothing.
use lib.ListN.{length-replicate}
use Rattle.std.proofs.Common.{length, take, drop, length-take, length-drop, ◌≡◌, ◌-◌, replicate, ◌∙◌, sym, arith}
use Rattle.fields.proofs.Stores.{part_stored, take-replicate}
use Rattle.fields.proofs.bytes.zero.Goals as goal

pub returns : goal.returns
returns c =
    let a = c.args in
    let p = c.places-places.ensures in
    let r = c.places-places.result in
    let n = r.end - r.start in
    let w : length (take n (drop r.start a.s.now)) ≡ n = simp (length-take, length-drop) (omega arith) in
    let f : c.fill.new.self ≡ replicate (length (take n (drop r.start a.s.now))) 0 = c.fill.ensures.after (λ y h. h) in
    let e : c.fill.new.self ≡ take n (replicate a.n 0) = f ∙ rw w (sym (take-replicate n a.n 0 (omega arith))) in
    rw e (part_stored a.s.now (replicate a.n 0) a.at _ _ p.start (rw length-replicate p.end))

-- `names::is_kept` meets its contract: 28 bytes are enough, and those written are the name.
-- Assumes nothing.
use mathlib.Core.Path.{◌≡◌, sym, ap, ◌∙◌}
use Prim.Native.Nat.{◌≤◌}
use lib.ListN.{length, take}
use lib.Seq.{length-take-le}
use Rattle.fields.specs.Order.{same_bytes}
use Rattle.fields.proofs.Ordered.{same_is}
use Rattle.names.specs.Name.{name_of}
use Rattle.names.proofs.Writing.{name_length, not_refused, written_count, written_length, written_bytes}
use native.Mathlib.Omega.{arith}
use Rattle.names.proofs.is_kept.Goals as goal

pub returns-in_default : goal.returns-in_default
returns-in_default c =
    let a = c.args in
    let s = c.segment_name in
    absurd (not_refused a.id _ _ _ s.ensures (name_length a.id (omega arith)) _ c.in_default.is)

pub slice_bounds-written-end : goal.slice_bounds-written-end
slice_bounds-written-end c =
    let a = c.args in
    let s = c.segment_name in
    let h : length (name_of a.id) ≤ 28 = name_length a.id (omega arith) in
    let e : c.in-Ok.n ≡ length (name_of a.id) = written_count a.id _ _ _ s.ensures h _ c.in-Ok.is in
    omega (arith, written_length a.id _ s.result _ s.ensures h)

pub slice_bounds-eq-end : goal.slice_bounds-eq-end
slice_bounds-eq-end c =
    let a = c.args in
    let s = c.segment_name in
    let h : length (name_of a.id) ≤ 28 = name_length a.id (omega arith) in
    let e : c.in-Ok.n ≡ length (name_of a.id) = written_count a.id _ _ _ s.ensures h _ c.in-Ok.is in
    sym (length-take-le _ _ (omega (arith, written_length a.id _ s.result _ s.ensures h)))

pub returns : goal.returns
returns c =
    let a = c.args in
    let s = c.segment_name in
    let h : length (name_of a.id) ≤ 28 = name_length a.id (omega arith) in
    let e : c.in-Ok.n ≡ length (name_of a.id) = written_count a.id _ _ _ s.ensures h _ c.in-Ok.is in
    c.eq.ensures ∙ same_is _ _ ∙ ap (same_bytes a.name.now) (ap (λ m. take m s.new.target) e ∙ written_bytes a.id _ s.result _ s.ensures h)

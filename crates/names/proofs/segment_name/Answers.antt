-- `names::segment_name` meets its contract: three stores, if they fit.
-- Assumes nothing.
use mathlib.Core.Path.{◌≡◌, ap, ◌∙◌}
use Prim.Native.Nat.{◌+◌}
use lib.ListN.{length}
use lib.Seq.{sets}
use Rattle.names.specs.Decimal.{digits_of, padded, low_digits}
use Rattle.names.specs.Name.{prefix, suffix}
use Rattle.names.proofs.Writing.{length_parts, width_most, name_stored, refuses, accepts}
use native.Mathlib.Omega.{arith}
use Rattle.names.proofs.segment_name.Goals as goal

pub overflow_add-end : goal.overflow_add-end
overflow_add-end c = omega (arith, width_most c.args.id (omega arith))

pub overflow_add-end-2 : goal.overflow_add-end-2
overflow_add-end-2 c = omega (arith, width_most c.args.id (omega arith))

pub returns-then-target-end : goal.returns-then-target-end
returns-then-target-end c =
    let a = c.args in
    refuses a.id a.target.now (omega (arith, length_parts a.id))

pub returns : goal.returns
unfolding prefix suffix
returns c =
    let a = c.args in
    let n = c.width-digits.result in
    let e : n ≡ length (padded 8 (digits_of a.id)) = c.width-digits.ensures in
    let s : c.copy-2.new.target ≡ sets (sets (sets a.target.now 0 prefix) 4 (low_digits n a.id)) (4 + n) suffix =
    c.copy-2.ensures
    ∙ ap (λ l. sets l (4 + n) suffix) (c.put.ensures ∙ ap (λ l. sets l 4 (low_digits n a.id)) c.copy.ensures) in
    accepts a.id a.target.now _ _ (omega (arith, length_parts a.id)) (omega (arith, length_parts a.id)) (s ∙ name_stored a.target.now a.id n e)

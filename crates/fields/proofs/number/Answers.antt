-- `fields::number` meets its contract.
-- Assumes nothing.
use Rattle.std.proofs.Common.{rules, ◌≡◌, refl, [], length, drop, arith, append-nil, drop_of_length-le}
use Rattle.fields.specs.Le.{le_of}
use Rattle.fields.proofs.Numbers.{read_fits, read_turn}
use Rattle.fields.proofs.number.Goals as goal

pub loop-byte-init : goal.loop-byte-init
unfolding le_of
loop-byte-init c =
    let bytes = c.args.bytes.now in
    let e : c.into_iter-byte-iterator.result.iter.rest.now ≡ bytes = search rules in
    let f : drop (length bytes) bytes ≡ [] = drop_of_length-le bytes (omega arith) in
    rw (e, f) (append-nil bytes, refl)

pub overflow_mul-v : goal.overflow_mul-v
overflow_mul-v c =
    omega (arith, read_fits c.args.bytes.now _ _ _ (λ j. (c.type_inv.bytes j).fits) (omega arith) c.loop-byte.invariant.0 c.in-Some.ensures.steps)

pub overflow_add-v : goal.overflow_add-v
overflow_add-v c =
    omega (arith, read_fits c.args.bytes.now _ _ _ (λ j. (c.type_inv.bytes j).fits) (omega arith) c.loop-byte.invariant.0 c.in-Some.ensures.steps)

pub loop-byte-preserved : goal.loop-byte-preserved
loop-byte-preserved c =
    let t = read_turn c.args.bytes.now _ _ _ c.loop-byte.invariant.0 c.in-Some.ensures.steps in
    (t.0, omega (arith, t.1))

-- `table::row::key_in` meets its contract: the key's bytes, as far as they are there.
-- Assumes nothing.
use mathlib.Core.Path.{◌≡◌}
use Prim.Native.Nat.{◌+◌, ◌-◌}
use native.Mathlib.Omega.{arith}
use Rattle.table.specs.Row.{row_at}
use Rattle.table.proofs.Rows.{key_short}
use Rattle.table.proofs.row.key_in.Goals as goal

pub returns-then-row-lt-SIZE : goal.returns-then-row-lt-SIZE
unfolding row_at
returns-then-row-lt-SIZE c = rw (← c.read-len.ensures) c.part.ensures

pub overflow_add-result : goal.overflow_add-result
overflow_add-result c =
    omega (arith, key_short c.args.row.now 0 c.read-len.result c.read-len.ensures (λ i. (c.type_inv.row i).fits))

pub slice_bounds-result-end : goal.slice_bounds-result-end
slice_bounds-result-end c =
    omega (arith, key_short c.args.row.now 0 c.read-len.result c.read-len.ensures (λ i. (c.type_inv.row i).fits))

pub returns : goal.returns
unfolding row_at
returns c =
    let n = c.read-len.result.key_len in
    let e : 4 + n - 4 ≡ n = omega arith in
    rw (e, c.read-len.ensures)

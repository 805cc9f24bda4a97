-- Finding a key by halving: the record at half the range, rounded down from its start, is compared; the search stops when equal.
-- Assumes nothing.
use Rattle.std.specs.Prelude.{ℕ, zero, suc, ◌+◌, ◌-◌, ◌/◌, cond, eqb}
use Rattle.std.specs.declared.cmp.Ordering.{Ordering}
use Rattle.records.specs.Sorted.{by_order}
use Rattle.std.specs.declared.result.Result.{Result}
use Rattle.std.specs.declared.result.Result.TheVariants.{Ok, Err}

-- `order i` is how record i stands to the key. Each turn takes at least one record off the range, so turns as many as the
-- range has records are enough.
module _ (order : ℕ → Ordering) where
  unfoldable pub halve : (turns from len : ℕ) → Result ℕ ℕ
  halve zero from len = Err from
  halve (suc t) from len =
      let less = halve t (from + len / 2 + 1) (len - len / 2 - 1) in
      let greater = halve t from (len / 2) in
      let turn = by_order (order (from + len / 2)) less (Ok (from + len / 2)) greater in
      cond (eqb len 0) (Err from) turn

  -- among the len records from `from` on
  unfoldable pub halved : (from len : ℕ) → Result ℕ ℕ
  halved from len = halve len from len

  -- among the first n records
  unfoldable pub found_in : ℕ → Result ℕ ℕ
  found_in n = halved 0 n

-- The laws of a table's rows: they stay sorted and fit their records, what a lookup finds after a set and a remove, and that
-- the lookups say all of them.
-- Assumes nothing.
use mathlib.Core.Path.{◌≡◌, refl, sym, ap, ◌∙◌}
use mathlib.Core.List.{List}
use mathlib.Core.Option.{Option, none, some}
use Prim.Native.Nat.{ℕ, ◌≤◌}
use lib.ListN.{length}
use Rattle.fields.specs.Order.{compare_bytes}
use Rattle.records.specs.Sorted.{record_of}
use Rattle.records.specs.Dense.{All}
use Rattle.records.proofs.Sorted.{bytes_order, changed_or, put_all, put_ascends, put_record, put_other, remove_all, remove_length, remove_ascends, remove_record, remove_other, record_key, same_records}
use Rattle.table.specs.Row.{Row, row_of, key_of, RowFits}
use Rattle.table.specs.Table.{Sorted, set, remove_key, value_of, lookup}

-- ---- a row set

module _ (row : Row) where
  pub set_sorted : (rs : List Row) → Sorted rs → Sorted (set row rs)
  unfolding set
  set_sorted rs s = put_ascends compare_bytes bytes_order key_of row.key (λ (r : Row). row) row (λ r e. refl) refl rs s

  pub set_fits : (rs : List Row) → RowFits row → All RowFits rs → All RowFits (set row rs)
  unfolding set
  set_fits rs f fs = put_all compare_bytes key_of row.key (λ (r : Row). row) row RowFits (λ r g. f) f rs fs

  pub lookup_set : (rs : List Row) → lookup row.key (set row rs) ≡ some row.value
  unfolding set lookup
  lookup_set rs =
      ap value_of (put_record compare_bytes bytes_order key_of row.key (λ (r : Row). row) row (λ r e. refl) refl rs)
      ∙ told (record_of compare_bytes key_of row.key rs)
    where
      told : (o : Option Row) → value_of (some (changed_or (λ (r : Row). row) row o)) ≡ some row.value
      told none = refl
      told (some r) = refl

  -- another key keeps its value
  pub lookup_set_other : (key : List ℕ) → (key ≡ row.key → ⊥) → (rs : List Row) → lookup key (set row rs) ≡ lookup key rs
  unfolding set lookup
  lookup_set_other key n rs =
      ap value_of (put_other compare_bytes bytes_order key_of row.key (λ (r : Row). row) row (λ r e. refl) refl key n rs)

-- ---- a key removed

module _ (key : List ℕ) where
  pub remove_sorted : (rs : List Row) → Sorted rs → Sorted (remove_key key rs)
  unfolding remove_key
  remove_sorted rs s = remove_ascends compare_bytes bytes_order key_of key rs s

  pub remove_fits : (rs : List Row) → All RowFits rs → All RowFits (remove_key key rs)
  unfolding remove_key
  remove_fits rs fs = remove_all compare_bytes key_of key RowFits rs fs

  pub remove_most : (rs : List Row) → length (remove_key key rs) ≤ length rs
  unfolding remove_key
  remove_most rs = (remove_length compare_bytes key_of key rs).0

  pub lookup_remove : (rs : List Row) → Sorted rs → lookup key (remove_key key rs) ≡ none
  unfolding remove_key lookup
  lookup_remove rs s = ap value_of (remove_record compare_bytes bytes_order key_of key rs s)

  -- another key keeps its value
  pub lookup_remove_other : (j : List ℕ) → (j ≡ key → ⊥) → (rs : List Row) → Sorted rs → lookup j (remove_key key rs) ≡ lookup j rs
  unfolding remove_key lookup
  lookup_remove_other j n rs s = ap value_of (remove_other compare_bytes bytes_order key_of key j n rs s)

-- ---- the lookups say the rows

same_parts : (x y : Row) → x.key ≡ y.key → x.value ≡ y.value → x ≡ y
same_parts x y k v = ap (λ (l : List ℕ). row_of l x.value) k ∙ ap (row_of y.key) v

-- a key's row, by its value
same_row : (key : List ℕ) (xs ys : List Row) → lookup key xs ≡ lookup key ys → record_of compare_bytes key_of key xs ≡ record_of compare_bytes key_of key ys
unfolding lookup
same_row key xs ys e = told (record_of compare_bytes key_of key xs) refl (record_of compare_bytes key_of key ys) refl e
  where
    told : (o : Option Row) → record_of compare_bytes key_of key xs ≡ o → (p : Option Row) → record_of compare_bytes key_of key ys ≡ p → value_of o ≡ value_of p → o ≡ p
    told none a none b e = refl
    told none a (some y) b e = cc
    told (some x) a none b e = cc
    told (some x) a (some y) b e =
        let k : x.key ≡ y.key = record_key compare_bytes bytes_order key_of key xs x a ∙ sym (record_key compare_bytes bytes_order key_of key ys y b) in
        let v : x.value ≡ y.value = cc in
        ap some (same_parts x y k v)

pub same_lookups : (xs ys : List Row) → Sorted xs → Sorted ys → ((key : List ℕ) → lookup key xs ≡ lookup key ys) → xs ≡ ys
same_lookups xs ys s t h = same_records compare_bytes bytes_order key_of xs ys s t (λ key. same_row key xs ys (h key))

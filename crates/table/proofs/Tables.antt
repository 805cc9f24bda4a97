-- The laws of a table: what is found, set and removed in the bytes is what is meant on its rows.
-- Assumes nothing.
use mathlib.Core.Path.{◌≡◌, refl}
use mathlib.Core.Bool.{Bool, true, false, cond}
use mathlib.Core.List.{List, [], ◌∷◌, ◌++◌}
use Prim.Native.Nat.{ℕ, ◌+◌, ◌-◌, ◌*◌, ◌/◌, ◌≤◌}
use native.Mathlib.Omega.{arith}
use borrow.Author.Tests.{le-leb, lt-leb}
use lib.Dec.{leb}
use lib.ListN.{length, length-append}
use Rattle.fields.specs.Order.{compare_bytes}
use Rattle.fields.proofs.Cases.{case_b, tests}
use Rattle.refusal.specs.Answer.{refused, accepted}
use Rattle.records.specs.Sorted.{place_of}
use Rattle.std.specs.declared.result.Result.{Result}
use Rattle.std.specs.declared.result.Result.TheVariants.{Ok, Err}
use Rattle.records.proofs.Dense.{dense_length, dense_changed, dense_inserted, dense_removed}
use Rattle.records.proofs.Sorted.{bytes_order, place_at, place_gap}
use Rattle.records.proofs.Halving.{halve_dense}
use Rattle.table.specs.Row.{Row, key_of, fits, RowFits, row_bytes, empty_bytes, row_at}
use Rattle.table.specs.Table.{Held, set, remove_key, set_in, table_of}
use Rattle.table.specs.Change.{order_in, used_in, found_of, changed, insert_of, set_at, set_of, remove_at, remove_of, result_in}
use Rattle.table.proofs.Rows.{fits_true, length_row, row_back, empty_is}
use Rattle.table.proofs.Lookups.{set_sorted, set_fits, remove_sorted, remove_fits, remove_most}

pub none_held : (room : ℕ) → Held room []
none_held room = record { sorted = tt; fit = tt; inside = omega arith }

module _ (room : ℕ) where
  pub table_length : (rs : List Row) → 320 * length rs ≤ room → length (table_of room rs) ≡ room
  table_length rs h = dense_length row_bytes 320 length_row room rs h

  -- all the rows have records
  used_all : (rs : List Row) → 320 * length rs ≤ room → used_in (table_of room rs) (length rs) ≡ length rs
  used_all rs h = rw (table_length rs h) (omega arith)

  pub find_is : (key : List ℕ) (rs : List Row) → Held room rs → found_of (table_of room rs) (length rs) key ≡ place_of compare_bytes key_of key rs
  unfolding found_of order_in
  find_is key rs h =
      rw (used_all rs h.inside) (halve_dense compare_bytes bytes_order key_of key row_bytes 320 length_row row_at RowFits row_back room rs h.sorted h.fit)

  -- ---- a row set

  set_standing : (row : Row) (rs before : List Row) (r : Row) (after : List Row) → rs ≡ before ++ (r ∷ after) → set row rs ≡ before ++ (row ∷ after) → 320 * length rs ≤ room
      → set_at (Ok (length before)) (table_of room rs) (length rs) row ≡ result_in room rs (cond (leb (length (set row rs)) (room / 320)) (accepted (set row rs)) (refused 9))
  set_standing row rs before r after w e h =
      let n : length (before ++ (row ∷ after)) ≡ length rs = rw w (simp length-append) in
      rw (e, n, le-leb (length rs) (room / 320) (omega arith), n, w, dense_changed row_bytes 320 length_row room before r after row)

  set_missing : (row : Row) (rs before after : List Row) → rs ≡ before ++ after → set row rs ≡ before ++ (row ∷ after) → 320 * length rs ≤ room
      → set_at (Err (length before)) (table_of room rs) (length rs) row ≡ result_in room rs (cond (leb (length (set row rs)) (room / 320)) (accepted (set row rs)) (refused 9))
  unfolding insert_of
  set_missing row rs before after w e h =
      let n : length (before ++ (row ∷ after)) ≡ length rs + 1 = rw w (simp length-append (omega arith)) in
      let l = table_length rs h in
      case_b (leb (room / 320) (length rs))
      (λ p. rw (l, p, e, n, lt-leb (length rs + 1) (room / 320) (omega (arith, tests))))
      (λ p.
      let m : length rs + 1 ≤ room / 320 = omega (arith, tests) in
      rw (l, p, e, n, le-leb (length rs + 1) (room / 320) m, n, w, dense_inserted row_bytes 320 length_row room before after row (rw (← w) (omega arith))))

  pub set_is : (row : Row) (rs : List Row) → Held room rs → set_of (table_of room rs) (length rs) row ≡ result_in room rs (set_in (room / 320) row rs)
  unfolding set_of set_in set
  set_is row rs h =
      case_b (fits row)
      (λ f. rw (f, find_is row.key rs h, used_all rs h.inside) (told (place_of compare_bytes key_of row.key rs) refl))
      (λ f. rw f)
    where
      told : (p : Result ℕ ℕ) → place_of compare_bytes key_of row.key rs ≡ p → set_at p (table_of room rs) (length rs) row ≡ result_in room rs (cond (leb (length (set row rs)) (room / 320)) (accepted (set row rs)) (refused 9))
      told (Ok k) q =
          let t = place_at compare_bytes key_of row.key rs k q in
          rw (← t.place) (set_standing row rs t.before t.found t.after t.whole (t.changed (λ (r : Row). row) row) h.inside)
      told (Err k) q =
          let m = place_gap compare_bytes key_of row.key rs k q in
          rw (← m.place) (set_missing row rs m.before m.after m.whole (m.inserted (λ (r : Row). row) row) h.inside)

  -- what a set makes may be held again
  pub set_held : (row : Row) (rs new : List Row) → Held room rs → set_in (room / 320) row rs ≡ accepted new → Held room new
  unfolding set_in
  set_held row rs new h e = told (fits row) refl (leb (length (set row rs)) (room / 320)) refl e
    where
      told : (f : Bool) → fits row ≡ f → (l : Bool) → leb (length (set row rs)) (room / 320) ≡ l → cond f (cond l (accepted (set row rs)) (refused 9)) (refused 8) ≡ accepted new → Held room new
      told false f l m e = let z : ◌≡◌ {A = ℕ} 0 1 = cc in absurd (omega arith)
      told true f false m e = let z : ◌≡◌ {A = ℕ} 0 1 = cc in absurd (omega arith)
      told true f true m e =
          let n : set row rs ≡ new = cc in
          rw (← n) (record { sorted = set_sorted row rs h.sorted; fit = set_fits row rs (fits_true row f) h.fit; inside = omega (arith, tests) })

  -- ---- a key removed

  remove_standing : (key : List ℕ) (rs before : List Row) (r : Row) (after : List Row) → rs ≡ before ++ (r ∷ after) → remove_key key rs ≡ before ++ after → 320 * length rs ≤ room
      → remove_at (Ok (length before)) (table_of room rs) (length rs) ≡ changed (accepted (length (remove_key key rs))) (table_of room (remove_key key rs))
  remove_standing key rs before r after w e h =
      let n : length (before ++ after) ≡ length rs - 1 = rw w (simp length-append (omega arith)) in
      rw (e, n, w, dense_removed row_bytes 320 length_row room before r after empty_bytes empty_is (rw (← w) h))

  pub remove_is : (key : List ℕ) (rs : List Row) → Held room rs → remove_of (table_of room rs) (length rs) key ≡ changed (accepted (length (remove_key key rs))) (table_of room (remove_key key rs))
  unfolding remove_of remove_key
  remove_is key rs h = rw (find_is key rs h, used_all rs h.inside) (told (place_of compare_bytes key_of key rs) refl)
    where
      told : (p : Result ℕ ℕ) → place_of compare_bytes key_of key rs ≡ p → remove_at p (table_of room rs) (length rs) ≡ changed (accepted (length (remove_key key rs))) (table_of room (remove_key key rs))
      told (Ok k) q =
          let t = place_at compare_bytes key_of key rs k q in
          rw (← t.place) (remove_standing key rs t.before t.found t.after t.whole t.removed h.inside)
      told (Err k) q = rw (place_gap compare_bytes key_of key rs k q).removed

  pub remove_held : (key : List ℕ) (rs : List Row) → Held room rs → Held room (remove_key key rs)
  remove_held key rs h =
      record { sorted = remove_sorted key rs h.sorted; fit = remove_fits key rs h.fit; inside = omega (arith, h.inside, remove_most key rs) }

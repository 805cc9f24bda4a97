-- A run in bytes: its rows are read back off the table, and a part that stopped stops the whole.
-- Assumes nothing.
use mathlib.Core.Path.{◌≡◌, refl, sym, ap, ◌∙◌}
use mathlib.Core.List.{List}
use Prim.Native.Nat.{ℕ, ◌/◌}
use lib.ListN.{length, replicate}
use Rattle.std.specs.declared.result.Result.{Result}
use Rattle.std.specs.declared.result.Result.TheVariants.{Ok, Err}
use Rattle.refusal.specs.declared.Refusal.{Refusal}
use Rattle.refusal.specs.Answer.{Answer, refused, accepted, by_answer, and_then}
use Rattle.refusal.proofs.Answers.{never_both, same_values}
use Rattle.records.specs.Dense.{records_of}
use Rattle.records.proofs.Dense.{length_read, dense_none, records_back}
use Rattle.table.specs.Row.{Row, row_bytes, row_at, RowFits}
use Rattle.table.specs.Table.{table_of, Held}
use Rattle.table.specs.Change.{Changed, changing, result_in}
use Rattle.table.proofs.Rows.{length_row, row_back}
use Rattle.table.proofs.Tables.{none_held, table_length}
use Rattle.store.specs.Change.{changed_by}
use Rattle.store.specs.Apply.{change_of}
use Rattle.store.specs.Effect.{Effect}
use Rattle.store.specs.Running.{rows_in, Tabled, Ran, ran, ran_to, ran_in}
use Rattle.store.proofs.Applies.{change_is}

-- ---- the rows of a table

rows_back : (room : ℕ) (rs : List Row) → Held room rs → rows_in (length rs) (table_of room rs) ≡ rs
rows_back room rs h = records_back row_bytes 320 length_row row_at RowFits row_back room rs h.fit

pub none_tabled : (t : List ℕ) → t ≡ replicate (length t) 0 → Tabled t 0
unfolding records_of
none_tabled t e = record { is = e ∙ sym (dense_none row_bytes (length t)); held = none_held (length t) }

pub rows_ran : (room : ℕ) (t : List ℕ) (n : ℕ) → Tabled t n → length t ≡ room → ran n t ≡ ran_in room (accepted (rows_in n t))
rows_ran room t n tabled l = ap (λ (k : ℕ). ran k t) (sym (length_read 320 row_at n t)) ∙ ap (ran (length (rows_in n t))) (rw l at tabled.is)

-- a run whose rows may be held, in bytes: they are the table's rows
pub record Went (room : ℕ) (x : Answer (List Row)) (n : ℕ) (t : List ℕ) : Type 0 where
  pub rows_are : x ≡ accepted (rows_in n t)
  pub tabled : Tabled t n
  pub room_is : length t ≡ room

pub went : (room : ℕ) (x : Answer (List Row)) → ((new : List Row) → x ≡ accepted new → Held room new) → (r : Result ℕ Refusal) (n : ℕ) (t : List ℕ) → r ≡ Ok n → ran_to r t ≡ ran_in room x → Went room x n t
went room (refused number) held r n t e a = never_both (sym (rw e at a))
went room (accepted new) held r n t e a =
    let h = held new refl in
    let f : ran n t ≡ ran (length new) (table_of room new) = rw e at a in
    let count : n ≡ length new = ap (λ (r : Ran). r.count) (same_values f) in
    let table : t ≡ table_of room new = ap (λ (r : Ran). r.table) (same_values f) in
    let back : rows_in n t ≡ new = rw (count, table) (rows_back room new h) in
    let l : length t ≡ room = rw table (table_length room new h.inside) in
    record { rows_are = rw back; tabled = record { is = rw (back, l) table; held = rw (back, l) h }; room_is = l }

-- a part that gave no rows
pub stopped : (room : ℕ) (x : Answer (List Row)) (go : List Row → Answer (List Row)) (refusal : Refusal) (t : List ℕ) → ran_to (Err refusal) t ≡ ran_in room x → ran_to (Err refusal) t ≡ ran_in room (and_then x go)
stopped room (refused number) go refusal t e = e
stopped room (accepted new) go refusal t e = never_both e

-- ---- one entry

abbrev ran_of : Changed → Answer Ran
ran_of c = by_answer c.answer (λ number. refused number) (λ n. ran n c.table)

result_ran : (room : ℕ) (old : List Row) (x : Answer (List Row)) → ran_of (result_in room old x) ≡ ran_in room x
result_ran room old (refused number) = refl
result_ran room old (accepted new) = refl

pub change_ran : (room : ℕ) (table : List ℕ) (n : ℕ) (x : Effect) (r : Result ℕ Refusal) (t : List ℕ) → Tabled table n → length table ≡ room → changing r t ≡ change_of x table n → ran_to r t ≡ ran_in room (changed_by (room / 320) x (rows_in n table))
change_ran room table n x r t tabled l a =
    let rs = rows_in n table in
    let h : Held room rs = rw l at tabled.held in
    let is : table ≡ table_of room rs = rw l at tabled.is in
    let b : change_of x table n ≡ result_in room rs (changed_by (room / 320) x rs) =
    ap (λ (s : List ℕ). change_of x s n) is ∙ ap (change_of x (table_of room rs)) (sym (length_read 320 row_at n table)) ∙ change_is room rs h x in
    ap ran_of (a ∙ b) ∙ result_ran room rs (changed_by (room / 320) x rs)

-- Worked examples, by computation. The keys are `a`, `a.` and `b`.
-- Assumes nothing.
use Rattle.std.specs.Prelude.{◌≡◌, refl, true, false, [], ◌∷◌, ◌++◌, replicate}
use Rattle.std.proofs.Math.Option.{none, some}
use Rattle.fields.specs.Le.{le_of, le_bytes}
use Rattle.fields.specs.Order.{compare_bytes}
use Rattle.refusal.specs.Answer.{refused, accepted}
use Rattle.records.specs.Dense.{dense, bytes_of}
use Rattle.records.specs.Sorted.{record_of, put, remove}
use Rattle.records.specs.Halving.{found_in, halved, halve}
use Rattle.std.specs.declared.result.Result.TheVariants.{Ok, Err}
use Rattle.table.specs.Row.{Row, row_of, fits, padded, marked_bytes, row_bytes, empty_bytes, row_record_at, row_at}
use Rattle.table.specs.Table.{set, remove_key, lookup, set_in, table_of, live_rows}
use Rattle.table.specs.Change.{order_in, found_of, changed, insert_of, set_of, remove_of}

abbrev a : Row
a = row_of (97 ∷ []) (1 ∷ [])

abbrev a_dot : Row
a_dot = row_of (97 ∷ 46 ∷ []) (2 ∷ [])

abbrev b : Row
b = row_of (98 ∷ []) (3 ∷ 4 ∷ [])

-- ---- records

of_b : row_bytes b ≡ (1 ∷ 1 ∷ 2 ∷ 0 ∷ 98 ∷ []) ++ (replicate 63 0 ++ (3 ∷ 4 ∷ replicate 250 0))
unfolding marked_bytes padded le_bytes
of_b = refl

b_back : row_at (row_bytes b) ≡ b
unfolding row_at row_record_at marked_bytes padded le_bytes le_of
b_back = refl

-- "Key of 64 and value of 252 fit; 65 and 253 are refused."
most : fits (row_of (replicate 64 97) (replicate 252 0)) ≡ true
unfolding fits
most = refl

key_of_65 : fits (row_of (replicate 65 97) []) ≡ false
unfolding fits
key_of_65 = refl

value_of_253 : fits (row_of [] (replicate 253 0)) ≡ false
unfolding fits
value_of_253 = refl

-- ---- rows

-- "a proper prefix first"
set_between : set a_dot (a ∷ b ∷ []) ≡ a ∷ a_dot ∷ b ∷ []
unfolding set put compare_bytes
set_between = refl

set_again : set (row_of (97 ∷ []) []) (a ∷ b ∷ []) ≡ row_of (97 ∷ []) [] ∷ b ∷ []
unfolding set put compare_bytes
set_again = refl

-- a longer key that shares a prefix is another key
remove_longer : remove_key (97 ∷ 46 ∷ []) (a ∷ b ∷ []) ≡ a ∷ b ∷ []
unfolding remove_key remove compare_bytes
remove_longer = refl

remove_a : remove_key (97 ∷ []) (a ∷ a_dot ∷ b ∷ []) ≡ a_dot ∷ b ∷ []
unfolding remove_key remove compare_bytes
remove_a = refl

lookup_b : lookup (98 ∷ []) (a ∷ b ∷ []) ≡ some (3 ∷ 4 ∷ [])
unfolding lookup record_of compare_bytes
lookup_b = refl

lookup_none : lookup (97 ∷ 46 ∷ []) (a ∷ b ∷ []) ≡ none
unfolding lookup record_of compare_bytes
lookup_none = refl

-- two records: a new row finds none, a row that is there is set all the same, and 8 goes before 9
full_for_new : set_in 2 a_dot (a ∷ b ∷ []) ≡ refused 9
unfolding set_in fits set put compare_bytes
full_for_new = refl

full_not_for_old : set_in 2 b (a ∷ b ∷ []) ≡ accepted (a ∷ b ∷ [])
unfolding set_in fits set put compare_bytes
full_not_for_old = refl

eight_before_nine : set_in 2 (row_of (replicate 65 97) []) (a ∷ b ∷ []) ≡ refused 8
unfolding set_in fits
eight_before_nine = refl

-- ---- bytes

-- a record whose mark is 0 is no row
live_ones : live_rows 3 (row_bytes a ++ (empty_bytes ++ row_bytes b)) ≡ a ∷ b ∷ []
unfolding live_rows row_at row_record_at marked_bytes padded empty_bytes le_bytes le_of
live_ones = refl

first_set : set_of (replicate 640 0) 0 b ≡ changed (accepted 1) (table_of 640 (b ∷ []))
unfolding set_of insert_of found_of found_in halved halve fits dense bytes_of marked_bytes padded le_bytes
first_set = refl

set_before : set_of (table_of 640 (b ∷ [])) 1 a ≡ changed (accepted 2) (table_of 640 (a ∷ b ∷ []))
unfolding set_of insert_of found_of found_in halved halve order_in row_at row_record_at compare_bytes fits dense bytes_of marked_bytes padded le_bytes le_of
set_before = refl

-- a used count is worth no more than the records
no_record : set_of [] 7 a ≡ changed (refused 9) []
unfolding set_of insert_of found_of found_in halved halve fits
no_record = refl

-- nothing of the row is left
remove_last : remove_of (table_of 640 (a ∷ b ∷ [])) 2 (98 ∷ []) ≡ changed (accepted 1) (table_of 640 (a ∷ []))
unfolding remove_of found_of found_in halved halve order_in row_at row_record_at compare_bytes dense bytes_of marked_bytes padded le_bytes le_of empty_bytes
remove_last = refl

found_behind : found_of (table_of 640 (a ∷ b ∷ [])) 2 (97 ∷ 46 ∷ []) ≡ Err 1
unfolding found_of found_in halved halve order_in row_at row_record_at compare_bytes dense bytes_of marked_bytes padded le_bytes le_of
found_behind = refl

found_there : found_of (table_of 640 (a ∷ b ∷ [])) 2 (98 ∷ []) ≡ Ok 1
unfolding found_of found_in halved halve order_in row_at row_record_at compare_bytes dense bytes_of marked_bytes padded le_bytes le_of
found_there = refl

-- Worked examples, by computation. The records are numbers of 2 bytes, or stand for themselves.
-- Assumes nothing.
use Rattle.std.specs.Prelude.{◌≡◌, refl, List, [], ◌∷◌, ℕ, ◌+◌, ◌*◌}
use Rattle.std.proofs.Math.Option.{none, some}
use Rattle.fields.specs.Le.{le_of, le_bytes, num_at}
use Rattle.records.specs.Dense.{bytes_of, dense, records_of}
use Rattle.records.specs.Sorted.{itself, compare_numbers, place_of, record_of, put, remove}
use Rattle.records.specs.Halving.{halve, halved, found_in}
use Rattle.records.specs.Moves.{moved_up, moved_down}
use Rattle.std.specs.declared.result.Result.TheVariants.{Ok, Err}

two_of_three : dense (le_bytes 2) 6 (513 ∷ 3 ∷ []) ≡ 1 ∷ 2 ∷ 3 ∷ 0 ∷ 0 ∷ 0 ∷ []
unfolding dense bytes_of le_bytes
two_of_three = refl

read_back : records_of 2 (num_at 0 2) 2 (1 ∷ 2 ∷ 3 ∷ 0 ∷ 0 ∷ 0 ∷ []) ≡ 513 ∷ 3 ∷ []
unfolding records_of le_of
read_back = refl

-- ---- sorted

abbrev tens : List ℕ
tens = 10 ∷ 20 ∷ 30 ∷ []

there : place_of compare_numbers itself 20 tens ≡ Ok 1
unfolding place_of compare_numbers
there = refl

between : place_of compare_numbers itself 21 tens ≡ Err 2
unfolding place_of compare_numbers
between = refl

behind : place_of compare_numbers itself 31 tens ≡ Err 3
unfolding place_of compare_numbers
behind = refl

record_there : record_of compare_numbers itself 30 tens ≡ some 30
unfolding record_of compare_numbers
record_there = refl

record_missing : record_of compare_numbers itself 29 tens ≡ none
unfolding record_of compare_numbers
record_missing = refl

changed : put compare_numbers itself 20 (λ n. n + 5) 0 tens ≡ 10 ∷ 25 ∷ 30 ∷ []
unfolding put compare_numbers
changed = refl

inserted : put compare_numbers itself 21 (λ n. n + 5) 21 tens ≡ 10 ∷ 20 ∷ 21 ∷ 30 ∷ []
unfolding put compare_numbers
inserted = refl

removed : remove compare_numbers itself 20 tens ≡ 10 ∷ 30 ∷ []
unfolding remove compare_numbers
removed = refl

none_removed : remove compare_numbers itself 21 tens ≡ tens
unfolding remove compare_numbers
none_removed = refl

-- ---- halved: among as many records as the transactions may have, record i of key 10 * i

found_first : found_in (λ i. compare_numbers (10 * i) 0) 65_536 ≡ Ok 0
unfolding found_in halved halve compare_numbers
found_first = refl

found_last : found_in (λ i. compare_numbers (10 * i) 655_350) 65_536 ≡ Ok 65_535
unfolding found_in halved halve compare_numbers
found_last = refl

missing : found_in (λ i. compare_numbers (10 * i) 71) 65_536 ≡ Err 8
unfolding found_in halved halve compare_numbers
missing = refl

missing_behind : found_in (λ i. compare_numbers (10 * i) 655_351) 65_536 ≡ Err 65_536
unfolding found_in halved halve compare_numbers
missing_behind = refl

none_at_all : found_in (λ i. compare_numbers (10 * i) 7) 0 ≡ Err 0
unfolding found_in halved halve
none_at_all = refl

-- ---- moved

-- bytes that move over themselves
up_by_two : moved_up (1 ∷ 2 ∷ 3 ∷ 4 ∷ 5 ∷ 6 ∷ []) 1 3 2 ≡ 1 ∷ 2 ∷ 3 ∷ 2 ∷ 3 ∷ 4 ∷ []
unfolding moved_up
up_by_two = refl

-- one byte too far
up_by_three : moved_up (1 ∷ 2 ∷ 3 ∷ 4 ∷ 5 ∷ 6 ∷ []) 1 3 3 ≡ 1 ∷ 2 ∷ 3 ∷ 4 ∷ 5 ∷ 6 ∷ []
unfolding moved_up
up_by_three = refl

down_by_two : moved_down (1 ∷ 2 ∷ 3 ∷ 4 ∷ 5 ∷ 6 ∷ []) 1 3 2 ≡ 1 ∷ 4 ∷ 5 ∷ 6 ∷ 5 ∷ 6 ∷ []
unfolding moved_down
down_by_two = refl

-- one byte is missing
down_by_three : moved_down (1 ∷ 2 ∷ 3 ∷ 4 ∷ 5 ∷ 6 ∷ []) 1 3 3 ≡ 1 ∷ 2 ∷ 3 ∷ 4 ∷ 5 ∷ 6 ∷ []
unfolding moved_down
down_by_three = refl

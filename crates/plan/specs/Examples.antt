-- Worked examples of the plan, by computation.
-- Assumes nothing.
use Rattle.std.specs.Prelude.{◌≡◌, refl, true, false, List, ◌++◌, ℕ, ◌-◌, ◌^◌}
use Rattle.fields.specs.Le.{le_of, le_bytes}
use Rattle.refusal.specs.Answer.{refused, accepted}
use Rattle.directory.specs.Lent.{fits_of}
use Rattle.directory.specs.Record.{record_at, record_bytes, records_of}
use Rattle.directory.specs.Rule.{lies_of, follows_of, rule_from, directory_rule, test_of}
use Rattle.plan.specs.Plan.{last_in, new_segment, next_of, new_segment_of, append_test_of, behind_of, plan_of}

-- a record's bytes
abbrev at : ℕ → ℕ → ℕ → List ℕ
at id start length = record_bytes (record { id = id; start = start; length = length })

-- ---- opening

empty_directory : new_segment_of 100 (at 0 0 0) 0 ≡ accepted (record { id = 1; start = 0; length = 0 })
unfolding new_segment_of next_of test_of fits_of directory_rule rule_from records_of last_in new_segment record_bytes le_bytes
empty_directory = refl

-- the gap before the last segment isn't used
at_the_last_end : new_segment_of 100 (at 7 50 20 ++ at 0 0 0) 1 ≡ accepted (record { id = 8; start = 70; length = 0 })
unfolding new_segment_of next_of test_of fits_of directory_rule rule_from follows_of lies_of records_of record_at last_in new_segment record_bytes le_of le_bytes
at_the_last_end = refl

-- a segment with no bytes left for it is opened all the same
full_area : new_segment_of 70 (at 7 50 20 ++ at 0 0 0) 1 ≡ accepted (record { id = 8; start = 70; length = 0 })
unfolding new_segment_of next_of test_of fits_of directory_rule rule_from follows_of lies_of records_of record_at last_in new_segment record_bytes le_of le_bytes
full_area = refl

no_unused_record : new_segment_of 100 (at 7 50 20) 1 ≡ refused 5
unfolding new_segment_of next_of test_of fits_of directory_rule rule_from follows_of lies_of records_of record_at last_in new_segment record_bytes le_of le_bytes
no_unused_record = refl

-- 4 goes before 5
no_next_id_lem : new_segment_of 100 (at (2 ^ 64 - 1) 50 20) 1 ≡ refused 4
unfolding new_segment_of next_of test_of fits_of directory_rule rule_from follows_of lies_of records_of record_at last_in new_segment record_bytes le_of le_bytes
no_next_id_lem = refl

-- 2 goes before both
no_sound_directory : new_segment_of 69 (at (2 ^ 64 - 1) 50 20) 1 ≡ refused 2
unfolding new_segment_of test_of fits_of directory_rule rule_from follows_of lies_of records_of record_at record_bytes le_of le_bytes
no_sound_directory = refl

-- ---- appending

no_active_segment : append_test_of 100 (at 0 0 0) 0 ≡ refused 2
unfolding append_test_of test_of fits_of directory_rule rule_from records_of record_bytes le_bytes
no_active_segment = refl

-- below the bound, an entry that passes it stays in the active segment
passes_the_bound : plan_of 21 100 (at 7 50 20) 1 17 ≡ accepted (record { at = 70; k = 0; segment = record { id = 7; start = 50; length = 50 }; rotated = false })
unfolding plan_of behind_of record_at record_bytes le_of le_bytes
passes_the_bound = refl

one_byte_too_many : plan_of 21 100 (at 7 50 20) 1 18 ≡ refused 5
unfolding plan_of behind_of record_at record_bytes le_of le_bytes
one_byte_too_many = refl

at_the_bound : plan_of 20 100 (at 7 50 20 ++ at 0 0 0) 1 17 ≡ accepted (record { at = 70; k = 1; segment = record { id = 8; start = 70; length = 30 }; rotated = true })
unfolding plan_of next_of behind_of new_segment record_at record_bytes le_of le_bytes
at_the_bound = refl

-- "Bound 0 rotates before every append and leaves the opening segment empty."
bound_0 : plan_of 0 100 (at 1 0 0 ++ at 0 0 0) 1 0 ≡ accepted (record { at = 0; k = 1; segment = record { id = 2; start = 0; length = 13 }; rotated = true })
unfolding plan_of next_of behind_of new_segment record_at record_bytes le_of le_bytes
bound_0 = refl

-- 4 goes before 5, where both an unused record and room are wanting
rotated_without_id : plan_of 20 70 (at (2 ^ 64 - 1) 50 20) 1 0 ≡ refused 4
unfolding plan_of next_of record_at record_bytes le_of le_bytes
rotated_without_id = refl

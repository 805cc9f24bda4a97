-- Worked examples of the writer's state and of the entry call, by computation.
-- Assumes nothing.
use Rattle.std.specs.Prelude.{◌≡◌, ℕ, ◌-◌, ◌^◌, List, replicate, refl}
use Rattle.std.proofs.Math.Option.{some}
use Rattle.fields.specs.Le.{le_of, le_bytes}
use Rattle.refusal.specs.Answer.{accepted}
use Rattle.directory.specs.Lent.{fits_of}
use Rattle.directory.specs.Record.{record_at, record_bytes, records_of}
use Rattle.directory.specs.Rule.{lies_of, follows_of, rule_from, directory_rule, test_of}
use Rattle.payload.specs.Content.{commit, fixed_bytes, payload_of, well_formed}
use Rattle.plan.specs.Plan.{append_test_of, behind_of, plan_of, plan_append_of}
use Rattle.segment.specs.Writing.{fresh, counted, refused_with, append_entry_of, append_of}

-- a record's bytes
abbrev at : ℕ → ℕ → ℕ → List ℕ
at id start length = record_bytes (record { id = id; start = start; length = length })

-- ---- the state

-- the first entry of a segment sets the first number
first_entry : counted (fresh 100) 7 ≡ record { max_segment_size = 100; entry_count = 1; first_lsn = 7; last_lsn = 7 }
unfolding counted
first_entry = refl

-- "a first number of 0 counts as unset"; "the count wraps at 2^64"
unset_first : counted (record { max_segment_size = 100; entry_count = 2 ^ 64 - 1; first_lsn = 0; last_lsn = 3 }) 9 ≡ record { max_segment_size = 100; entry_count = 0; first_lsn = 9; last_lsn = 9 }
unfolding counted
unset_first = refl

-- document 01, "Bench readings": commit, number 7, time 1 takes 33 bytes with its header
commit_7 : (append_of (fresh 100) (replicate 40 0) (at 1 0 0) 1 5 7 1 (some commit)).answer ≡ accepted (record { used = 1; len = 33 })
unfolding append_of append_entry_of well_formed plan_append_of plan_of behind_of append_test_of test_of fits_of directory_rule rule_from follows_of lies_of records_of record_at record_bytes le_of le_bytes payload_of fixed_bytes
commit_7 = refl

-- one byte fewer has no room for it, and nothing changes
commit_7_refused : append_of (fresh 100) (replicate 32 0) (at 1 0 0) 1 5 7 1 (some commit) ≡ refused_with 5 (fresh 100) (replicate 32 0) (at 1 0 0)
unfolding append_of append_entry_of well_formed plan_append_of plan_of behind_of append_test_of test_of fits_of directory_rule rule_from follows_of lies_of records_of record_at record_bytes le_of le_bytes payload_of fixed_bytes
commit_7_refused = refl

-- Worked examples, by computation.
-- Assumes nothing.
use Rattle.std.specs.Prelude.{◌≡◌, refl, false, List, ℕ, replicate}
use Rattle.std.proofs.Math.Option.{some}
use Rattle.fields.specs.Le.{le_of, le_bytes}
use Rattle.directory.specs.Lent.{fits_of}
use Rattle.directory.specs.Record.{record_at, record_bytes, records_of}
use Rattle.directory.specs.Rule.{lies_of, follows_of, rule_from, directory_rule, test_of}
use Rattle.std.specs.declared.option.Option.TheVariants.{None, Some}
use Rattle.payload.specs.Content.{commit, fixed_bytes, payload_of, well_formed}
use Rattle.refusal.specs.Answer.{refused}
use Rattle.recovery.specs.declared.Next.TheVariants.{Exhausted}
use Rattle.plan.specs.Plan.{behind_of, plan_of, plan_append_of, append_test_of}
use Rattle.segment.specs.Writing.{counted, fresh, append_entry_of, append_of}
use Rattle.ringwal_c.specs.Naming.{parse_answer}
use Rattle.ringwal_c.specs.Recovering.{next_state, recover_answer}
use Rattle.ringwal_c.specs.Writing.{writer_of, appended, append_for, written, in_place_of}

-- a directory of one segment, empty
abbrev one : List ℕ
one = record_bytes (record { id = 1; start = 0; length = 0 })

-- a commit, number 7, time 1, takes 33 bytes; one byte fewer has no room for it, and nothing changes, the used count neither
no_room : append_for (append_of (fresh 100) (replicate 32 0) one 1 5 7 1 (some commit)) 1 ≡ appended (record { refusal = 5; len = 0; writer = writer_of (fresh 100) }) 1 one (replicate 32 0)
unfolding append_of append_entry_of well_formed plan_append_of plan_of behind_of append_test_of test_of fits_of directory_rule rule_from follows_of lies_of records_of record_at record_bytes le_of le_bytes payload_of fixed_bytes
no_room = refl

-- with room: the answer, and in place the same state behind the pointer
room : (append_for (append_of (fresh 100) (replicate 40 0) one 1 5 7 1 (some commit)) 1).answer ≡ record { refusal = 0; len = 33; writer = writer_of (counted (fresh 100) 5) }
unfolding append_of append_entry_of well_formed plan_append_of plan_of behind_of append_test_of test_of fits_of directory_rule rule_from follows_of lies_of records_of record_at record_bytes le_of le_bytes payload_of fixed_bytes
room = refl

in_place : in_place_of (appended (record { refusal = 0; len = 33; writer = writer_of (fresh 100) }) 2 one one) ≡ written (record { refusal = 0; len = 33 }) (writer_of (fresh 100)) 2 one one
in_place = refl

-- "A refused answer's counts are all 0."
refused_counts : (recover_answer (refused 7)).committed ≡ 0
refused_counts = refl

exhausted : next_state Exhausted ≡ 2
exhausted = refl

-- `wal-+5.log` reads as 5 and isn't kept
not_kept : parse_answer (Some (record { id = 5; kept = false })) ≡ record { is_name = 1; id = 5; kept = 0 }
not_kept = refl

no_name : parse_answer None ≡ record { is_name = 0; id = 0; kept = 0 }
no_name = refl

-- Worked examples, by computation: document 01's "Bench readings" of recovery.
-- Assumes nothing.
use Rattle.std.specs.Prelude.{◌≡◌, refl, List, [], ◌∷◌, ◌++◌, map, ℕ, ◌+◌, ◌-◌, ◌*◌, ◌^◌, length, take, replicate}
use Rattle.fields.specs.Le.{le_of, le_bytes}
use Rattle.crc32.specs.Crc.{bit_step, bit_steps, byte_step, register, crc32_of}
use Rattle.utf8.specs.Grammar as Utf8
use Rattle.utf8.specs.Grammar.{is_utf8, completes, any, after, utf8_char, utf8_1, utf8_2, utf8_3, utf8_4, tail}
use Rattle.header.specs.Header.{header_of, header_bytes, entry_bytes, header_at, valid_for}
use Rattle.payload.specs.Kind.{by_kind}
use Rattle.payload.specs.Content.{insert, commit, abort, fixed_bytes, part_bytes, payload_of}
use Rattle.entry.specs.Decode.{part_at, key_at, pair_at, key_and_part, decode_of}
use Rattle.refusal.specs.Answer.{Answer, refused, accepted}
use Rattle.records.specs.Sorted.{compare_numbers, put}
use Rattle.directory.specs.Image.{segment_bytes}
use Rattle.directory.specs.Lent.{fits_of}
use Rattle.directory.specs.Record.{record_at, record_bytes, records_of}
use Rattle.directory.specs.Rule.{lies_of, follows_of, rule_from, directory_rule, test_of}
use Rattle.scan.specs.Step.{judge_of, step_from}
use Rattle.scan.specs.Walk.{walk, walk_from}
use Rattle.scan.specs.Read.{read_from, read_segment}
use Rattle.lists.specs.Entries.{highest_in}
use Rattle.lists.specs.Tally.{tally_of}
use Rattle.lists.specs.Transactions.{noted, begun, note, note_all, transactions_of}
use Rattle.recovery.specs.Log.{read_log}
use Rattle.recovery.specs.Recover.{next_of, stats_of, recovered_of, read_into, lists_test_of, recover_of}
use Rattle.recovery.specs.Checkpoint.{checkpoint_at, advance_of, target_after, checkpoint_of}
use Rattle.recovery.specs.declared.Recovered.{Recovered}
use Rattle.recovery.specs.declared.Next.{Next}
use Rattle.recovery.specs.declared.Next.TheVariants.{Unchanged, Number, Exhausted}

-- the log of some entries
log_of : List (List ℕ) → List ℕ
log_of [] = []
log_of (p ∷ ps) = entry_bytes p ++ log_of ps

-- what recovery answers of one segment, with lists of n records each
answer : (n : ℕ) → (image : List ℕ) → Answer Recovered
answer n image =
    (recover_of image (record_bytes (record { id = 1; start = 0; length = length image })) 1 (replicate (32 * n) 0) (replicate (24 * n) 0)).answer

abbrev counts : (committed aborted incomplete partial checksum entries : ℕ) → Next → Answer Recovered
counts committed aborted incomplete partial checksum entries next =
    accepted
    (record {
      stats = record {
        total_transactions = committed + aborted + incomplete;
        committed = committed;
        aborted = aborted;
        incomplete = incomplete;
        partial_writes = partial;
        checksum_failures = checksum;
      };
      entries = entries;
      next = next;
    })

-- "Insert number 1 of key `a`, one value byte .. Followed by its commit, 84 bytes."
insert_commit : List ℕ
insert_commit = log_of (payload_of 1 5 (insert (97 ∷ []) (9 ∷ [])) ∷ payload_of 1 6 commit ∷ [])

-- "P cuts: 84 committed 1; 83 incomplete 1, partial 1; 51 incomplete 1, partial 0; 50, 13, 12 and 1 total 0, partial 1;
-- 0 all zero."
cuts : map (λ n. answer 2 (take n insert_commit)) (84 ∷ 83 ∷ 51 ∷ 50 ∷ 13 ∷ 12 ∷ 1 ∷ 0 ∷ []) ≡ counts 1 0 0 0 0 2 (Number 2) ∷ counts 0 0 1 1 0 1 (Number 2) ∷ counts 0 0 1 0 0 1 (Number 2) ∷ counts 0 0 0 1 0 0 Unchanged ∷ counts 0 0 0 1 0 0 Unchanged ∷ counts 0 0 0 1 0 0 Unchanged ∷ counts 0 0 0 1 0 0 Unchanged ∷ counts 0 0 0 0 0 0 Unchanged ∷ []
unfolding answer log_of insert_commit recover_of lists_test_of test_of fits_of directory_rule rule_from follows_of lies_of records_of record_at record_bytes read_log segment_bytes read_into transactions_of note_all note put compare_numbers noted begun recovered_of stats_of tally_of highest_in next_of entry_bytes payload_of fixed_bytes part_bytes header_bytes header_of le_bytes read_segment read_from walk_from walk step_from judge_of header_at valid_for le_of crc32_of register byte_step bit_steps bit_step decode_of by_kind key_and_part pair_at key_at part_at is_utf8 completes any after Utf8.begun utf8_char utf8_1 utf8_2 utf8_3 utf8_4 tail
cuts = refl

-- "P: commit then abort of one number is a rollback."
commit_abort : answer 2 (log_of (payload_of 7 1 commit ∷ payload_of 7 2 abort ∷ [])) ≡ counts 0 1 0 0 0 2 (Number 8)
unfolding answer log_of recover_of lists_test_of test_of fits_of directory_rule rule_from follows_of lies_of records_of record_at record_bytes read_log segment_bytes read_into transactions_of note_all note put compare_numbers noted begun recovered_of stats_of tally_of highest_in next_of entry_bytes payload_of fixed_bytes part_bytes header_bytes header_of le_bytes read_segment read_from walk_from walk step_from judge_of header_at valid_for le_of crc32_of register byte_step bit_steps bit_step decode_of by_kind key_and_part pair_at key_at part_at is_utf8 completes any after Utf8.begun utf8_char utf8_1 utf8_2 utf8_3 utf8_4 tail
commit_abort = refl

-- "P: a header length of 2^64 - 1 is a partial write"
endless : answer 2 (replicate 8 255 ++ insert_commit) ≡ counts 0 0 0 1 0 0 Unchanged
unfolding answer log_of insert_commit recover_of lists_test_of test_of fits_of directory_rule rule_from follows_of lies_of records_of record_at record_bytes read_log segment_bytes read_into transactions_of note_all note put compare_numbers noted begun recovered_of stats_of tally_of highest_in next_of entry_bytes payload_of fixed_bytes part_bytes header_bytes header_of le_bytes read_segment read_from walk_from walk step_from judge_of header_at valid_for le_of crc32_of register byte_step bit_steps bit_step decode_of by_kind key_and_part pair_at key_at part_at is_utf8 completes any after Utf8.begun utf8_char utf8_1 utf8_2 utf8_3 utf8_4 tail
endless = refl

-- "A raw empty payload, then commit 9: recovery counts checksum 1 and no number"
raw_empty : answer 2 (log_of ([] ∷ payload_of 9 1 commit ∷ [])) ≡ counts 0 0 0 0 1 0 Unchanged
unfolding answer log_of recover_of lists_test_of test_of fits_of directory_rule rule_from follows_of lies_of records_of record_at record_bytes read_log segment_bytes read_into transactions_of note_all note put compare_numbers noted begun recovered_of stats_of tally_of highest_in next_of entry_bytes payload_of fixed_bytes part_bytes header_bytes header_of le_bytes read_segment read_from walk_from walk step_from judge_of header_at valid_for le_of crc32_of register byte_step bit_steps bit_step decode_of by_kind key_and_part pair_at key_at part_at is_utf8 completes any after Utf8.begun utf8_char utf8_1 utf8_2 utf8_3 utf8_4 tail
raw_empty = refl

-- the highest number has no next one
last_number : answer 1 (log_of (payload_of (2 ^ 64 - 1) 1 commit ∷ [])) ≡ counts 1 0 0 0 0 1 Exhausted
unfolding answer log_of recover_of lists_test_of test_of fits_of directory_rule rule_from follows_of lies_of records_of record_at record_bytes read_log segment_bytes read_into transactions_of note_all note put compare_numbers noted begun recovered_of stats_of tally_of highest_in next_of entry_bytes payload_of fixed_bytes part_bytes header_bytes header_of le_bytes read_segment read_from walk_from walk step_from judge_of header_at valid_for le_of crc32_of register byte_step bit_steps bit_step decode_of by_kind key_and_part pair_at key_at part_at is_utf8 completes any after Utf8.begun utf8_char utf8_1 utf8_2 utf8_3 utf8_4 tail
last_number = refl

-- a torn segment is not the end of the log: a good one follows it
torn_first : (recover_of (take 83 insert_commit ++ log_of (payload_of 2 1 commit ∷ [])) (record_bytes (record { id = 1; start = 0; length = 83 }) ++ record_bytes (record { id = 2; start = 83; length = 33 })) 2 (replicate 64 0) (replicate 48 0)).answer ≡ counts 1 0 1 1 0 2 (Number 3)
unfolding log_of insert_commit recover_of lists_test_of test_of fits_of directory_rule rule_from follows_of lies_of records_of record_at record_bytes read_log segment_bytes read_into transactions_of note_all note put compare_numbers noted begun recovered_of stats_of tally_of highest_in next_of entry_bytes payload_of fixed_bytes part_bytes header_bytes header_of le_bytes read_segment read_from walk_from walk step_from judge_of header_at valid_for le_of crc32_of register byte_step bit_steps bit_step decode_of by_kind key_and_part pair_at key_at part_at is_utf8 completes any after Utf8.begun utf8_char utf8_1 utf8_2 utf8_3 utf8_4 tail
torn_first = refl

-- 6 goes before 7: two entries of two numbers, and one record in each list
both_full : answer 1 (log_of (payload_of 7 1 commit ∷ payload_of 8 2 commit ∷ [])) ≡ refused 6
unfolding answer log_of recover_of lists_test_of test_of fits_of directory_rule rule_from follows_of lies_of records_of record_at record_bytes read_log segment_bytes read_into transactions_of note_all note put compare_numbers noted begun recovered_of stats_of tally_of highest_in next_of entry_bytes payload_of fixed_bytes part_bytes header_bytes header_of le_bytes read_segment read_from walk_from walk step_from judge_of header_at valid_for le_of crc32_of register byte_step bit_steps bit_step decode_of by_kind key_and_part pair_at key_at part_at is_utf8 completes any after Utf8.begun utf8_char utf8_1 utf8_2 utf8_3 utf8_4 tail
both_full = refl

-- ---- the checkpoint

-- "A checkpoint image not exactly 8 bytes reads as 0."
images : map (λ n. checkpoint_at (replicate n 1)) (0 ∷ 7 ∷ 8 ∷ 9 ∷ []) ≡ 0 ∷ 0 ∷ 0x0101010101010101 ∷ 0 ∷ []
unfolding checkpoint_at le_of
images = refl

-- 10: "no committed number exceeds the stored one"
advanced : map (advance_of 9) (8 ∷ 9 ∷ []) ≡ accepted 9 ∷ refused 10 ∷ []
unfolding advance_of
advanced = refl

-- "writes its 8 bytes at the target's start, the rest unchanged"
target_written : target_after (accepted 9) (replicate 10 42) ≡ 9 ∷ 0 ∷ 0 ∷ 0 ∷ 0 ∷ 0 ∷ 0 ∷ 0 ∷ 42 ∷ 42 ∷ []
unfolding le_bytes
target_written = refl

-- 1: "a target for .. a checkpoint is too short for it"
short_target : (checkpoint_of [] [] 0 [] [] [] (replicate 7 42)).answer ≡ refused 1
unfolding checkpoint_of
short_target = refl

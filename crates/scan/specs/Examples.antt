-- Worked examples, by computation: document 01's "Bench readings" of a segment.
-- Assumes nothing.
use Rattle.std.specs.Prelude.{◌≡◌, refl, List, [], ◌∷◌, ◌++◌, map, ℕ, length, take, set, replicate}
use Rattle.fields.specs.Le.{le_of, le_bytes}
use Rattle.crc32.specs.Crc.{bit_step, bit_steps, byte_step, register, crc32_of}
use Rattle.utf8.specs.Grammar.{is_utf8, completes, any, after, begun, utf8_char, utf8_1, utf8_2, utf8_3, utf8_4, tail}
use Rattle.header.specs.Header.{header_of, header_bytes, entry_bytes, header_at, valid_for}
use Rattle.payload.specs.Kind.{by_kind}
use Rattle.payload.specs.Content.{insert, commit, fixed_bytes, part_bytes, payload_of}
use Rattle.entry.specs.Decode.{part_at, key_at, pair_at, key_and_part, decode_of}
use Rattle.entry.specs.declared.WalEntry.TheVariants.{Insert, Commit}
use Rattle.scan.specs.Step.{judge_of, step_from, step_at}
use Rattle.scan.specs.Walk.{walk, walk_from}
use Rattle.scan.specs.Read.{Good, Reading, read_from, read_segment}
use Rattle.scan.specs.Highest.{highest_from, highest_of}
use Rattle.scan.specs.declared.Step.TheVariants.{Entry, End}

-- "Insert number 1 of key `a`, one value byte: payload 38, entry 51. Followed by its commit, 84 bytes."
log : List ℕ
log = entry_bytes (payload_of 1 5 (insert (97 ∷ []) (9 ∷ []))) ++ entry_bytes (payload_of 1 6 commit)

log_bytes : length log ≡ 84
unfolding log entry_bytes payload_of fixed_bytes part_bytes header_bytes header_of le_bytes
log_bytes = refl

abbrev inserted : Good
inserted =
    record {
      entry = Insert 1 5 (record { start = 28; len = 1 }) (record { start = 37; len = 1 });
      payload = record { start = 13; len = 38 };
    }

abbrev committed : Good
committed = record { entry = Commit 1 6; payload = record { start = 64; len = 20 } }

abbrev reading : List Good → (partial checksum : ℕ) → Reading
reading good partial checksum = record { good = good; partial = partial; checksum = checksum }

-- "P cuts: 84 committed 1; 83 incomplete 1, partial 1; 51 incomplete 1, partial 0; 50, 13, 12 and 1 total 0, partial 1;
-- 0 all zero."
cuts : map (λ n. read_segment (take n log)) (84 ∷ 83 ∷ 51 ∷ 50 ∷ 13 ∷ 12 ∷ 1 ∷ 0 ∷ []) ≡ reading (inserted ∷ committed ∷ []) 0 0 ∷ reading (inserted ∷ []) 1 0 ∷ reading (inserted ∷ []) 0 0 ∷ reading [] 1 0 ∷ reading [] 1 0 ∷ reading [] 1 0 ∷ reading [] 1 0 ∷ reading [] 0 0 ∷ []
unfolding log entry_bytes payload_of fixed_bytes part_bytes header_bytes header_of le_bytes read_segment read_from walk_from walk step_from judge_of header_at valid_for le_of crc32_of register byte_step bit_steps bit_step decode_of by_kind key_and_part pair_at key_at part_at is_utf8 completes any after begun utf8_char utf8_1 utf8_2 utf8_3 utf8_4 tail
cuts = refl

-- "a header length of 2^64 - 1 is a partial write"
endless : read_segment (replicate 8 255 ++ log) ≡ reading [] 1 0
unfolding log entry_bytes payload_of fixed_bytes part_bytes header_bytes header_of le_bytes read_segment read_from walk_from walk step_from header_at le_of
endless = refl

-- "A raw empty payload, then commit 9: recovery counts checksum 1 and no number; the truncation scan finds 9."
empty_then_nine : List ℕ
empty_then_nine = entry_bytes [] ++ entry_bytes (payload_of 9 1 commit)

empty_read : read_segment empty_then_nine ≡ reading [] 0 1
unfolding empty_then_nine entry_bytes payload_of fixed_bytes header_bytes header_of le_bytes read_segment read_from walk_from walk step_from judge_of header_at valid_for le_of crc32_of register byte_step bit_steps bit_step decode_of
empty_read = refl

empty_highest : highest_of empty_then_nine ≡ 9
unfolding empty_then_nine entry_bytes payload_of fixed_bytes header_bytes header_of le_bytes highest_of highest_from walk_from walk step_from judge_of header_at valid_for le_of crc32_of register byte_step bit_steps bit_step decode_of by_kind
empty_highest = refl

-- the value byte is not the one that was written: nothing is read, not even the good commit behind it
wrong_read : read_segment (set log 50 8) ≡ reading [] 0 1
unfolding log entry_bytes payload_of fixed_bytes part_bytes header_bytes header_of le_bytes read_segment read_from walk_from walk step_from judge_of header_at valid_for le_of crc32_of register byte_step bit_steps bit_step
wrong_read = refl

wrong_highest : highest_of (set log 50 8) ≡ 0
unfolding log entry_bytes payload_of fixed_bytes part_bytes header_bytes header_of le_bytes highest_of highest_from walk_from walk step_from judge_of header_at valid_for le_of crc32_of register byte_step bit_steps bit_step
wrong_highest = refl

-- "The version is written and never tested on reading."
other_version : step_at (set (entry_bytes (payload_of 7 1 commit)) 12 2) 0 ≡ Entry (Commit 7 1) (record { start = 13; len = 20 })
unfolding entry_bytes payload_of fixed_bytes header_bytes header_of le_bytes step_at step_from judge_of header_at valid_for le_of crc32_of register byte_step bit_steps bit_step decode_of by_kind
other_version = refl

-- an offset at or beyond the segment's end
at_the_end : step_at (1 ∷ 2 ∷ []) 2 ≡ End
unfolding step_at step_from
at_the_end = refl

beyond_the_end : step_at (1 ∷ 2 ∷ []) 3 ≡ End
unfolding step_at step_from
beyond_the_end = refl

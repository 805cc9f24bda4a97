-- Worked examples, by computation.
-- Assumes nothing.
use Rattle.std.specs.Prelude.{◌≡◌, refl, List, [], ◌∷◌, ◌++◌, map, ℕ, length, take, replicate, set}
use Rattle.refusal.specs.Answer.{refused, accepted}
use Rattle.fields.specs.Le.{le_of, le_bytes}
use Rattle.crc32.specs.Crc.{bit_step, bit_steps, byte_step, register, crc32_of}
use Rattle.header.specs.Header.{header_of, header_bytes, entry_bytes, header_at, valid_for}
use Rattle.payload.specs.Kind.{by_kind}
use Rattle.payload.specs.Content.{commit, fixed_bytes, payload_of}
use Rattle.entry.specs.Decode.{decode_of}
use Rattle.scan.specs.Step.{judge_of, step_from}
use Rattle.scan.specs.Walk.{walk, walk_from}
use Rattle.scan.specs.Highest.{highest_from, highest_of}
use Rattle.records.specs.Dense.{bytes_of}
use Rattle.directory.specs.Image.{segment_bytes}
use Rattle.directory.specs.Lent.{fits_of}
use Rattle.directory.specs.Record.{record_at, record_bytes, records_of}
use Rattle.directory.specs.Rule.{lies_of, follows_of, rule_from, directory_rule, test_of}
use Rattle.directory.specs.declared.record.SegmentRecord.{SegmentRecord}
use Rattle.truncation.specs.Truncate.{kept_of, closed_up, truncate_of}

abbrev at : (id start length : ℕ) → SegmentRecord
at id start length = record { id = id; start = start; length = length }

-- 33 bytes
commits : ℕ → List ℕ
commits tx = entry_bytes (payload_of tx 1 commit)

-- ---- three segments of one commit each: 5, 8 and 6

three : List ℕ
three = commits 5 ++ (commits 8 ++ commits 6)

abbrev first : SegmentRecord
first = at 1 0 33

abbrev second : SegmentRecord
second = at 2 33 33

abbrev last : SegmentRecord
last = at 4 66 33

-- "0 < m < checkpoint": by 5 the first stays, and by 8 the second; the last stays whatever its number
by_checkpoint : map (λ c. kept_of three c (first ∷ second ∷ last ∷ [])) (0 ∷ 5 ∷ 6 ∷ 8 ∷ 9 ∷ []) ≡ (first ∷ second ∷ last ∷ []) ∷ (first ∷ second ∷ last ∷ []) ∷ (second ∷ last ∷ []) ∷ (second ∷ last ∷ []) ∷ (last ∷ []) ∷ []
unfolding three commits entry_bytes payload_of fixed_bytes header_bytes header_of le_bytes kept_of segment_bytes highest_of highest_from walk_from walk step_from judge_of header_at valid_for le_of crc32_of register byte_step bit_steps bit_step decode_of by_kind
by_checkpoint = refl

-- "The kept records close up in order, the freed ones become zero, and the answer is their number." The unused record behind
-- them stays as it was.
directory : List ℕ
directory = record_bytes first ++ (record_bytes second ++ (record_bytes last ++ record_bytes (at 9 9 9)))

one_dropped : truncate_of three directory 3 6 ≡ record { answer = accepted (record { count = 1; used = 2 }); directory = record_bytes second ++ (record_bytes last ++ (replicate 24 0 ++ record_bytes (at 9 9 9))) }
unfolding three directory commits entry_bytes payload_of fixed_bytes header_bytes header_of le_bytes kept_of segment_bytes highest_of highest_from walk_from walk step_from judge_of header_at valid_for le_of crc32_of register byte_step bit_steps bit_step decode_of by_kind truncate_of test_of fits_of directory_rule rule_from follows_of lies_of records_of record_at record_bytes closed_up bytes_of
one_dropped = refl

two_dropped : truncate_of three directory 3 9 ≡ record { answer = accepted (record { count = 2; used = 1 }); directory = record_bytes last ++ (replicate 48 0 ++ record_bytes (at 9 9 9)) }
unfolding three directory commits entry_bytes payload_of fixed_bytes header_bytes header_of le_bytes kept_of segment_bytes highest_of highest_from walk_from walk step_from judge_of header_at valid_for le_of crc32_of register byte_step bit_steps bit_step decode_of by_kind truncate_of test_of fits_of directory_rule rule_from follows_of lies_of records_of record_at record_bytes closed_up bytes_of
two_dropped = refl

none_dropped : truncate_of three directory 3 0 ≡ record { answer = accepted (record { count = 0; used = 3 }); directory = directory }
unfolding three directory commits entry_bytes payload_of fixed_bytes header_bytes header_of le_bytes kept_of segment_bytes highest_of highest_from walk_from walk step_from judge_of header_at valid_for le_of crc32_of register byte_step bit_steps bit_step decode_of by_kind truncate_of test_of fits_of directory_rule rule_from follows_of lies_of records_of record_at record_bytes closed_up bytes_of
none_dropped = refl

-- a directory of no used records
none_used : truncate_of [] directory 0 9 ≡ record { answer = accepted (record { count = 0; used = 0 }); directory = directory }
unfolding directory truncate_of test_of fits_of directory_rule rule_from records_of record_bytes le_bytes kept_of closed_up bytes_of
none_used = refl

-- 2, where the used count is above the records; 1, where 25 bytes are not whole records: nothing changes
used_over_records : truncate_of [] directory 5 9 ≡ record { answer = refused 2; directory = directory }
unfolding directory truncate_of test_of fits_of directory_rule rule_from records_of record_bytes le_bytes
used_over_records = refl

not_whole : truncate_of [] (replicate 25 0) 5 9 ≡ record { answer = refused 1; directory = replicate 25 0 }
unfolding truncate_of test_of fits_of
not_whole = refl

-- ---- a segment before the last, by checkpoint 10

kept_before : List ℕ → List SegmentRecord
kept_before segment = kept_of segment 10 (at 1 0 (length segment) ∷ at 2 (length segment) 0 ∷ [])

-- "A raw empty payload, then commit 9 ..; the truncation scan finds 9."
undecodable : kept_before (entry_bytes [] ++ commits 9) ≡ at 2 46 0 ∷ []
unfolding kept_before commits entry_bytes payload_of fixed_bytes header_bytes header_of le_bytes kept_of segment_bytes highest_of highest_from walk_from walk step_from judge_of header_at valid_for le_of crc32_of register byte_step bit_steps bit_step decode_of by_kind
undecodable = refl

-- a segment in which nothing is found stays: an empty one, a torn one, and one with a wrong checksum
empty : kept_before [] ≡ at 1 0 0 ∷ at 2 0 0 ∷ []
unfolding kept_before kept_of segment_bytes highest_of highest_from walk_from walk
empty = refl

torn : kept_before (take 32 (commits 9)) ≡ at 1 0 32 ∷ at 2 32 0 ∷ []
unfolding kept_before commits entry_bytes payload_of fixed_bytes header_bytes header_of le_bytes kept_of segment_bytes highest_of highest_from walk_from walk step_from judge_of header_at valid_for le_of crc32_of register byte_step bit_steps bit_step decode_of by_kind
torn = refl

wrong_checksum : kept_before (set (commits 9) 13 4) ≡ at 1 0 33 ∷ at 2 33 0 ∷ []
unfolding kept_before commits entry_bytes payload_of fixed_bytes header_bytes header_of le_bytes kept_of segment_bytes highest_of highest_from walk_from walk step_from judge_of header_at valid_for le_of crc32_of register byte_step bit_steps bit_step decode_of by_kind
wrong_checksum = refl

-- what stands before the damage counts, what stands behind it does not
torn_behind : kept_before (commits 9 ++ take 12 (commits 11)) ≡ at 2 45 0 ∷ []
unfolding kept_before commits entry_bytes payload_of fixed_bytes header_bytes header_of le_bytes kept_of segment_bytes highest_of highest_from walk_from walk step_from judge_of header_at valid_for le_of crc32_of register byte_step bit_steps bit_step decode_of by_kind
torn_behind = refl

wrong_behind : kept_before (commits 9 ++ (set (commits 9) 13 4 ++ commits 11)) ≡ at 2 99 0 ∷ []
unfolding kept_before commits entry_bytes payload_of fixed_bytes header_bytes header_of le_bytes kept_of segment_bytes highest_of highest_from walk_from walk step_from judge_of header_at valid_for le_of crc32_of register byte_step bit_steps bit_step decode_of by_kind
wrong_behind = refl

-- the highest number, in whatever order
highest_first : kept_before (commits 10 ++ commits 9) ≡ at 1 0 66 ∷ at 2 66 0 ∷ []
unfolding kept_before commits entry_bytes payload_of fixed_bytes header_bytes header_of le_bytes kept_of segment_bytes highest_of highest_from walk_from walk step_from judge_of header_at valid_for le_of crc32_of register byte_step bit_steps bit_step decode_of by_kind
highest_first = refl

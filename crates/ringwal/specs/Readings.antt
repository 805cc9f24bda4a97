-- Document 01, "Bench readings": all that it marks P, as one list with a single statement, `readings`.
-- Assumes nothing.
use Rattle.std.specs.Prelude.{◌≡◌, refl, List, [], ◌∷◌, ◌++◌, map, ℕ, ◌-◌, ◌^◌, length, take, replicate}
use Rattle.fields.specs.Le.{le_of, le_bytes}
use Rattle.crc32.specs.Crc.{bit_step, bit_steps, byte_step, register, crc32_of}
use Rattle.utf8.specs.Grammar as Utf8
use Rattle.utf8.specs.Grammar.{is_utf8, completes, any, after, utf8_char, utf8_1, utf8_2, utf8_3, utf8_4, tail}
use Rattle.header.specs.Header.{header_of, header_bytes, entry_bytes, header_at, valid_for}
use Rattle.payload.specs.Kind.{by_kind}
use Rattle.payload.specs.Content.{Content, insert, commit, abort, fixed_bytes, part_bytes, payload_of}
use Rattle.entry.specs.Decode.{part_at, key_at, pair_at, key_and_part, decode_of}
use Rattle.records.specs.Sorted.{compare_numbers, put}
use Rattle.records.specs.Dense.{dense, bytes_of}
use Rattle.directory.specs.Image.{segment_bytes}
use Rattle.directory.specs.Lent.{fits_of}
use Rattle.directory.specs.Record.{record_at, record_bytes, records_of}
use Rattle.directory.specs.Rule.{lies_of, follows_of, rule_from, directory_rule, test_of}
use Rattle.scan.specs.Step.{judge_of, step_from}
use Rattle.scan.specs.Walk.{walk, walk_from}
use Rattle.scan.specs.Read.{read_from, read_segment}
use Rattle.refusal.specs.Answer.{Answer, by_answer}
use Rattle.recovery.specs.declared.Recovered.{Recovered}
use Rattle.lists.specs.Entries.{highest_in}
use Rattle.lists.specs.Tally.{tally_of}
use Rattle.lists.specs.Transactions.{noted, begun, note, note_all, transactions_of, transaction_bytes}
use Rattle.recovery.specs.Log.{read_log}
use Rattle.recovery.specs.Recover.{Recovering, next_of, stats_of, recovered_of, read_into, lists_test_of, recover_of}

-- what is asked of the calls' own definitions
pub data Question : Type 0 where
  -- the CRC-32 of some bytes
  checksum : (bytes : List ℕ) → Question
  -- the payload of an entry, and how many bytes it takes with its header
  payload : (tx time : ℕ) → (content : Content) → Question
  with_header : (tx time : ℕ) → (content : Content) → Question
  -- what recovery counts in a segment: total, committed, aborted, incomplete, partial, checksum
  counts : (segment : List ℕ) → Question
  -- the transactions that it leaves
  transactions : (segment : List ℕ) → Question

-- the recovery of a log of one segment, with a list of two entries and one of one transaction
unfoldable pub recovering : (segment : List ℕ) → Recovering
recovering segment =
    recover_of segment (record_bytes (record { id = 1; start = 0; length = length segment })) 1 (replicate 64 0) (replicate 24 0)

-- a refusal by its number alone
abbrev pub counts_of : Answer Recovered → List ℕ
counts_of answer =
    by_answer answer (λ number. number ∷ [])
    (λ values. values.stats.total_transactions ∷ values.stats.committed ∷ values.stats.aborted ∷ values.stats.incomplete ∷ values.stats.partial_writes ∷ values.stats.checksum_failures ∷ [])

abbrev pub answer_to : Question → List ℕ
answer_to (checksum bytes) = crc32_of bytes ∷ []
answer_to (payload tx time content) = payload_of tx time content
answer_to (with_header tx time content) = length (entry_bytes (payload_of tx time content)) ∷ []
answer_to (counts segment) = counts_of (recovering segment).answer
answer_to (transactions segment) = (recovering segment).transactions

pub record Reading : Type 0 where
  pub question : Question
  pub answer : List ℕ

infix 20 ◌reads◌
abbrev pub ◌reads◌ : Question → List ℕ → Reading
q reads a = record { question = q; answer = a }

-- "Insert number 1 of key `a`, one value byte .. Followed by its commit, 84 bytes."
unfoldable pub insert_then_commit : List ℕ
insert_then_commit = entry_bytes (payload_of 1 5 (insert (97 ∷ []) (9 ∷ []))) ++ entry_bytes (payload_of 1 6 commit)

unfoldable pub commit_then_abort : List ℕ
commit_then_abort = entry_bytes (payload_of 7 1 commit) ++ entry_bytes (payload_of 7 2 abort)

-- a header of that length, and something behind it
unfoldable pub endless : List ℕ
endless = header_bytes (record { length = 2 ^ 64 - 1; checksum = 0; version = 1 }) ++ payload_of 7 1 commit

unfoldable pub bench_readings : List Reading
bench_readings =
    -- "CRC-32 of `123456789` is CBF43926 hex; of nothing, 0."
    (checksum (49 ∷ 50 ∷ 51 ∷ 52 ∷ 53 ∷ 54 ∷ 55 ∷ 56 ∷ 57 ∷ []) reads 0xCBF43926 ∷ [])
    ∷ (checksum [] reads 0 ∷ [])
    -- "Commit, number 7, time 1: payload 03 00 00 00, 07 and seven 00, 01 and seven 00; 33 bytes with header."
    ∷ (payload 7 1 commit reads 3 ∷ 0 ∷ 0 ∷ 0 ∷ 7 ∷ 0 ∷ 0 ∷ 0 ∷ 0 ∷ 0 ∷ 0 ∷ 0 ∷ 1 ∷ 0 ∷ 0 ∷ 0 ∷ 0 ∷ 0 ∷ 0 ∷ 0 ∷ [])
    ∷ (with_header 7 1 commit reads 33 ∷ [])
    -- "P cuts: 84 committed 1; 83 incomplete 1, partial 1; 51 incomplete 1, partial 0; 50, 13, 12 and 1 total 0,
    -- partial 1; 0 all zero."
    ∷ (counts (take 84 insert_then_commit) reads 1 ∷ 1 ∷ 0 ∷ 0 ∷ 0 ∷ 0 ∷ [])
    ∷ (counts (take 83 insert_then_commit) reads 1 ∷ 0 ∷ 0 ∷ 1 ∷ 1 ∷ 0 ∷ [])
    ∷ (counts (take 51 insert_then_commit) reads 1 ∷ 0 ∷ 0 ∷ 1 ∷ 0 ∷ 0 ∷ [])
    ∷ (counts (take 50 insert_then_commit) reads 0 ∷ 0 ∷ 0 ∷ 0 ∷ 1 ∷ 0 ∷ [])
    ∷ (counts (take 13 insert_then_commit) reads 0 ∷ 0 ∷ 0 ∷ 0 ∷ 1 ∷ 0 ∷ [])
    ∷ (counts (take 12 insert_then_commit) reads 0 ∷ 0 ∷ 0 ∷ 0 ∷ 1 ∷ 0 ∷ [])
    ∷ (counts (take 1 insert_then_commit) reads 0 ∷ 0 ∷ 0 ∷ 0 ∷ 1 ∷ 0 ∷ [])
    ∷ (counts (take 0 insert_then_commit) reads 0 ∷ 0 ∷ 0 ∷ 0 ∷ 0 ∷ 0 ∷ [])
    -- "commit then abort of one number is a rollback": action 2 of number 7
    ∷ (transactions commit_then_abort reads 7 ∷ 0 ∷ 0 ∷ 0 ∷ 0 ∷ 0 ∷ 0 ∷ 0 ∷ 2 ∷ 0 ∷ 0 ∷ 0 ∷ 0 ∷ 0 ∷ 0 ∷ 0 ∷ 0 ∷ 0 ∷ 0 ∷ 0 ∷ 0 ∷ 0 ∷ 0 ∷ 0 ∷ [])
    -- "a header length of 2^64 - 1 is a partial write"
    ∷ (counts endless reads 0 ∷ 0 ∷ 0 ∷ 0 ∷ 1 ∷ 0 ∷ [])
    ∷ []

-- every reading is what the definitions compute
pub readings : map (λ (r : Reading). answer_to r.question) bench_readings ≡ map (λ (r : Reading). r.answer) bench_readings
unfolding bench_readings insert_then_commit commit_then_abort endless recovering recover_of lists_test_of test_of fits_of directory_rule rule_from follows_of lies_of records_of record_at record_bytes read_log segment_bytes read_into transactions_of note_all note put compare_numbers noted begun transaction_bytes dense bytes_of recovered_of stats_of tally_of highest_in next_of entry_bytes payload_of fixed_bytes part_bytes header_bytes header_of le_bytes read_segment read_from walk_from walk step_from judge_of header_at valid_for le_of crc32_of register byte_step bit_steps bit_step decode_of by_kind key_and_part pair_at key_at part_at is_utf8 completes any after Utf8.begun utf8_char utf8_1 utf8_2 utf8_3 utf8_4 tail
readings = refl

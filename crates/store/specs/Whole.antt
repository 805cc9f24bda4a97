-- Worked examples of the whole call, by computation: the answer and each buffer.
-- Assumes nothing.
use Rattle.std.specs.Prelude.{◌≡◌, refl, List, [], ◌∷◌, ◌++◌, ℕ, length, replicate}
use Rattle.refusal.specs.Answer.{refused}
use Rattle.fields.specs.Le.{le_of, le_bytes}
use Rattle.fields.specs.Order.{compare_bytes}
use Rattle.crc32.specs.Crc.{bit_step, bit_steps, byte_step, register, crc32_of}
use Rattle.utf8.specs.Grammar as Utf8
use Rattle.utf8.specs.Grammar.{is_utf8, completes, any, after, utf8_char, utf8_1, utf8_2, utf8_3, utf8_4, tail}
use Rattle.header.specs.Header.{header_of, header_bytes, entry_bytes, header_at, valid_for}
use Rattle.payload.specs.Kind.{by_kind}
use Rattle.payload.specs.Content.{insert, commit, fixed_bytes, part_bytes, payload_of}
use Rattle.entry.specs.Decode.{part_at, key_at, pair_at, key_and_part, update_at, decode_of, content_at}
use Rattle.records.specs.Dense.{bytes_of, dense}
use Rattle.records.specs.Sorted.{compare_numbers, put, remove}
use Rattle.directory.specs.Image.{segment_bytes}
use Rattle.directory.specs.Lent.{fits_of}
use Rattle.directory.specs.Record.{record_at, record_bytes, records_of}
use Rattle.directory.specs.Rule.{lies_of, follows_of, rule_from, directory_rule, test_of}
use Rattle.scan.specs.Step.{judge_of, step_from}
use Rattle.scan.specs.Walk.{walk, walk_from}
use Rattle.scan.specs.Read.{read_from, read_segment}
use Rattle.lists.specs.Entries.{entry_record_bytes, highest_in}
use Rattle.lists.specs.Tally.{tally_of}
use Rattle.lists.specs.Transactions.{transaction_bytes, noted, begun, note, note_all, transactions_of}
use Rattle.chains.specs.Chain.{entries_of}
use Rattle.recovery.specs.Log.{read_log}
use Rattle.recovery.specs.Payload.{payload_in}
use Rattle.recovery.specs.Recover.{next_of, stats_of, recovered_of, read_into, lists_test_of, recover_of}
use Rattle.table.specs.Row.{row_of, fits, marked_bytes, padded}
use Rattle.table.specs.Table.{set, remove_key, set_in, table_of}
use Rattle.store.specs.Order.{committed_of, replay_order, entries_in_turn, replayed}
use Rattle.store.specs.Change.{changed_by, run_of}
use Rattle.store.specs.Effect.{effect_of, effect_in}
use Rattle.store.specs.Replay.{Replaying, replay_of}

-- a log of one segment
image_of : List (List ℕ) → List ℕ
image_of [] = []
image_of (p ∷ ps) = entry_bytes p ++ image_of ps

-- lists of four and two records, and a table of so many bytes; no byte of them is zero before
replay_one : (table : ℕ) → List ℕ → Replaying
replay_one table image =
    replay_of image (record_bytes (record { id = 1; start = 0; length = length image })) 1 (replicate 128 5) (replicate 48 6) (replicate table 7)

-- the key `a`
abbrev a : List ℕ
a = 97 ∷ []

record Examples : Type 0 where
  -- two panels set `a` in overlapping transactions: the higher number's setting stands
  overlap : (replay_one 640 (image_of (payload_of 1 0 (insert a (1 ∷ [])) ∷ payload_of 2 0 (insert a (2 ∷ [])) ∷ payload_of 2 0 commit ∷ payload_of 1 0 commit ∷ []))).table ≡ table_of 640 (row_of a (2 ∷ []) ∷ [])
  -- a table of no records: 9, and every byte of lists and table is zero
  nine : replay_one 0 (image_of (payload_of 1 0 (insert a (1 ∷ [])) ∷ payload_of 1 0 commit ∷ [])) ≡ record { answer = refused 9; entries = replicate 128 0; transactions = replicate 48 0; table = [] }
  -- a table that is not whole records: 1, and nothing changes
  one : replay_one 321 [] ≡ record { answer = refused 1; entries = replicate 128 5; transactions = replicate 48 6; table = replicate 321 7 }

examples : Examples
unfolding replay_one image_of replay_of run_of changed_by effect_in effect_of replayed replay_order committed_of entries_in_turn entries_of payload_in content_at set_in fits set remove_key remove compare_bytes marked_bytes padded dense bytes_of entry_record_bytes transaction_bytes recover_of lists_test_of test_of fits_of directory_rule rule_from follows_of lies_of records_of record_at record_bytes read_log segment_bytes read_into transactions_of note_all note put compare_numbers noted begun recovered_of stats_of tally_of highest_in next_of entry_bytes payload_of fixed_bytes part_bytes header_bytes header_of le_bytes read_segment read_from walk_from walk step_from judge_of header_at valid_for le_of crc32_of register byte_step bit_steps bit_step decode_of by_kind key_and_part pair_at update_at key_at part_at is_utf8 completes any after Utf8.begun utf8_char utf8_1 utf8_2 utf8_3 utf8_4 tail
examples = record { overlap = refl; nine = refl; one = refl }

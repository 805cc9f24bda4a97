-- The instance of specs/Example.antt meets all that `demand_3` is given, by computation.
-- Assumes nothing.
use Rattle.std.specs.Prelude.{refl, [], ◌∷◌, map, eqb, replicate}
use Rattle.std.proofs.Common.{arith, eqb-true}
use Rattle.fields.specs.Le.{le_of, le_bytes}
use Rattle.fields.specs.Order.{compare_bytes}
use Rattle.utf8.specs.Grammar as Utf8
use Rattle.utf8.specs.Grammar.{is_utf8, completes, any, utf8_char, utf8_1, utf8_2, utf8_3, utf8_4, tail}
use Rattle.header.specs.Header.{header_of, header_bytes, entry_bytes}
use Rattle.payload.specs.Kind.{by_kind}
use Rattle.payload.specs.Content.{fixed_bytes, part_bytes, payload_of, key_fits, value_fits, well_formed}
use Rattle.payload.specs.Encode.{asked}
use Rattle.records.specs.Sorted.{compare_numbers, put, remove}
use Rattle.directory.specs.Lent.{fits_of}
use Rattle.directory.specs.Record.{record_at, record_bytes, records_of}
use Rattle.directory.specs.Rule.{lies_of, follows_of, rule_from, directory_rule, test_of}
use Rattle.plan.specs.Plan.{last_in, new_segment, next_of, new_segment_of, append_test_of, behind_of, plan_of, plan_append_of}
use Rattle.segment.specs.Writing.{open_of, counted, append_entry_of, append_of}
use Rattle.lists.specs.Entries.{highest_in}
use Rattle.lists.specs.Tally.{tally_of}
use Rattle.lists.specs.Transactions.{noted, begun, note, note_all, transactions_of}
use Rattle.recovery.specs.Recover as Recovers
use Rattle.recovery.specs.Recover.{stats_of, recovered_of}
use Rattle.table.specs.Table.{set, remove_key}
use Rattle.store.specs.Effect.{effect_of}
use Rattle.store.specs.Order.{committed_of, replay_order}
use Rattle.crash.specs.Request.{encoded}
use Rattle.crash.specs.Kept.{kept_by, is_inside, listed_as}
use Rattle.crash.specs.Life.{opening, appending}
use Rattle.crash.specs.Settings.{settle, run_number, run_numbers, is_committed, has_marker, keys_of, number_of}
use Rattle.crash.specs.Crash.{Given}
use Rattle.crash.specs.Runs.{are_bytes, is_typed, after, after_all, accepts, accepts_all, is_one_of, are_among, same_list, same_list_lem, are_among_lem, run_lives, same_front}
use Rattle.crash.specs.Example.{story, Computed, written, a, b, c, steps, start}

pub computed : Computed
unfolding written is_one_of are_among same_list are_bytes is_typed accepts accepts_all after after_all kept_by is_inside listed_as encoded opening appending settle run_number run_numbers keys_of is_committed has_marker effect_of replay_order committed_of set remove_key put remove compare_numbers compare_bytes transactions_of note_all note noted begun open_of append_of append_entry_of counted new_segment_of next_of last_in new_segment append_test_of plan_append_of plan_of behind_of test_of fits_of directory_rule rule_from follows_of lies_of records_of record_at record_bytes le_bytes le_of asked by_kind well_formed key_fits value_fits is_utf8 completes any Utf8.after Utf8.begun utf8_char utf8_1 utf8_2 utf8_3 utf8_4 tail payload_of fixed_bytes part_bytes entry_bytes header_of header_bytes recovered_of stats_of tally_of highest_in Recovers.next_of
computed =
    record {
      is_written = refl;
      is_cut =
          record {
            segment = omega arith;
            byte = omega arith;
            area_fits = refl;
            area_kept = same_front 496 written.held.area (replicate 16 255) (omega arith);
            directory_fits = refl;
            directory_size = omega arith;
            directory_kept = refl;
          };
      is_enough =
          record {
            entry_list = refl;
            every_entry = omega arith;
            transaction_list = refl;
            numbers = 1 ∷ 2 ∷ 3 ∷ 4 ∷ [];
            every_number = are_among_lem eqb (λ x y e. eqb-true x y e) (1 ∷ 2 ∷ 3 ∷ 4 ∷ []) (map number_of written.entries) refl;
            number_records = omega arith;
            table_fits = refl;
            keys = a ∷ b ∷ c ∷ [];
            every_key = are_among_lem same_list same_list_lem (a ∷ b ∷ c ∷ []) (keys_of written.entries) refl;
            key_records = omega arith;
          };
      segments = refl;
      stored = refl;
      stored_update = refl;
      inside = refl;
      answer = refl;
      committed = refl;
      order = refl;
      rows = refl;
      other_order = refl;
      uncut = refl;
      at_end = refl;
      kept_at_end = refl;
      torn = refl;
      kept_torn = refl;
      at_start = refl;
      kept_at_start = refl;
      behind_start = refl;
      at_first = refl;
      kept_at_first = refl;
    }

pub given : Given story
unfolding written
given =
    record {
      written = run_lives steps start computed.is_written;
      is_cut = computed.is_cut;
      enough = computed.is_enough;
    }

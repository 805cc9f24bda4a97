-- The two histories of specs/TwoCuts.antt are lived, by computation.
-- Assumes nothing.
use Rattle.std.specs.Prelude.{refl, List, [], ◌∷◌, ◌++◌, map, eqb, replicate}
use Rattle.std.proofs.Common.{ap, ◌∙◌, arith, eqb-true}
use Rattle.fields.specs.Le.{le_of, le_bytes}
use Rattle.fields.specs.Order.{compare_bytes}
use Rattle.crc32.specs.Crc.{bit_step, bit_steps, byte_step, register, crc32_of}
use Rattle.utf8.specs.Grammar as Utf8
use Rattle.utf8.specs.Grammar.{is_utf8, completes, any, utf8_char, utf8_1, utf8_2, utf8_3, utf8_4, tail}
use Rattle.header.specs.Header.{header_of, header_bytes, entry_bytes, header_at, valid_for}
use Rattle.payload.specs.Kind.{by_kind}
use Rattle.payload.specs.Content.{fixed_bytes, part_bytes, payload_of, key_fits, value_fits, well_formed}
use Rattle.payload.specs.Encode.{asked}
use Rattle.entry.specs.Decode.{part_at, key_at, pair_at, key_and_part, decode_of}
use Rattle.records.specs.Sorted.{compare_numbers, put}
use Rattle.directory.specs.Image.{segment_bytes}
use Rattle.directory.specs.Lent.{fits_of}
use Rattle.directory.specs.Record.{record_at, record_bytes, records_of}
use Rattle.directory.specs.Rule.{lies_of, follows_of, rule_from, directory_rule, test_of}
use Rattle.scan.specs.Step.{judge_of, step_from}
use Rattle.scan.specs.Walk.{walk, walk_from}
use Rattle.scan.specs.Read.{read_from, read_segment}
use Rattle.plan.specs.Plan.{last_in, new_segment, next_of, new_segment_of, append_test_of, behind_of, plan_of, plan_append_of}
use Rattle.segment.specs.Writing.{open_of, rotate_of, counted, append_entry_of, append_of}
use Rattle.lists.specs.Entries.{highest_in}
use Rattle.lists.specs.Tally.{tally_of}
use Rattle.lists.specs.Transactions.{noted, begun, note, note_all, transactions_of}
use Rattle.recovery.specs.Log.{read_log}
use Rattle.recovery.specs.Recover as Recovers
use Rattle.recovery.specs.Recover.{stats_of, recovered_of, read_into, lists_test_of, recover_of}
use Rattle.table.specs.Table.{set}
use Rattle.store.specs.Effect.{effect_of}
use Rattle.store.specs.Order.{committed_of, replay_order}
use Rattle.crash.specs.Request.{encoded}
use Rattle.crash.specs.Kept.{kept_by, torn_by, still_torn, listed_as}
use Rattle.crash.specs.Life.{Life, opening, rotating, appending, cut_by, Step, opens, power_cut, Lives}
use Rattle.crash.specs.Settings.{settle, run_number, run_numbers, keys_of, number_of}
use Rattle.crash.specs.Crash.{Lived}
use Rattle.crash.specs.Runs.{are_bytes, is_typed, accepts, accepts_all, after, after_all, is_one_of, are_among, same_list, same_list_lem, are_among_lem, run_lives, same_front, lives_then}
use Rattle.crash.specs.TwoCuts.{a, b, start, first_steps, first, first_cut, second_steps, second, later_cut, later, earlier_cut, third_steps, third, earlier, Begun, Later, Earlier}

begun_so : Begun
unfolding first second are_bytes is_typed accepts accepts_all after after_all kept_by torn_by still_torn encoded opening rotating appending open_of rotate_of append_of append_entry_of counted new_segment_of next_of last_in new_segment append_test_of plan_append_of plan_of behind_of test_of fits_of directory_rule rule_from follows_of lies_of records_of record_at record_bytes le_bytes le_of asked by_kind well_formed key_fits value_fits is_utf8 completes any Utf8.after Utf8.begun utf8_char utf8_1 utf8_2 utf8_3 utf8_4 tail payload_of fixed_bytes part_bytes entry_bytes header_of header_bytes
begun_so =
    record {
      first_run = refl;
      is_cut =
          record {
            segment = omega arith;
            byte = omega arith;
            area_fits = refl;
            area_kept = same_front 154 first.held.area (replicate 146 255) (omega arith);
            directory_fits = refl;
            directory_size = omega arith;
            directory_kept = refl;
          };
      torn = refl;
      second_run = refl;
      segments = refl;
      later_place = refl;
      earlier_place = refl;
    }

pub later_so : Later
unfolding first second is_one_of are_among same_list are_bytes is_typed accepts accepts_all after after_all kept_by torn_by still_torn listed_as encoded opening rotating appending settle run_number run_numbers keys_of effect_of replay_order committed_of set put compare_numbers compare_bytes transactions_of note_all note noted begun open_of rotate_of append_of append_entry_of counted new_segment_of next_of last_in new_segment append_test_of plan_append_of plan_of behind_of test_of fits_of directory_rule rule_from follows_of lies_of records_of record_at record_bytes le_bytes le_of asked by_kind well_formed key_fits value_fits is_utf8 completes any Utf8.after Utf8.begun utf8_char utf8_1 utf8_2 utf8_3 utf8_4 tail payload_of fixed_bytes part_bytes entry_bytes header_of header_bytes crc32_of register byte_step bit_steps bit_step recover_of lists_test_of read_into read_log segment_bytes recovered_of stats_of tally_of highest_in Recovers.next_of read_segment read_from walk_from walk step_from judge_of header_at valid_for decode_of key_and_part pair_at key_at part_at
later_so =
    record {
      is_cut =
          record {
            segment = omega arith;
            byte = omega arith;
            area_fits = refl;
            area_kept = same_front 260 second.held.area (replicate 20 7) (omega arith);
            directory_fits = refl;
            directory_size = omega arith;
            directory_kept = refl;
          };
      is_enough =
          record {
            entry_list = refl;
            every_entry = omega arith;
            transaction_list = refl;
            numbers = 1 ∷ 2 ∷ 3 ∷ [];
            every_number = are_among_lem eqb (λ x y e. eqb-true x y e) (1 ∷ 2 ∷ 3 ∷ []) (map number_of later.log.entries) refl;
            number_records = omega arith;
            table_fits = refl;
            keys = a ∷ b ∷ [];
            every_key = are_among_lem same_list same_list_lem (a ∷ b ∷ []) (keys_of later.log.entries) refl;
            key_records = omega arith;
          };
      torn =
          ap (λ place. still_torn place second.torn ++ torn_by place second.entries) begun_so.later_place ∙ refl;
      answer = refl;
      order = refl;
      rows = refl;
    }

pub earlier_so : Earlier
unfolding first second third is_one_of are_among same_list are_bytes is_typed accepts accepts_all after after_all kept_by torn_by still_torn listed_as encoded opening rotating appending settle run_number run_numbers keys_of effect_of replay_order committed_of set put compare_numbers compare_bytes transactions_of note_all note noted begun open_of rotate_of append_of append_entry_of counted new_segment_of next_of last_in new_segment append_test_of plan_append_of plan_of behind_of test_of fits_of directory_rule rule_from follows_of lies_of records_of record_at record_bytes le_bytes le_of asked by_kind well_formed key_fits value_fits is_utf8 completes any Utf8.after Utf8.begun utf8_char utf8_1 utf8_2 utf8_3 utf8_4 tail payload_of fixed_bytes part_bytes entry_bytes header_of header_bytes recovered_of stats_of tally_of highest_in Recovers.next_of
earlier_so =
    record {
      is_cut =
          record {
            segment = omega arith;
            byte = omega arith;
            area_fits = refl;
            area_kept = same_front 114 second.held.area (replicate 90 7) (omega arith);
            directory_fits = refl;
            directory_size = omega arith;
            directory_kept = refl;
          };
      third_run = refl;
      is_enough =
          record {
            entry_list = refl;
            every_entry = omega arith;
            transaction_list = refl;
            numbers = 1 ∷ 2 ∷ [];
            every_number = are_among_lem eqb (λ x y e. eqb-true x y e) (1 ∷ 2 ∷ []) (map number_of third.entries) refl;
            number_records = omega arith;
            table_fits = refl;
            keys = a ∷ b ∷ [];
            every_key = are_among_lem same_list same_list_lem (a ∷ b ∷ []) (keys_of third.entries) refl;
            key_records = omega arith;
          };
      torn = refl;
      answer = refl;
      order = refl;
      rows = refl;
      at_tear = refl;
      behind_tear = refl;
    }

-- ---- both are lived

-- two runs, and what follows
two_runs : (more : List Step) (last : Life) → Lives more second last → Lives (opens 60 ∷ (first_steps ++ (power_cut first_cut ∷ (second_steps ++ more)))) start last
unfolding first second
two_runs more last e =
    let again = cut_by first_cut first in
    lives_then (opens 60 ∷ first_steps) (power_cut first_cut ∷ (second_steps ++ more)) start first last
    (run_lives (opens 60 ∷ first_steps) start begun_so.first_run)
    (again, ((begun_so.is_cut, refl), lives_then second_steps more again second last (run_lives second_steps again begun_so.second_run) e))

pub later_lived : Lived later
later_lived =
    record {
      lived = two_runs (power_cut later_cut ∷ []) later.log (later.log, ((later_so.is_cut, refl), refl));
      enough = later_so.is_enough;
    }

pub earlier_lived : Lived earlier
unfolding third
earlier_lived =
    let again = cut_by earlier_cut second in
    record {
      lived = two_runs (power_cut earlier_cut ∷ third_steps) third (again, ((earlier_so.is_cut, refl), run_lives third_steps again earlier_so.third_run));
      enough = earlier_so.is_enough;
    }

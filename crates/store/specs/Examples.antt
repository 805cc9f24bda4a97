-- Worked examples, by computation. A log here is a list of numbers and contents; the area holds their payloads one behind
-- the other, without headers, since a run reads no header.
-- Assumes nothing.
use Rattle.std.specs.Prelude.{◌≡◌, refl, List, [], ◌∷◌, ◌++◌, ℕ, ◌+◌, length, replicate}
use Rattle.std.proofs.Math.Option.{none, some}
use Rattle.fields.specs.Le.{le_of, le_bytes}
use Rattle.fields.specs.Order.{compare_bytes, same_bytes}
use Rattle.utf8.specs.Grammar as Utf8
use Rattle.utf8.specs.Grammar.{is_utf8, completes, any, after, utf8_char, utf8_1, utf8_2, utf8_3, utf8_4, tail}
use Rattle.payload.specs.Kind.{by_kind}
use Rattle.payload.specs.Content.{Content, insert, update, delete, commit, abort, kind_number, fixed_bytes, part_bytes, payload_of}
use Rattle.entry.specs.Decode.{part_at, key_at, pair_at, key_and_part, update_at, decode_of, content_at}
use Rattle.records.specs.Sorted.{compare_numbers, put, remove}
use Rattle.lists.specs.Transactions.{noted, begun, note, note_all, transactions_of}
use Rattle.lists.specs.declared.entries.EntryRecord.{EntryRecord}
use Rattle.chains.specs.Chain.{entries_of}
use Rattle.recovery.specs.Payload.{payload_in}
use Rattle.refusal.specs.Answer.{Answer, refused, accepted}
use Rattle.table.specs.Row.{Row, row_of, fits}
use Rattle.table.specs.Table.{set, remove_key, set_in}
use Rattle.store.specs.Order.{committed_of, replay_order, entries_in_turn, replayed}
use Rattle.store.specs.Change.{changed_by, run_of}
use Rattle.store.specs.Effect.{effect_of, effect_in}
use Rattle.store.specs.Left.{left_by, left_of}

pub record Written : Type 0 where
  pub number : ℕ
  pub content : Content

abbrev by : ℕ → Content → Written
by number content = record { number = number; content = content }

abbrev payload : Written → List ℕ
payload w = payload_of w.number 0 w.content

area_of : List Written → List ℕ
area_of [] = []
area_of (w ∷ ws) = payload w ++ area_of ws

list_from : (place : ℕ) → List Written → List EntryRecord
list_from place [] = []
list_from place (w ∷ ws) =
    record { tx_id = w.number; place = place; len = length (payload w); kind = kind_number w.content }
    ∷ list_from (place + length (payload w)) ws

-- a run of the committed transactions, in a table of so many records
ran : (records : ℕ) → List Written → Answer (List Row)
ran records ws = run_of records (area_of ws) (replayed (list_from 0 ws)) []

-- the keys `a` and `b`, and one of 65 bytes
abbrev a : List ℕ
a = 97 ∷ []

abbrev b : List ℕ
b = 98 ∷ []

abbrev long : List ℕ
long = replicate 65 97

-- 1 began first and commits last
abbrev overlap : List Written
overlap = by 1 (insert a (1 ∷ [])) ∷ by 2 (insert a (2 ∷ [])) ∷ by 2 commit ∷ by 1 commit ∷ []

record Examples : Type 0 where
  -- "by ascending number": the setting of the higher number stands, though it committed first
  higher_number_last : ran 2 overlap ≡ accepted (row_of a (2 ∷ []) ∷ [])
  -- by its entries alone
  left_of_overlap : left_of a (area_of overlap) (replayed (list_from 0 overlap)) none ≡ some (2 ∷ [])
  -- an incomplete transaction leaves no trace, and an aborted one neither
  incomplete : ran 2 (by 1 (insert a (1 ∷ [])) ∷ by 1 commit ∷ by 2 (insert a (2 ∷ [])) ∷ []) ≡ accepted (row_of a (1 ∷ []) ∷ [])
  aborted : ran 2 (by 1 (insert a (1 ∷ [])) ∷ by 1 commit ∷ by 2 (delete a []) ∷ by 2 abort ∷ []) ≡ accepted (row_of a (1 ∷ []) ∷ [])
  -- "The last marker of a number decides. All its non-marker entries belong to it, those after the marker too."
  after_the_marker : ran 2 (by 1 abort ∷ by 1 commit ∷ by 1 (insert b (1 ∷ [])) ∷ []) ≡ accepted (row_of b (1 ∷ []) ∷ [])
  -- "Old values aren't looked at": an update sets the new value, where there was no row too
  update_sets : ran 1 (by 1 (update a (7 ∷ []) (2 ∷ [])) ∷ by 1 commit ∷ []) ≡ accepted (row_of a (2 ∷ []) ∷ [])
  -- a table of one record: a delete frees it for another key
  freed : ran 1 (by 1 (insert a []) ∷ by 1 (delete a []) ∷ by 1 (insert b []) ∷ by 1 commit ∷ []) ≡ accepted (row_of b [] ∷ [])
  -- 9: "needs a new record in a full table"; a row that is there is set all the same
  nine : ran 1 (by 1 (insert a []) ∷ by 1 (insert b []) ∷ by 1 commit ∷ []) ≡ refused 9
  set_in_full : ran 1 (by 1 (insert a []) ∷ by 1 (insert a (1 ∷ [])) ∷ by 1 commit ∷ []) ≡ accepted (row_of a (1 ∷ []) ∷ [])
  -- "8 before 9" of one entry; else the first entry that can't be applied decides
  eight_before_nine : ran 1 (by 1 (insert a []) ∷ by 1 (insert long []) ∷ by 1 commit ∷ []) ≡ refused 8
  nine_first : ran 1 (by 1 (insert a []) ∷ by 1 (insert b []) ∷ by 1 (insert long []) ∷ by 1 commit ∷ []) ≡ refused 9
  -- of no transaction that isn't committed
  not_eight : ran 1 (by 1 (insert long []) ∷ by 2 (insert a []) ∷ by 2 commit ∷ []) ≡ accepted (row_of a [] ∷ [])
  -- "delete of an absent key, over-long ones too, does nothing"
  absent : ran 1 (by 1 (insert a []) ∷ by 1 (delete long []) ∷ by 1 (delete b []) ∷ by 1 commit ∷ []) ≡ accepted (row_of a [] ∷ [])

examples : Examples
unfolding area_of list_from ran run_of changed_by effect_in effect_of left_of left_by replayed replay_order committed_of entries_in_turn entries_of transactions_of note_all note put remove compare_numbers noted begun payload_in payload_of fixed_bytes part_bytes le_bytes le_of decode_of by_kind key_and_part pair_at update_at key_at part_at content_at is_utf8 completes any after Utf8.begun utf8_char utf8_1 utf8_2 utf8_3 utf8_4 tail set_in fits set remove_key compare_bytes same_bytes
examples =
    record {
      higher_number_last = refl;
      left_of_overlap = refl;
      incomplete = refl;
      aborted = refl;
      after_the_marker = refl;
      update_sets = refl;
      freed = refl;
      nine = refl;
      set_in_full = refl;
      eight_before_nine = refl;
      nine_first = refl;
      not_eight = refl;
      absent = refl;
    }

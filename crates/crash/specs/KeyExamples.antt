-- Worked examples of what a log makes of a key, by computation. Where an entry ends does not matter here.
-- Assumes nothing.
use Rattle.std.specs.Prelude.{ℕ, ◌≡◌, refl, true, false, List, [], ◌∷◌}
use Rattle.std.proofs.Math.Option.{none, some}
use Rattle.fields.specs.Order.{compare_bytes, same_bytes}
use Rattle.records.specs.Sorted.{put, remove}
use Rattle.payload.specs.Kind.{by_kind}
use Rattle.payload.specs.Encode.{asked}
use Rattle.table.specs.Row.{row_of}
use Rattle.table.specs.Table.{set, remove_key}
use Rattle.store.specs.Effect.{effect_of}
use Rattle.store.specs.Left.{left_by}
use Rattle.crash.specs.Request.{Written}
use Rattle.crash.specs.Settings.{settle, run_number, run_numbers, has_marker, is_committed, keys_of}
use Rattle.crash.specs.Touch.{names, touches, leaves_from, leaves}

abbrev by : (tx kind : ℕ) → (key value : List ℕ) → Written
by tx kind key value =
    record { request = record { lsn = 0; kind = kind; tx = tx; time = 0; key = key; old = []; new = value }; end = 0 }

-- the keys a and b
abbrev a : List ℕ
a = 97 ∷ []

abbrev b : List ℕ
b = 98 ∷ []

-- 1 sets both and 2 deletes b; 3 is not committed. 2 commits before 1
abbrev log : List Written
log =
    by 1 0 a (1 ∷ []) ∷ by 2 2 b [] ∷ by 1 0 b (2 ∷ []) ∷ by 3 1 a (3 ∷ []) ∷ by 2 3 [] [] ∷ by 1 1 a (4 ∷ []) ∷ by 1 3 [] [] ∷ []

record Examples : Type 0 where
  -- "by ascending number": the delete comes last, though it was logged first
  settings : run_numbers (1 ∷ 2 ∷ []) log [] ≡ row_of a (4 ∷ []) ∷ []
  -- a delete writes none
  keys : keys_of log ≡ a ∷ b ∷ a ∷ a ∷ []
  -- a delete touches its key, and leaves nothing; a marker touches none, the empty one neither
  touched : touches b 2 log ≡ true
  deleted : leaves b 2 log ≡ none
  by_marker : touches [] 1 log ≡ false
  -- the last marker decides: a commit and then an abort, and the other way round; an entry behind it changes nothing
  aborted : is_committed 1 (by 1 3 [] [] ∷ by 1 4 [] [] ∷ []) ≡ false
  committed : is_committed 1 (by 1 4 [] [] ∷ by 1 3 [] [] ∷ by 1 0 a (1 ∷ []) ∷ by 2 4 [] [] ∷ []) ≡ true
  -- the last of a transaction's entries decides
  last : leaves a 1 log ≡ some (4 ∷ [])

examples : Examples
unfolding is_committed has_marker run_numbers run_number settle keys_of touches names leaves leaves_from left_by effect_of put remove asked by_kind set remove_key compare_bytes same_bytes
examples = record { settings = refl; keys = refl; touched = refl; deleted = refl; by_marker = refl; aborted = refl; committed = refl; last = refl }

-- The rows that a run of entries leaves.
-- Assumes nothing.
use Rattle.std.specs.Prelude.{ℕ, List, [], ◌∷◌}
use Rattle.refusal.specs.Answer.{Answer, accepted, and_then}
use Rattle.lists.specs.declared.entries.EntryRecord.{EntryRecord}
use Rattle.table.specs.Row.{Row, row_of}
use Rattle.table.specs.Table.{set_in, remove_key}
use Rattle.store.specs.Effect.{Effect, puts, drops, keeps, effect_in}

-- in a table of so many records
unfoldable pub changed_by : (records : ℕ) → Effect → List Row → Answer (List Row)
changed_by records (puts key value) rs = set_in records (row_of key value) rs
changed_by records (drops key) rs = accepted (remove_key key rs)
changed_by records keeps rs = accepted rs

-- entries applied one after the other; the first that can't be applied ends the run, and 8 and 9 concern it
unfoldable pub run_of : (records : ℕ) → (area : List ℕ) → List EntryRecord → List Row → Answer (List Row)
run_of records area [] rs = accepted rs
run_of records area (e ∷ es) rs = and_then (changed_by records (effect_in area e) rs) (run_of records area es)

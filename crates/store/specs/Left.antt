-- What a run leaves of a key, by its entries alone: the last entry that names the key decides.
-- Assumes nothing.
use Rattle.std.specs.Prelude.{ℕ, cond, List, [], ◌∷◌}
use Rattle.std.proofs.Math.Option.{Option, none, some}
use Rattle.fields.specs.Order.{same_bytes}
use Rattle.lists.specs.declared.entries.EntryRecord.{EntryRecord}
use Rattle.store.specs.Effect.{Effect, puts, drops, keeps, effect_in}

-- the key's value afterwards, from its value before
unfoldable pub left_by : (key : List ℕ) → Effect → Option (List ℕ) → Option (List ℕ)
left_by key (puts k value) was = cond (same_bytes k key) (some value) was
left_by key (drops k) was = cond (same_bytes k key) none was
left_by key keeps was = was

-- after all of the entries
unfoldable pub left_of : (key area : List ℕ) → List EntryRecord → Option (List ℕ) → Option (List ℕ)
left_of key area [] was = was
left_of key area (e ∷ es) was = left_of key area es (left_by key (effect_in area e) was)

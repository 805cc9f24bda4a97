-- An entry applied to a table in bytes, on any table and any count.
-- Assumes nothing.
use Rattle.std.specs.Prelude.{ℕ, List}
use Rattle.refusal.specs.Answer.{accepted}
use Rattle.table.specs.Row.{row_of}
use Rattle.table.specs.Change.{Changed, changed, set_of, remove_of}
use Rattle.store.specs.Effect.{Effect, puts, drops, keeps}

unfoldable pub change_of : Effect → (table : List ℕ) → (n : ℕ) → Changed
change_of (puts key value) table n = set_of table n (row_of key value)
change_of (drops key) table n = remove_of table n key
change_of keeps table n = changed (accepted n) table

-- "the table made by running, one after another .., the transactions": what an entry does is `effect_of` of `store`.
-- Assumes nothing.
use Rattle.std.specs.Prelude.{ℕ, Bool, false, cond, ◌&&◌, ◌||◌, List, [], ◌∷◌, eqb}
use Rattle.std.proofs.Math.Option.{Option, none, some}
use Rattle.payload.specs.Kind.{commit_kind, abort_kind}
use Rattle.payload.specs.Content.{Content}
use Rattle.table.specs.Row.{Row, row_of}
use Rattle.table.specs.Table.{set, remove_key}
use Rattle.store.specs.Effect.{Effect, puts, drops, keeps, effect_of}
use Rattle.crash.specs.Request.{Request, asked_by, Written}

-- what an entry that is asked for does to the table
abbrev pub effect_as : Option Content → Effect
effect_as none = keeps
effect_as (some content) = effect_of content

abbrev pub effect_by : Request → Effect
effect_by r = effect_as (asked_by r)

-- store's `changed_by` without a table's limits
unfoldable pub settle : Effect → List Row → List Row
settle (puts key value) rows = set (row_of key value) rows
settle (drops key) rows = remove_key key rows
settle keeps rows = rows

-- the entries of a number, in log order
unfoldable pub run_number : ℕ → List Written → List Row → List Row
run_number number [] rows = rows
run_number number (w ∷ ws) rows =
    run_number number ws (cond (eqb w.request.tx number) (settle (effect_by w.request) rows) rows)

-- the transactions of some numbers, "one after another"
unfoldable pub run_numbers : List ℕ → List Written → List Row → List Row
run_numbers [] ws rows = rows
run_numbers (n ∷ ns) ws rows = run_numbers ns ws (run_number n ws rows)

-- ---- "the transactions whose last kept marker is a commit"

abbrev pub is_commit : ℕ → Written → Bool
is_commit number w = eqb w.request.tx number && eqb w.request.kind commit_kind

abbrev pub is_marker : ℕ → Written → Bool
is_marker number w = is_commit number w || (eqb w.request.tx number && eqb w.request.kind abort_kind)

unfoldable pub has_marker : ℕ → List Written → Bool
has_marker number [] = false
has_marker number (w ∷ ws) = is_marker number w || has_marker number ws

-- a commit of the number, and no marker of it behind
unfoldable pub is_committed : ℕ → List Written → Bool
is_committed number [] = false
is_committed number (w ∷ ws) = cond (has_marker number ws) (is_committed number ws) (is_commit number w)

-- ---- "every key ever written"

-- a delete writes none
abbrev pub with_key : Effect → List (List ℕ) → List (List ℕ)
with_key (puts key value) keys = key ∷ keys
with_key (drops key) keys = keys
with_key keeps keys = keys

unfoldable pub keys_of : List Written → List (List ℕ)
keys_of [] = []
keys_of (w ∷ ws) = with_key (effect_by w.request) (keys_of ws)

abbrev pub number_of : Written → ℕ
number_of w = w.request.tx

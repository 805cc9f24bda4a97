-- What an operator asks of a key: which transactions touch it, and what each of them leaves of it.
-- Assumes nothing.
use Rattle.std.specs.Prelude.{ℕ, ◌≡◌, Bool, false, cond, ◌&&◌, ◌||◌, List, [], ◌∷◌, eqb}
use Rattle.std.proofs.Math.Option.{Option, none}
use Rattle.fields.specs.Order.{same_bytes}
use Rattle.store.specs.Effect.{Effect, puts, drops, keeps}
use Rattle.store.specs.Left.{left_by}
use Rattle.crash.specs.Request.{Written}
use Rattle.crash.specs.Settings.{effect_by}

-- an entry that sets or removes a key names it
unfoldable pub names : (key : List ℕ) → Effect → Bool
names key (puts k value) = same_bytes k key
names key (drops k) = same_bytes k key
names key keeps = false

-- whether an entry of the transaction names the key
unfoldable pub touches : (key : List ℕ) → (number : ℕ) → List Written → Bool
touches key number [] = false
touches key number (w ∷ ws) =
    (eqb w.request.tx number && names key (effect_by w.request)) || touches key number ws

-- none of the transaction's entries names the key
abbrev pub Untouched : (key : List ℕ) → List Written → ℕ → Type 0
Untouched key ws number = touches key number ws ≡ false

-- the key's value after the transaction's entries, from its value before
unfoldable pub leaves_from : (key : List ℕ) → (number : ℕ) → List Written → Option (List ℕ) → Option (List ℕ)
leaves_from key number [] was = was
leaves_from key number (w ∷ ws) was =
    leaves_from key number ws (cond (eqb w.request.tx number) (left_by key (effect_by w.request) was) was)

-- what a transaction that touches the key leaves of it: the last entry that names the key decides
unfoldable pub leaves : (key : List ℕ) → (number : ℕ) → List Written → Option (List ℕ)
leaves key number ws = leaves_from key number ws none

-- A segment read from its first byte to its end or its first damage, step by step.
-- Assumes nothing.
use Rattle.std.specs.Prelude.{ℕ, zero, suc, ◌-◌, List, [], ◌∷◌, drop}
use Rattle.entry.specs.Decode.{end_of}
use Rattle.entry.specs.declared.Place.{Place}
use Rattle.scan.specs.Step.{step_from}
use Rattle.scan.specs.declared.Step.{Step}
use Rattle.scan.specs.declared.Step.TheVariants.{Entry, End, Torn, WrongChecksum, Undecodable}

-- behind a payload whose checksum is right, what is read there
abbrev pub behind : {A : Type 0} → Step → A → (Place → A) → A
behind (Entry entry p) ends go = go p
behind (Undecodable p) ends go = go p
behind End ends go = ends
behind Torn ends go = ends
behind WrongChecksum ends go = ends

-- `on` makes a reading of a step and the reading of what stands behind it
module _ {A : Type 0} (ends : A) (on : Step → A → A) where
  -- s without its first k bytes is what is left of the segment from the offset `at`
  unfoldable pub walk : List ℕ → (k at : ℕ) → A
  walk [] k at = ends
  walk (b ∷ bs) (suc k) at = walk bs k at
  walk (b ∷ bs) zero at =
      on (step_from at (b ∷ bs))
      (behind (step_from at (b ∷ bs)) ends (λ p. walk bs (end_of p - at - 1) (end_of p)))

  unfoldable pub walk_from : List ℕ → (at : ℕ) → A
  walk_from segment at = walk (drop at segment) 0 at

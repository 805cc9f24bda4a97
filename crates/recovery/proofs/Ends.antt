-- What `let .. else` tells of a step in its `else`: it is none of the first variant.
-- Assumes nothing.
use Rattle.std.proofs.Common.{◌≡◌, refl, false}
use Rattle.entry.specs.declared.WalEntry.{WalEntry}
use Rattle.entry.specs.declared.Place.{Place}
use Rattle.scan.specs.declared.Step.{Step}
use Rattle.scan.specs.declared.Step.TheVariants.{Entry, End, Torn, WrongChecksum, Undecodable}
use Rattle.recovery.proofs.Reaches.{is_entry}

pub not_entry : (x : Step) → ((e : WalEntry) → (p : Place) → x ≡ Entry e p → ⊥) → is_entry x ≡ false
not_entry (Entry e p) h = absurd (h e p refl)
not_entry End h = refl
not_entry Torn h = refl
not_entry WrongChecksum h = refl
not_entry (Undecodable p) h = refl

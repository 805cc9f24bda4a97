-- Document 01, "Recovery": what is read of one segment. "Each ends that segment only".
-- Assumes nothing.
use Rattle.std.specs.Prelude.{ℕ, List, [], ◌∷◌}
use Rattle.entry.specs.declared.Place.{Place}
use Rattle.entry.specs.declared.WalEntry.{WalEntry}
use Rattle.scan.specs.Walk.{walk_from}
use Rattle.scan.specs.declared.Step.{Step}
use Rattle.scan.specs.declared.Step.TheVariants.{Entry, End, Torn, WrongChecksum, Undecodable}

-- a good entry, and its payload's place in the segment
pub record Good : Type 0 where
  pub entry : WalEntry
  pub payload : Place

pub record Reading : Type 0 where
  pub good : List Good
  pub partial : ℕ
  pub checksum : ℕ

abbrev pub nothing : Reading
nothing = record { good = []; partial = 0; checksum = 0 }

-- "a wrong checksum or undecodable payload is a checksum failure"
abbrev pub on_read : Step → Reading → Reading
on_read (Entry entry p) rest =
    record { good = record { entry = entry; payload = p } ∷ rest.good; partial = rest.partial; checksum = rest.checksum }
on_read End rest = nothing
on_read Torn rest = record { good = []; partial = 1; checksum = 0 }
on_read WrongChecksum rest = record { good = []; partial = 0; checksum = 1 }
on_read (Undecodable p) rest = record { good = []; partial = 0; checksum = 1 }

-- from an offset on
unfoldable pub read_from : List ℕ → (at : ℕ) → Reading
read_from segment at = walk_from nothing on_read segment at

unfoldable pub read_segment : List ℕ → Reading
read_segment segment = read_from segment 0

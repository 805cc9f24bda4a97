-- Document 01, "Recovery", truncation: a "segment's highest number". "That scan stops at a partial write or wrong checksum
-- but passes over an undecodable payload."
-- Assumes nothing.
use Rattle.std.specs.Prelude.{ℕ, max, List}
use Rattle.entry.specs.Parts.{tx_of}
use Rattle.scan.specs.Walk.{walk_from}
use Rattle.scan.specs.declared.Step.{Step}
use Rattle.scan.specs.declared.Step.TheVariants.{Entry, End, Torn, WrongChecksum, Undecodable}

abbrev pub on_highest : Step → ℕ → ℕ
on_highest (Entry entry p) rest = max (tx_of entry) rest
on_highest (Undecodable p) rest = rest
on_highest End rest = 0
on_highest Torn rest = 0
on_highest WrongChecksum rest = 0

unfoldable pub highest_from : List ℕ → (at : ℕ) → ℕ
highest_from segment at = walk_from 0 on_highest segment at

-- 0 where there is none
unfoldable pub highest_of : List ℕ → ℕ
highest_of segment = highest_from segment 0

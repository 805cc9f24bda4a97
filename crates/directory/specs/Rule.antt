-- Document 01's rule of the directory, and refusals 1 and 2: one definition, which every call cites.
-- Assumes nothing.
use Rattle.std.specs.Prelude.{Bool, true, cond, ◌&&◌, List, [], ◌∷◌, ℕ, ◌-◌, ◌/◌, leb, ltb, length}
use Rattle.std.specs.declared.option.Option.{Option}
use Rattle.std.specs.declared.option.Option.TheVariants.{None, Some}
use Rattle.refusal.specs.Answer.{Answer, refused, sound}
use Rattle.directory.specs.declared.lent.Lent.TheVariants.{Area, Directory}
use Rattle.directory.specs.declared.record.SegmentRecord.{SegmentRecord}
use Rattle.directory.specs.declared.rule.Last.{Last}
use Rattle.directory.specs.Lent.{fits_of}
use Rattle.directory.specs.Record.{records_of, end_of}

-- "Used ids strictly ascend"
abbrev pub id_after : Option Last → ℕ → Bool
id_after None id = true
id_after (Some last) id = ltb last.id id

-- "the end before it (0 for the first)"
abbrev pub end_before : Option Last → ℕ
end_before None = 0
end_before (Some last) = last.end

-- "each start is at or after the end before it"; "each end lies in the area", compared without adding
unfoldable pub lies_of : (area end : ℕ) → SegmentRecord → Bool
lies_of area end r = leb end r.start && leb r.start area && leb r.length (area - r.start)

unfoldable pub follows_of : (area : ℕ) → Option Last → SegmentRecord → Bool
follows_of area last r = id_after last r.id && lies_of area (end_before last) r

-- what the record after r comes after
abbrev pub after_record : SegmentRecord → Option Last
after_record r = Some (record { id = r.id; end = end_of r })

-- the used records, one after the other
unfoldable pub rule_from : (area : ℕ) → Option Last → List SegmentRecord → Bool
rule_from area last [] = true
rule_from area last (r ∷ rs) = follows_of area last r && rule_from area (after_record r) rs

-- "The directory comes with a used count, at most its records."
unfoldable pub directory_rule : (area : ℕ) → List ℕ → (used : ℕ) → Bool
directory_rule area directory used =
    leb used (length directory / 24) && rule_from area None (records_of used directory)

-- 1: "a buffer is over its most, or not whole records"; 2: "the directory breaks its rule";
-- "The lowest number that applies is given"
unfoldable pub test_of : (area : ℕ) → List ℕ → (used : ℕ) → Answer (Unit {0})
test_of area directory used =
    cond (fits_of Area area && fits_of Directory (length directory))
    (cond (directory_rule area directory used) sound (refused 2))
    (refused 1)

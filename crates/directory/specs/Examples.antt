-- Worked examples, by computation.
-- Assumes nothing.
use Rattle.std.specs.Prelude.{◌≡◌, refl, true, false, List, [], ◌++◌, ℕ, ◌-◌, ◌*◌, ◌^◌, replicate}
use Rattle.fields.specs.Le.{le_of, le_bytes}
use Rattle.refusal.specs.Answer.{refused, sound}
use Rattle.directory.specs.Lent.{fits_of}
use Rattle.directory.specs.Record.{record_at, record_bytes, records_of}
use Rattle.directory.specs.Rule.{lies_of, follows_of, rule_from, directory_rule, test_of}
use Rattle.directory.specs.declared.lent.Lent.TheVariants.{Area, Directory, Table}

-- a record's bytes
abbrev at : ℕ → ℕ → ℕ → List ℕ
at id start length = record_bytes (record { id = id; start = start; length = length })

most : fits_of Directory (24 * 4_096) ≡ true
unfolding fits_of
most = refl

over_its_most : fits_of Directory (24 * 4_097) ≡ false
unfolding fits_of
over_its_most = refl

area_over_its_most : fits_of Area 1_073_741_825 ≡ false
unfolding fits_of
area_over_its_most = refl

-- a buffer of no bytes is whole records, none
no_bytes : fits_of Table 0 ≡ true
unfolding fits_of
no_bytes = refl

empty_directory : test_of 0 [] 0 ≡ sound
unfolding test_of fits_of directory_rule rule_from records_of
empty_directory = refl

in_order : test_of 100 (at 1 0 40 ++ at 2 40 60) 2 ≡ sound
unfolding test_of fits_of directory_rule rule_from follows_of lies_of records_of record_at record_bytes le_of le_bytes
in_order = refl

-- a used id of 0, and a segment of length 0 that starts at the area's end
zero_and_empty : test_of 100 (at 0 0 40 ++ at 9 100 0) 2 ≡ sound
unfolding test_of fits_of directory_rule rule_from follows_of lies_of records_of record_at record_bytes le_of le_bytes
zero_and_empty = refl

-- unused records aren't tested
unused : test_of 100 (at 1 0 40 ++ at 1 0 2_000) 1 ≡ sound
unfolding test_of fits_of directory_rule rule_from follows_of lies_of records_of record_at record_bytes le_of le_bytes
unused = refl

equal_ids : test_of 100 (at 1 0 40 ++ at 1 40 60) 2 ≡ refused 2
unfolding test_of fits_of directory_rule rule_from follows_of lies_of records_of record_at record_bytes le_of le_bytes
equal_ids = refl

overlap : test_of 100 (at 1 0 40 ++ at 2 39 60) 2 ≡ refused 2
unfolding test_of fits_of directory_rule rule_from follows_of lies_of records_of record_at record_bytes le_of le_bytes
overlap = refl

one_past_the_area : test_of 100 (at 1 0 40 ++ at 2 40 61) 2 ≡ refused 2
unfolding test_of fits_of directory_rule rule_from follows_of lies_of records_of record_at record_bytes le_of le_bytes
one_past_the_area = refl

-- an end beyond the area, however large: added in 64 bits, this one would wrap to 1
large : test_of 100 (at 1 2 (2 ^ 64 - 1)) 1 ≡ refused 2
unfolding test_of fits_of directory_rule rule_from follows_of lies_of records_of record_at record_bytes le_of le_bytes
large = refl

used_over_records : test_of 100 (at 1 0 40) 2 ≡ refused 2
unfolding test_of fits_of directory_rule rule_from records_of record_bytes le_bytes
used_over_records = refl

-- 25 bytes are not whole records; 1 goes before 2
not_whole : test_of 100 (replicate 25 0) 2 ≡ refused 1
unfolding test_of fits_of
not_whole = refl

-- Worked examples, by computation. The names are written out as bytes.
-- Assumes nothing.
use Rattle.std.specs.Prelude.{◌≡◌, refl, Bool, true, false, List, [], ◌∷◌, ◌++◌, ℕ, ◌-◌, ◌^◌, length, replicate}
use Rattle.fields.specs.Order.{compare_bytes, same_bytes}
use Rattle.refusal.specs.Answer.{refused, accepted}
use Rattle.std.specs.declared.option.Option.{Option}
use Rattle.std.specs.declared.option.Option.TheVariants.{None, Some}
use Rattle.names.specs.declared.Parsed.{Parsed}
use Rattle.names.specs.Decimal.{digits_by, digits_of, padded, all_digits, value_after, number_after, number_in}
use Rattle.names.specs.Name.{prefix, suffix, name_of, name_into, is_framed, between, without_plus, parsed_as, read_of}

-- `wal-00000001.log`
first : name_of 1 ≡ 119 ∷ 97 ∷ 108 ∷ 45 ∷ 48 ∷ 48 ∷ 48 ∷ 48 ∷ 48 ∷ 48 ∷ 48 ∷ 49 ∷ 46 ∷ 108 ∷ 111 ∷ 103 ∷ []
unfolding prefix suffix digits_by digits_of padded name_of
first = refl

zero_digit : digits_of 0 ≡ 48 ∷ []
unfolding digits_by digits_of
zero_digit = refl

longest : length (name_of (2 ^ 64 - 1)) ≡ 28
unfolding prefix suffix digits_by digits_of padded name_of
longest = refl

-- a target of 17 bytes, and one that is too short by one
named :
    (name_into 1 (replicate 17 7) ≡ record { answer = accepted 16; target = name_of 1 ++ 7 ∷ [] })
    × (name_into 1 (replicate 15 7) ≡ record { answer = refused 1; target = replicate 15 7 })
unfolding prefix suffix digits_by digits_of padded name_of name_into
named = (refl, refl)

-- a name with this text between prefix and suffix
abbrev around : List ℕ → List ℕ
around text = prefix ++ text ++ suffix

abbrev parsed : (id : ℕ) → (kept : Bool) → Option Parsed
parsed id kept = Some (record { id = id; kept = kept })

reads :
    -- "`wal-1.log` reads as 1."
    (read_of (around (49 ∷ [])) ≡ parsed 1 false)
    -- `wal-+00000001.log`
    × (read_of (around (43 ∷ 48 ∷ 48 ∷ 48 ∷ 48 ∷ 48 ∷ 48 ∷ 48 ∷ 49 ∷ [])) ≡ parsed 1 false)
    -- `wal-123456789.log`
    × (read_of (around (49 ∷ 50 ∷ 51 ∷ 52 ∷ 53 ∷ 54 ∷ 55 ∷ 56 ∷ 57 ∷ [])) ≡ parsed 123456789 true)
    -- `wal-18446744073709551615.log`
    × (read_of (around (49 ∷ 56 ∷ 52 ∷ 52 ∷ 54 ∷ 55 ∷ 52 ∷ 52 ∷ 48 ∷ 55 ∷ 51 ∷ 55 ∷ 48 ∷ 57 ∷ 53 ∷ 53 ∷ 49 ∷ 54 ∷ 49 ∷ 53 ∷ [])) ≡ parsed (2 ^ 64 - 1) true)
    -- `wal-18446744073709551616.log`
    × (read_of (around (49 ∷ 56 ∷ 52 ∷ 52 ∷ 54 ∷ 55 ∷ 52 ∷ 52 ∷ 48 ∷ 55 ∷ 51 ∷ 55 ∷ 48 ∷ 57 ∷ 53 ∷ 53 ∷ 49 ∷ 54 ∷ 49 ∷ 54 ∷ [])) ≡ None)
    -- `wal-.log`
    × (read_of (around []) ≡ None)
    -- `wal-+.log`
    × (read_of (around (43 ∷ [])) ≡ None)
    -- `wal-++1.log`
    × (read_of (around (43 ∷ 43 ∷ 49 ∷ [])) ≡ None)
    -- `wal-1a.log`
    × (read_of (around (49 ∷ 97 ∷ [])) ≡ None)
    -- `wal-log`: the suffix is looked for after the prefix
    × (read_of (119 ∷ 97 ∷ 108 ∷ 45 ∷ 108 ∷ 111 ∷ 103 ∷ []) ≡ None)
    -- `val-1.log` and `wal-1.lug`
    × (read_of (118 ∷ 97 ∷ 108 ∷ 45 ∷ 49 ∷ 46 ∷ 108 ∷ 111 ∷ 103 ∷ []) ≡ None)
    × (read_of (119 ∷ 97 ∷ 108 ∷ 45 ∷ 49 ∷ 46 ∷ 108 ∷ 117 ∷ 103 ∷ []) ≡ None)
unfolding prefix suffix digits_by digits_of padded name_of all_digits value_after number_after number_in is_framed between without_plus parsed_as read_of compare_bytes same_bytes
reads = (refl, refl, refl, refl, refl, refl, refl, refl, refl, refl, refl, refl)

-- RFC 3629's examples of section 7, and its illegal sequences of sections 3 and 10, by computation.
use Rattle.std.specs.Prelude.{ℕ, ◌≡◌, refl, true, false, List, [], ◌∷◌}
use Rattle.utf8.specs.Grammar.{is_utf8, completes, any, after, begun, utf8_char, utf8_1, utf8_2, utf8_3, utf8_4, tail}
use Rattle.utf8.specs.Scalar.{encode_scalars, encode_scalar}

-- "A<NOT IDENTICAL TO><ALPHA>."
not_identical : List ℕ
not_identical = 0x41 ∷ 0xE2 ∷ 0x89 ∷ 0xA2 ∷ 0xCE ∷ 0x91 ∷ 0x2E ∷ []

-- the Korean "hangugeo"
hangugeo : List ℕ
hangugeo = 0xED ∷ 0x95 ∷ 0x9C ∷ 0xEA ∷ 0xB5 ∷ 0xAD ∷ 0xEC ∷ 0x96 ∷ 0xB4 ∷ []

-- the Japanese "nihongo"
nihongo : List ℕ
nihongo = 0xE6 ∷ 0x97 ∷ 0xA5 ∷ 0xE6 ∷ 0x9C ∷ 0xAC ∷ 0xE8 ∷ 0xAA ∷ 0x9E ∷ []

-- U+233B4, prepended with a UTF-8 BOM
stump : List ℕ
stump = 0xEF ∷ 0xBB ∷ 0xBF ∷ 0xF0 ∷ 0xA3 ∷ 0x8E ∷ 0xB4 ∷ []

encodings :
    (encode_scalars (0x41 ∷ 0x2262 ∷ 0x391 ∷ 0x2E ∷ []) ≡ not_identical)
    × (encode_scalars (0xD55C ∷ 0xAD6D ∷ 0xC5B4 ∷ []) ≡ hangugeo)
    × (encode_scalars (0x65E5 ∷ 0x672C ∷ 0x8A9E ∷ []) ≡ nihongo)
    × (encode_scalars (0xFEFF ∷ 0x233B4 ∷ []) ≡ stump)
unfolding not_identical hangugeo nihongo stump encode_scalars encode_scalar
encodings = (refl, refl, refl, refl)

accepted :
    (is_utf8 not_identical ≡ true)
    × (is_utf8 hangugeo ≡ true)
    × (is_utf8 nihongo ≡ true)
    × (is_utf8 stump ≡ true)
unfolding not_identical hangugeo nihongo stump is_utf8 completes any after begun utf8_char utf8_1 utf8_2 utf8_3 utf8_4 tail
accepted = (refl, refl, refl, refl)

-- section 3: "the overlong UTF-8 sequence C0 80", "the surrogate pair ED A1 8C ED BE B4";
-- section 10: "the illegal octet sequence 2F C0 AE 2E 2F"
refused :
    (is_utf8 (0xC0 ∷ 0x80 ∷ []) ≡ false)
    × (is_utf8 (0xED ∷ 0xA1 ∷ 0x8C ∷ 0xED ∷ 0xBE ∷ 0xB4 ∷ []) ≡ false)
    × (is_utf8 (0x2F ∷ 0xC0 ∷ 0xAE ∷ 0x2E ∷ 0x2F ∷ []) ≡ false)
unfolding is_utf8 completes any after begun utf8_char utf8_1 utf8_2 utf8_3 utf8_4 tail
refused = (refl, refl, refl)

-- the surrogate U+D800; a number past U+10FFFF; a character cut short; a tail alone
refused_too :
    (is_utf8 (0xED ∷ 0xA0 ∷ 0x80 ∷ []) ≡ false)
    × (is_utf8 (0xF4 ∷ 0x90 ∷ 0x80 ∷ 0x80 ∷ []) ≡ false)
    × (is_utf8 (0xE2 ∷ 0x89 ∷ []) ≡ false)
    × (is_utf8 (0x80 ∷ []) ≡ false)
unfolding is_utf8 completes any after begun utf8_char utf8_1 utf8_2 utf8_3 utf8_4 tail
refused_too = (refl, refl, refl, refl)

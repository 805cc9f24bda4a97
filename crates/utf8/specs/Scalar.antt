-- RFC 3629, section 3: the characters, and the octets of each.
use Rattle.std.specs.Prelude.{ℕ, ◌+◌, ◌≤◌, ◌<◌, ◌/◌, ◌%◌, cond, ◌⊎◌, leb}
use mathlib.Core.List.{List, [], ◌∷◌, ◌++◌, Memᴰ}

-- "characters from the U+0000..U+10FFFF range .. are encoded using sequences of 1 to 4 octets",
-- and it is prohibited to encode "character numbers between U+D800 and U+DFFF"
pub record Scalar (c : ℕ) : Type 0 where
  pub last : c ≤ 0x10FFFF
  pub apart : (c < 0xD800) ⊎ (0xDFFF < c)

abbrev pub Scalars : List ℕ → Type 0
Scalars cs = (c : ℕ) → Memᴰ c cs → Scalar c

-- 10xxxxxx, with the last six bits of n
abbrev pub tail_of : ℕ → ℕ
tail_of n = 0b1000_0000 + n % 64

-- Char. number range  | UTF-8 octet sequence
-- 0000 0000-0000 007F | 0xxxxxxx
-- 0000 0080-0000 07FF | 110xxxxx 10xxxxxx
-- 0000 0800-0000 FFFF | 1110xxxx 10xxxxxx 10xxxxxx
-- 0001 0000-0010 FFFF | 11110xxx 10xxxxxx 10xxxxxx 10xxxxxx
unfoldable pub encode_scalar : ℕ → List ℕ
encode_scalar c =
    cond (leb c 0x7F) (c ∷ [])
    (cond (leb c 0x7FF) ((0b1100_0000 + c / 64) ∷ tail_of c ∷ [])
    (cond (leb c 0xFFFF) ((0b1110_0000 + c / 4096) ∷ tail_of (c / 64) ∷ tail_of c ∷ [])
    ((0b1111_0000 + c / 262144) ∷ tail_of (c / 4096) ∷ tail_of (c / 64) ∷ tail_of c ∷ [])))

unfoldable pub encode_scalars : List ℕ → List ℕ
encode_scalars [] = []
encode_scalars (c ∷ cs) = encode_scalar c ++ encode_scalars cs

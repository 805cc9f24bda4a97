-- RFC 3629, section 4: the grammar of UTF-8 as data, what it means, and the test whether octets are of it.
use Rattle.std.specs.Prelude.{ℕ, ◌≤◌, Bool, true, false, cond, ◌&&◌, ◌||◌, leb}
use mathlib.Core.List.{List, [], ◌∷◌, ◌++◌, Memᴰ}

-- %x80-BF: an octet from low to high
pub record Range : Type 0 where
  pub low : ℕ
  pub high : ℕ

abbrev pub range : ℕ → ℕ → Range
range l h = record { low = l; high = h }

-- %xE0: this octet
abbrev pub octet : ℕ → Range
octet b = range b b

-- A rule is the list of its alternatives, an alternative the ranges of its octets in order.

-- UTF8-tail = %x80-BF
unfoldable pub tail : Range
tail = range 0x80 0xBF

-- UTF8-1 = %x00-7F
unfoldable pub utf8_1 : List (List Range)
utf8_1 = (range 0x00 0x7F ∷ []) ∷ []

-- UTF8-2 = %xC2-DF UTF8-tail
unfoldable pub utf8_2 : List (List Range)
utf8_2 = (range 0xC2 0xDF ∷ tail ∷ []) ∷ []

-- UTF8-3 = %xE0 %xA0-BF UTF8-tail / %xE1-EC 2( UTF8-tail ) /
--          %xED %x80-9F UTF8-tail / %xEE-EF 2( UTF8-tail )
unfoldable pub utf8_3 : List (List Range)
utf8_3 =
    (octet 0xE0 ∷ range 0xA0 0xBF ∷ tail ∷ [])
    ∷ (range 0xE1 0xEC ∷ tail ∷ tail ∷ [])
    ∷ (octet 0xED ∷ range 0x80 0x9F ∷ tail ∷ [])
    ∷ (range 0xEE 0xEF ∷ tail ∷ tail ∷ [])
    ∷ []

-- UTF8-4 = %xF0 %x90-BF 2( UTF8-tail ) / %xF1-F3 3( UTF8-tail ) /
--          %xF4 %x80-8F 2( UTF8-tail )
unfoldable pub utf8_4 : List (List Range)
utf8_4 =
    (octet 0xF0 ∷ range 0x90 0xBF ∷ tail ∷ tail ∷ [])
    ∷ (range 0xF1 0xF3 ∷ tail ∷ tail ∷ tail ∷ [])
    ∷ (octet 0xF4 ∷ range 0x80 0x8F ∷ tail ∷ tail ∷ [])
    ∷ []

-- UTF8-char = UTF8-1 / UTF8-2 / UTF8-3 / UTF8-4
unfoldable pub utf8_char : List (List Range)
utf8_char = utf8_1 ++ utf8_2 ++ utf8_3 ++ utf8_4

-- the octets lie in the ranges, one by one
pub data Within : List Range → List ℕ → Type 0 where
  all : Within [] []
  one : {r : Range} {rs : List Range} {b : ℕ} {bs : List ℕ} → r.low ≤ b → b ≤ r.high → Within rs bs → Within (r ∷ rs) (b ∷ bs)

-- UTF8-octets = *( UTF8-char )
pub data Octets : List ℕ → Type 0 where
  none : Octets []
  more : {alternative : List Range} {char rest : List ℕ} → Memᴰ alternative utf8_char → Within alternative char → Octets rest → Octets (char ++ rest)

-- The test. It goes octet by octet and keeps the ranges to come of the character that was begun.
abbrev pub holds : Range → ℕ → Bool
holds r b = leb r.low b && leb b r.high

-- what is to come of each alternative whose first range holds b
unfoldable pub begun : ℕ → List (List Range) → List (List Range)
begun b [] = []
begun b ([] ∷ others) = begun b others
begun b ((r ∷ rs) ∷ others) = cond (holds r b) (rs ∷ begun b others) (begun b others)

-- what may come after b, with the ranges rs to come at b: b begins a character where none was begun
unfoldable pub after : ℕ → List Range → List (List Range)
after b [] = begun b utf8_char
after b (r ∷ rs) = cond (holds r b) (rs ∷ []) []

unfoldable pub any : {A : Type 0} → (A → Bool) → List A → Bool
any p [] = false
any p (x ∷ xs) = p x || any p xs

-- the octets end the character that was begun, and characters follow
unfoldable pub completes : List Range → List ℕ → Bool
completes [] [] = true
completes (r ∷ rs) [] = false
completes rs (b ∷ bs) = any (λ left. completes left bs) (after b rs)

unfoldable pub is_utf8 : List ℕ → Bool
is_utf8 bs = completes [] bs

-- Decimal numerals as bytes: the digits of a number, and the number of digits.
-- Assumes nothing.
use Rattle.std.specs.Prelude.{Bool, true, false, cond, ◌&&◌, List, [], ◌∷◌, ◌++◌, ℕ, zero, suc, ◌+◌, ◌-◌, ◌*◌, ◌/◌, ◌%◌, ◌^◌, leb, ltb, length, replicate}
use Rattle.std.specs.declared.option.Option.{Option}
use Rattle.std.specs.declared.option.Option.TheVariants.{None, Some}

-- the byte of a digit: `0` is 48, `9` is 57
abbrev pub byte_of : ℕ → ℕ
byte_of d = 48 + d

abbrev pub is_digit : ℕ → Bool
is_digit b = leb 48 b && leb b 57

-- the digits of n, the first one first; `single`: n is below 10. There are `most` of them at most
unfoldable pub digits_by : ℕ → Bool → ℕ → List ℕ
digits_by zero single n = []
digits_by (suc most) true n = byte_of n ∷ []
digits_by (suc most) false n = digits_by most (ltb (n / 10) 10) (n / 10) ++ byte_of (n % 10) ∷ []

-- the decimal digits of n, the first one first; `0` for zero
unfoldable pub digits_of : ℕ → List ℕ
digits_of n = digits_by (suc n) (ltb n 10) n

-- zeros in front, where there are fewer digits than the width
unfoldable pub padded : ℕ → List ℕ → List ℕ
padded width digits = replicate (width - length digits) (byte_of 0) ++ digits

-- the lowest digits of n, as many as the width says, the first one first
unfoldable pub low_digits : ℕ → ℕ → List ℕ
low_digits zero n = []
low_digits (suc w) n = low_digits w (n / 10) ++ byte_of (n % 10) ∷ []

unfoldable pub all_digits : List ℕ → Bool
all_digits [] = true
all_digits (b ∷ bs) = is_digit b && all_digits bs

-- the number that v becomes when digits are written after it
unfoldable pub value_after : ℕ → List ℕ → ℕ
value_after v [] = v
value_after v (b ∷ bs) = value_after (10 * v + (b - byte_of 0)) bs

abbrev pub value_of : List ℕ → ℕ
value_of digits = value_after 0 digits

-- digits written after v, if the number is below 2^64
unfoldable pub number_after : ℕ → List ℕ → Option ℕ
number_after v digits = cond (all_digits digits && ltb (value_after v digits) (2 ^ 64)) (Some (value_after v digits)) None

-- "one or more digits .., below 2^64"
unfoldable pub number_in : List ℕ → Option ℕ
number_in [] = None
number_in (b ∷ bs) = number_after 0 (b ∷ bs)

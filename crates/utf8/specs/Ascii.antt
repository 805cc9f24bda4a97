-- Octets that are all UTF8-1, which the code passes eight at a time.
use Rattle.std.specs.Prelude.{ℕ, Bool, true, cond, ◌&&◌, List, [], ◌∷◌, leb, ltb, length, take, drop}
use Rattle.std.specs.declared.option.Option.{Option}
use Rattle.std.specs.declared.option.Option.TheVariants.{None, Some}

-- every octet is UTF8-1
unfoldable pub ascii : List ℕ → Bool
ascii [] = true
ascii (b ∷ bs) = ltb b 0x80 && ascii bs

-- what stands behind the first eight octets, if there are eight and every one is UTF8-1
unfoldable pub behind_ascii : List ℕ → Option (List ℕ)
behind_ascii bytes = cond (leb 8 (length bytes) && ascii (take 8 bytes)) (Some (drop 8 bytes)) None

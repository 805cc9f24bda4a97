-- What the states of the code stand for.
use Rattle.std.specs.Prelude.{ℕ, zero, suc, List, [], ◌∷◌, replicate}
use Rattle.std.specs.declared.option.Option.{Option}
use Rattle.std.specs.declared.option.Option.TheVariants.{None, Some}
use Rattle.utf8.specs.Grammar.{Range, range, tail}
use Rattle.utf8.specs.declared.Awaited.{Awaited}

-- n octets: the first in the range r, the others tails
abbrev pub ranges : ℕ → Range → List Range
ranges zero r = []
ranges (suc n) r = r ∷ replicate n tail

abbrev pub ranges_of : Awaited → List Range
ranges_of s = ranges s.left (range s.low s.high)

-- what may come after an octet: nothing, or one sequence of ranges
abbrev pub next_of : Option Awaited → List (List Range)
next_of None = []
next_of (Some s) = ranges_of s ∷ []

-- A text cut at the first byte of a kind.
use Rattle.std.specs.Prelude.{◌≡◌, ◌==◌, ℕ, ◌+◌, ◌≤◌, min, List, length, take}
use Rattle.std.specs.List.{position}
use Rattle.std.specs.Option.{unwrap_or}
use Rattle.console.specs.declared.Cut.{Cut}

-- how many bytes stand before the first b, all of them where there is none
abbrev pub before_of : ℕ → List ℕ → ℕ
before_of b text = unwrap_or (position (λ x. x == b) text) (length text)

-- the byte that is cut at is passed too, where there is one
abbrev pub cut_of : ℕ → List ℕ → Cut
cut_of b text =
    record {
      before = before_of b text;
      passed = min (length text) (before_of b text + 1);
    }

-- the first n bytes can be lent by their count, and there are n of them. The second part follows from the first, and
-- spares a caller that lends them a proof
abbrev pub IsPrefixLen : ℕ → List ℕ → Type 0
IsPrefixLen n text = (n ≤ length text) × (n ≡ length (take n text))

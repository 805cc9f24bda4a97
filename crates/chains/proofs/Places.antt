-- Where the spare bytes of a record begin, held against the end of the bytes.
-- Assumes nothing.
use mathlib.Core.Path.{◌≡◌, sym, ◌∙◌}
use mathlib.Core.List.{List}
use Prim.Native.Nat.{ℕ, ◌+◌, ◌*◌, ◌≤◌, min}
use native.Mathlib.Omega.{arith}
use lib.Dec.{leb}
use lib.ListN.{length, drop_of_length-le}
use lib.Seq.{sets}
use Rattle.fields.specs.Le.{le_of, le_bytes, num_at}
use Rattle.fields.proofs.Cases.{case_b, tests}
use Rattle.fields.proofs.Stores.{sets_out}
use Rattle.chains.specs.Link.{spare_at, with_spare}

-- past the end nothing is read and nothing written
pub spare_read : (size offset : ℕ) (s : List ℕ) (k at : ℕ) → at ≡ min (size * k + offset) (length s) → num_at at 7 s ≡ spare_at size offset s k
unfolding spare_at le_of
spare_read size offset s k at e =
    case_b (leb (size * k + offset) (length s))
    (λ q. let f : at ≡ size * k + offset = omega (arith, tests) in rw f)
    (λ q.
    let f : length s ≤ at = omega (arith, tests) in
    let g : length s ≤ size * k + offset = omega (arith, tests) in
    rw (drop_of_length-le s f, drop_of_length-le s g))

pub spare_put : (size offset : ℕ) (s : List ℕ) (k link at : ℕ) → at ≡ min (size * k + offset) (length s) → sets s at (le_bytes 7 link) ≡ with_spare size offset s k link
unfolding with_spare
spare_put size offset s k link at e =
    case_b (leb (size * k + offset) (length s))
    (λ q. let f : at ≡ size * k + offset = omega (arith, tests) in rw f)
    (λ q.
    sets_out s (le_bytes 7 link) at (omega (arith, tests)) ∙ sym (sets_out s (le_bytes 7 link) (size * k + offset) (omega (arith, tests))))

-- The bytes of entries one behind the other, and the places where they end.
-- Assumes nothing.
use mathlib.Core.Path.{◌≡◌, refl}
use mathlib.Core.Bool.{true}
use mathlib.Core.List.{List, [], ◌∷◌, ◌++◌, append_assoc, append-nil}
use Prim.Native.Nat.{ℕ, ◌+◌}
use native.Mathlib.Omega.{arith}
use lib.ListN.{length, length-append}
use Rattle.header.specs.Header.{entry_bytes}
use Rattle.payload.specs.Encode.{is_well_formed}
use Rattle.segment.proofs.Logs.{entry_length}
use Rattle.crash.specs.Request.{Request, Typed, asked_by, encoded, Written}

-- what the entry call accepted
pub record Accepted (r : Request) : Type 0 where
  pub typed : Typed r
  pub well_formed : is_well_formed (asked_by r) ≡ true

unfoldable pub image_of : List Request → List ℕ
image_of [] = []
image_of (r ∷ rs) = entry_bytes (encoded r) ++ image_of rs

-- where entries end that stand one behind the other from a place on
unfoldable pub written_from : (at : ℕ) → List Request → List Written
written_from at [] = []
written_from at (r ∷ rs) =
    record { request = r; end = at + (13 + length (encoded r)) } ∷ written_from (at + (13 + length (encoded r))) rs

pub image_append : (rs ss : List Request) → image_of (rs ++ ss) ≡ image_of rs ++ image_of ss
unfolding image_of
image_append [] ss = refl
image_append (r ∷ rs) ss = rw (image_append rs ss, append_assoc)

pub image_one : (r : Request) → image_of (r ∷ []) ≡ entry_bytes (encoded r)
unfolding image_of
image_one r = append-nil (entry_bytes (encoded r))

-- an entry's bytes and those behind it
pub image_length : (r : Request) (rs : List Request) → length (image_of (r ∷ rs)) ≡ 13 + length (encoded r) + length (image_of rs)
unfolding image_of
image_length r rs = rw (length-append, entry_length)

-- one more entry at the end
pub image_snoc : (rs : List Request) (r : Request) → image_of (rs ++ (r ∷ [])) ≡ image_of rs ++ entry_bytes (encoded r)
image_snoc rs r = rw (image_append rs (r ∷ []), image_one r)

pub length_snoc : (rs : List Request) (r : Request) → length (image_of (rs ++ (r ∷ []))) ≡ length (image_of rs) + (13 + length (encoded r))
length_snoc rs r = rw (image_snoc rs r, length-append, entry_length)

pub written_snoc : (at : ℕ) (rs : List Request) (r : Request) → written_from at (rs ++ (r ∷ [])) ≡ written_from at rs ++ (record { request = r; end = at + (length (image_of rs) + (13 + length (encoded r))) } ∷ [])
unfolding image_of written_from
written_snoc at [] r = let e : at + (13 + length (encoded r)) ≡ at + (0 + (13 + length (encoded r))) = omega arith in rw e
written_snoc at (q ∷ rs) r =
    let n = 13 + length (encoded q) in
    let e : at + n + (length (image_of rs) + (13 + length (encoded r))) ≡ at + (length (image_of (q ∷ rs)) + (13 + length (encoded r))) = omega (arith, image_length q rs) in
    rw (written_snoc (at + n) rs r, e)

-- What `encode` is asked to write, and what it answers and leaves in the target.
-- Assumes nothing.
use Rattle.std.specs.Prelude.{ℕ, ◌+◌, ◌≡◌, Bool, false, cond, List, [], ◌∷◌, ◌++◌, leb, length, sum_by}
use denote.Ref.{Bor}
use Rattle.std.specs.declared.result.Result.{Result}
use Rattle.std.specs.declared.result.Result.TheVariants.{Ok, Err}
use Rattle.std.proofs.Math.Option.{Option, none, some}
use Rattle.std.proofs.lemmas.List.Edits.{sets}
use Rattle.payload.specs.Kind.{by_kind}
use Rattle.payload.specs.Content.{Content, insert, update, delete, commit, abort, part_bytes, payload_of, well_formed}
use Rattle.payload.specs.declared.EncodeError.{EncodeError}
use Rattle.payload.specs.declared.EncodeError.TheVariants.{NotWellFormed, NoRoom}

-- "looks only at the parts their kind has"; an insert's value is the new one, a delete's the old one; none for a kind over 4
unfoldable pub asked : (kind : ℕ) (key old new : List ℕ) → Option Content
asked kind key old new =
    by_kind kind (some (insert key new)) (some (update key old new)) (some (delete key old)) (some commit) (some abort) none

abbrev pub is_well_formed : Option Content → Bool
is_well_formed none = false
is_well_formed (some content) = well_formed content

-- its payload; what no kind asks for has none
abbrev pub payload_for : (tx time : ℕ) → Option Content → List ℕ
payload_for tx time none = []
payload_for tx time (some content) = payload_of tx time content

-- what a call that writes a payload gives back: how many bytes it wrote, and the target
pub record Encoding : Type 0 where
  pub answer : Result ℕ EncodeError
  pub target : List ℕ

abbrev pub encoding : Result ℕ EncodeError → (target : List ℕ) → Encoding
encoding answer target = record { answer = answer; target = target }

-- a payload at the front of a target: all of it, or nothing where it does not fit
unfoldable pub put_of : (payload target : List ℕ) → Encoding
put_of payload target =
    cond (leb (length payload) (length target))
    (encoding (Ok (length payload)) (sets target 0 payload))
    (encoding (Err NoRoom) target)

-- the payload of what is asked for, if that is well-formed
unfoldable pub encode_of : Option Content → (tx time : ℕ) → (target : List ℕ) → Encoding
encode_of content tx time target =
    cond (is_well_formed content) (put_of (payload_for tx time content) target) (encoding (Err NotWellFormed) target)

-- parts, one behind the other, and how long they are
unfoldable pub joined : List (Bor (List ℕ)) → List ℕ
joined [] = []
joined (part ∷ parts) = part_bytes part.now ++ joined parts

abbrev pub joined_length : List (Bor (List ℕ)) → ℕ
joined_length parts = sum_by (λ part. 8 + length part.now) parts

-- bytes put into a target: the place behind them, and the target
pub record Put (before : List ℕ) (at : ℕ) (bytes after : List ℕ) (r : ℕ) : Type 0 where
  pub next : r ≡ at + length bytes
  pub target : after ≡ sets before at bytes

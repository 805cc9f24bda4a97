-- Document 01, "Names": writing and reading the name of a segment's file.
-- Assumes nothing.
use Rattle.std.specs.Prelude.{Bool, cond, ◌&&◌, List, [], ◌∷◌, ◌++◌, ℕ, ◌+◌, ◌-◌, leb, eqb, length, take, drop}
use Rattle.std.proofs.lemmas.List.Edits.{sets}
use Rattle.fields.specs.Order.{same_bytes}
use Rattle.std.specs.declared.option.Option.{Option}
use Rattle.std.specs.declared.option.Option.TheVariants.{None, Some}
use Rattle.std.specs.declared.result.Result.{Result}
use Rattle.refusal.specs.declared.Refusal.{Refusal}
use Rattle.refusal.specs.Answer.{Answer, refused, accepted, answer_of}
use Rattle.names.specs.declared.Parsed.{Parsed}
use Rattle.names.specs.Decimal.{digits_of, padded, number_in}

-- `wal-`
unfoldable pub prefix : List ℕ
prefix = 119 ∷ 97 ∷ 108 ∷ 45 ∷ []

-- `.log`
unfoldable pub suffix : List ℕ
suffix = 46 ∷ 108 ∷ 111 ∷ 103 ∷ []

-- "A segment's file is `wal-`, the id padded to at least 8 digits, `.log`."
unfoldable pub name_of : ℕ → List ℕ
name_of id = prefix ++ padded 8 (digits_of id) ++ suffix

-- the name's length, or the refusal; and the target
pub record Naming : Type 0 where
  pub answer : Answer ℕ
  pub target : List ℕ

-- what a call gave back, with the target that it left
abbrev pub naming : Result ℕ Refusal → (target : List ℕ) → Naming
naming r target = record { answer = answer_of r; target = target }

-- "Writing leaves the bytes after the name unchanged."; refusal 1: "a target for a name .. is too short for it"
unfoldable pub name_into : (id : ℕ) → (target : List ℕ) → Naming
name_into id target =
    cond (leb (length (name_of id)) (length target))
    (record { answer = accepted (length (name_of id)); target = sets target 0 (name_of id) })
    (record { answer = refused 1; target = target })

-- the prefix is there, and the suffix after it
unfoldable pub is_framed : List ℕ → Bool
is_framed name =
    leb (length prefix + length suffix) (length name)
    && same_bytes (take (length prefix) name) prefix
    && same_bytes (drop (length name - length suffix) name) suffix

-- what stands between them
unfoldable pub between : List ℕ → List ℕ
between name = take (length name - (length prefix + length suffix)) (drop (length prefix) name)

-- that, if the name has both
unfoldable pub text_of : List ℕ → Option (List ℕ)
text_of name = cond (is_framed name) (Some (between name)) None

-- "an optional leading `+`"
unfoldable pub without_plus : List ℕ → List ℕ
without_plus [] = []
without_plus (b ∷ bs) = cond (eqb b 43) bs (b ∷ bs)

-- "the id and whether writing it gives the same name back"
unfoldable pub parsed_as : List ℕ → Option ℕ → Option Parsed
parsed_as name None = None
parsed_as name (Some id) = Some (record { id = id; kept = same_bytes name (name_of id) })

-- "Reading a name takes one or more digits with an optional leading `+`, below 2^64."
unfoldable pub read_of : List ℕ → Option Parsed
read_of name = cond (is_framed name) (parsed_as name (number_in (without_plus (between name)))) None

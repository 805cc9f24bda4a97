-- What a payload is decoded to. "Decoding fails on another kind, on a length beyond what is left, or on a key that isn't
-- UTF-8. Bytes left over after a good entry are allowed."
-- Assumes nothing.
use Rattle.std.specs.Prelude.{ℕ, ◌≡◌, MatchOption, ◌+◌, ◌-◌, cond, List, leb, length, take, drop}
use Rattle.std.specs.Bool.{then_some}
use Rattle.std.specs.Option.{option_and_then}
use Rattle.std.specs.declared.option.Option.{Option}
use Rattle.std.specs.declared.option.Option.TheVariants.{None, Some}
use Rattle.fields.specs.Le.{num_at}
use Rattle.utf8.specs.Grammar.{is_utf8}
use Rattle.payload.specs.Kind.{by_kind}
use Rattle.payload.specs.Content.{Content, insert, update, delete, commit, abort, fixed_length}
use Rattle.entry.specs.declared.Place.{Place}
use Rattle.entry.specs.declared.WalEntry.{WalEntry}
use Rattle.entry.specs.declared.WalEntry.TheVariants.{Insert, Update, Delete, Commit, Abort}
use Rattle.entry.specs.declared.decoding.Decoded.{Decoded}
use Rattle.entry.specs.declared.decoding.Pair.{Pair}

-- the bytes at a place, and the place's end
abbrev pub bytes_at : List ℕ → Place → List ℕ
bytes_at s p = take p.len (drop p.start s)

abbrev pub end_of : Place → ℕ
end_of p = p.start + p.len

-- "A key or value is an 8-byte length and its bytes."
unfoldable pub part_at : List ℕ → ℕ → Option Place
part_at s at =
    cond (leb 8 (length s - at))
    (cond (leb (num_at at 8 s) (length s - at - 8)) (Some (record { start = at + 8; len = num_at at 8 s })) None)
    None

-- a part whose bytes are UTF-8; here and below, a part that fails makes the whole fail
unfoldable pub key_at : List ℕ → ℕ → Option Place
key_at s at = option_and_then (λ key. then_some (is_utf8 (bytes_at s key)) key) (part_at s at)

-- a key, and one part behind it
unfoldable pub pair_at : List ℕ → Option Pair
pair_at s =
    option_and_then
    (λ key. option_and_then (λ part. Some (record { key = key; part = part })) (part_at s (end_of key)))
    (key_at s fixed_length)

-- an entry, with how many bytes it took
abbrev pub decoded : WalEntry → (used : ℕ) → Option Decoded
decoded entry used = Some (record { entry = entry; used = used })

-- "Insert key, value", "Delete key, old value"
unfoldable pub key_and_part : List ℕ → (Place → Place → WalEntry) → Option Decoded
key_and_part s entry =
    option_and_then (λ pair. decoded (entry pair.key pair.part) (end_of pair.part)) (pair_at s)

-- the result, where the entry is one that may be made of the key and the part
abbrev pub MadeOf : List ℕ → (Place → Place → WalEntry → Type 0) → Option Decoded → Type 0
MadeOf s makes r =
    MatchOption r (pair_at s ≡ None) (λ d. (pair : Pair) × (pair_at s ≡ Some pair) × makes pair.key pair.part d.entry × (d.used ≡ end_of pair.part))

-- "Update key, old value, new value"
unfoldable pub update_at : List ℕ → ℕ → ℕ → Option Decoded
update_at s tx time =
    option_and_then
    (λ pair. option_and_then
    (λ new. decoded (Update tx time pair.key pair.part new) (end_of new))
    (part_at s (end_of pair.part)))
    (pair_at s)

abbrev pub body_at : List ℕ → (kind tx time : ℕ) → Option Decoded
body_at s kind tx time =
    by_kind kind (key_and_part s (Insert tx time)) (update_at s tx time) (key_and_part s (Delete tx time))
    (decoded (Commit tx time) fixed_length)
    (decoded (Abort tx time) fixed_length)
    None

-- "a 4-byte kind .., tx number, timestamp; then .." the parts that the kind has
unfoldable pub decode_of : List ℕ → Option Decoded
decode_of s = cond (leb fixed_length (length s)) (body_at s (num_at 0 4 s) (num_at 4 8 s) (num_at 12 8 s)) None

-- what a decoded entry says, read off its payload
unfoldable pub content_at : List ℕ → WalEntry → Content
content_at s (Insert tx time key value) = insert (bytes_at s key) (bytes_at s value)
content_at s (Update tx time key old new) = update (bytes_at s key) (bytes_at s old) (bytes_at s new)
content_at s (Delete tx time key old) = delete (bytes_at s key) (bytes_at s old)
content_at s (Commit tx time) = commit
content_at s (Abort tx time) = abort

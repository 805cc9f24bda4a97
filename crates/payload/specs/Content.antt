-- An entry as the log means it, with the bytes of its key and values; its payload; and when it is well-formed.
-- Assumes nothing.
use Rattle.std.specs.Prelude.{ℕ, Bool, true, ◌&&◌, List, [], ◌++◌, leb, length}
use Rattle.fields.specs.Le.{le_bytes}
use Rattle.utf8.specs.Grammar.{is_utf8}
use Rattle.payload.specs.Kind.{insert_kind, update_kind, delete_kind, commit_kind, abort_kind}

pub data Content : Type 0 where
  insert : (key value : List ℕ) → Content
  update : (key old new : List ℕ) → Content
  delete : (key old : List ℕ) → Content
  commit : Content
  abort : Content

abbrev pub kind_number : Content → ℕ
kind_number (insert key value) = insert_kind
kind_number (update key old new) = update_kind
kind_number (delete key old) = delete_kind
kind_number commit = commit_kind
kind_number abort = abort_kind

-- "a 4-byte kind .., tx number, timestamp"
unfoldable pub fixed_bytes : ℕ → ℕ → ℕ → List ℕ
fixed_bytes kind tx time = le_bytes 4 kind ++ (le_bytes 8 tx ++ le_bytes 8 time)

-- their length: 4, 8 and 8
abbrev pub fixed_length : ℕ
fixed_length = 20

-- "A key or value is an 8-byte length and its bytes."
unfoldable pub part_bytes : List ℕ → List ℕ
part_bytes bytes = le_bytes 8 (length bytes) ++ bytes

-- "then Insert key, value; Update key, old value, new value; Delete key, old value"
abbrev pub parts_bytes : Content → List ℕ
parts_bytes (insert key value) = part_bytes key ++ part_bytes value
parts_bytes (update key old new) = part_bytes key ++ (part_bytes old ++ part_bytes new)
parts_bytes (delete key old) = part_bytes key ++ part_bytes old
parts_bytes commit = []
parts_bytes abort = []

unfoldable pub payload_of : ℕ → ℕ → Content → List ℕ
payload_of tx time content = fixed_bytes (kind_number content) tx time ++ parts_bytes content

-- what can be decoded: "Decoding fails .. on a key that isn't UTF-8."
unfoldable pub readable : Content → Bool
readable (insert key value) = is_utf8 key
readable (update key old new) = is_utf8 key
readable (delete key old) = is_utf8 key
readable commit = true
readable abort = true

-- refused with 3: "key not UTF-8 or over 64 bytes, or a value over 252"
unfoldable pub key_fits : List ℕ → Bool
key_fits key = leb (length key) 64 && is_utf8 key

unfoldable pub value_fits : List ℕ → Bool
value_fits value = leb (length value) 252

unfoldable pub well_formed : Content → Bool
well_formed (insert key value) = key_fits key && value_fits value
well_formed (update key old new) = key_fits key && (value_fits old && value_fits new)
well_formed (delete key old) = key_fits key && value_fits old
well_formed commit = true
well_formed abort = true

-- The payload that a record of the entry list leads to.
-- Assumes nothing.
use Rattle.std.specs.Prelude.{ℕ, ◌+◌, ◌≤◌, ◌≡◌, true, is_some, List, length, take, drop}
use Rattle.entry.specs.Decode.{decode_of}
use Rattle.lists.specs.declared.entries.EntryRecord.{EntryRecord}

unfoldable pub payload_in : (area : List ℕ) → EntryRecord → List ℕ
payload_in area e = take e.len (drop e.place area)

-- it lies in the area, and decodes
pub record EntryIn (area : List ℕ) (e : EntryRecord) : Type 0 where
  pub end : e.place + e.len ≤ length area
  pub decodes : is_some (decode_of (payload_in area e)) ≡ true

-- Document 01: the entry list's record, "32 bytes: tx number, place of payload in area, payload length, kind byte, 7 zeros".
-- Assumes nothing.
use Rattle.std.specs.Prelude.{ℕ, ◌+◌, ◌^◌, ◌<◌, max, List, [], ◌∷◌, ◌++◌, replicate}
use Rattle.fields.specs.Le.{le_bytes, num_at}
use Rattle.entry.specs.Parts.{tx_of, kind_of}
use Rattle.entry.specs.declared.Place.{Place}
use Rattle.entry.specs.declared.WalEntry.{WalEntry}
use Rattle.lists.specs.declared.entries.EntryRecord.{EntryRecord}

-- what the list says of an entry whose payload has a place in a segment that starts at `base`
abbrev pub listed : (base : ℕ) → WalEntry → Place → EntryRecord
listed base entry payload =
    record { tx_id = tx_of entry; place = base + payload.start; len = payload.len; kind = kind_of entry }

-- an entry whose numbers have 8 bytes and whose kind has one
pub record EntryFits (e : EntryRecord) : Type 0 where
  pub tx_id : e.tx_id < 2 ^ 64
  pub place : e.place < 2 ^ 64
  pub len : e.len < 2 ^ 64
  pub kind : e.kind < 256

unfoldable pub entry_record_bytes : EntryRecord → List ℕ
entry_record_bytes e = le_bytes 8 e.tx_id ++ (le_bytes 8 e.place ++ (le_bytes 8 e.len ++ (le_bytes 1 e.kind ++ replicate 7 0)))

-- the record at the front of the bytes
unfoldable pub entry_record_at : List ℕ → EntryRecord
entry_record_at s = record { tx_id = num_at 0 8 s; place = num_at 8 8 s; len = num_at 16 8 s; kind = num_at 24 1 s }

-- the highest number of the entries, markers too; 0 where there are none
unfoldable pub highest_in : List EntryRecord → ℕ
highest_in [] = 0
highest_in (e ∷ es) = max e.tx_id (highest_in es)

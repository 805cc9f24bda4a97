-- Document 01, "Entry bytes": "A header is 13 bytes: payload length (8), CRC-32 of the payload (4), version 1."
-- Assumes nothing.
use Rattle.std.specs.Prelude.{Bool, List, ◌++◌, ℕ, eqb, length}
use Rattle.fields.specs.Le.{le_bytes, num_at}
use Rattle.crc32.specs.Crc.{crc32_of}
use Rattle.header.specs.declared.WalEntryHeader.{WalEntryHeader}

-- the header of a payload
unfoldable pub header_of : List ℕ → WalEntryHeader
header_of payload = record { length = length payload; checksum = crc32_of payload; version = 1 }

-- its 13 bytes
unfoldable pub header_bytes : WalEntryHeader → List ℕ
header_bytes h = le_bytes 8 h.length ++ (le_bytes 4 h.checksum ++ le_bytes 1 h.version)

-- an entry's bytes: its header, and then the payload
unfoldable pub entry_bytes : List ℕ → List ℕ
entry_bytes payload = header_bytes (header_of payload) ++ payload

-- the header at the front of a list of bytes
unfoldable pub header_at : List ℕ → WalEntryHeader
header_at s = record { length = num_at 0 8 s; checksum = num_at 8 4 s; version = num_at 12 1 s }

-- "CRC-32 of the payload": whether the header's checksum is a payload's
unfoldable pub valid_for : WalEntryHeader → List ℕ → Bool
valid_for h payload = eqb (crc32_of payload) h.checksum

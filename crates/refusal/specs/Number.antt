-- Document 01, "Refusal numbers": the number of each refusal.
-- Assumes nothing.
use Rattle.std.specs.Prelude.{ℕ}
use Rattle.refusal.specs.declared.Refusal.{Refusal}
use Rattle.refusal.specs.declared.Refusal.TheVariants.{InvalidBuffer, InvalidDirectory, InvalidEntry, NoNextSegmentId, NoRoom, EntryListFull, TransactionsFull, ExceedsTableRecord, TableFull, NoNewCheckpoints}

abbrev pub number_of : Refusal → ℕ
-- a buffer is over its most, or not whole records, or a target for a name or a checkpoint is too short for it
number_of InvalidBuffer = 1
-- the directory breaks its rule, or append finds a used count of 0
number_of InvalidDirectory = 2
-- entry call: kind over 4, key not UTF-8 or over 64 bytes, or a value over 252
number_of InvalidEntry = 3
-- a new segment is needed and the last id is 2^64 - 1
number_of NoNextSegmentId = 4
-- a new segment finds no unused directory record, or 13 + payload exceeds the area left after the last segment's end
number_of NoRoom = 5
-- more accepted entries than entry records
number_of EntryListFull = 6
-- more distinct numbers than transaction records
number_of TransactionsFull = 7
-- replay: the first unappliable entry is an insert or update with key over 64 or new value over 252
number_of ExceedsTableRecord = 8
-- replay: the first unappliable entry fits but needs a new record in a full table
number_of TableFull = 9
-- checkpoint: no committed number exceeds the stored one
number_of NoNewCheckpoints = 10

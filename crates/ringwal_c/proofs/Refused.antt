-- 0 is no refusal's number: a host tells by it that a call was not refused.
-- Assumes nothing.
use Prim.Native.Nat.{◌<◌}
use native.Mathlib.Omega.{arith}
use Rattle.refusal.specs.Number.{number_of}
use Rattle.refusal.specs.declared.Refusal.{Refusal}
use Rattle.refusal.specs.declared.Refusal.TheVariants.{InvalidBuffer, InvalidDirectory, InvalidEntry, NoNextSegmentId, NoRoom, EntryListFull, TransactionsFull, ExceedsTableRecord, TableFull, NoNewCheckpoints}

pub not_0 : (refusal : Refusal) → 0 < number_of refusal
not_0 InvalidBuffer = omega arith
not_0 InvalidDirectory = omega arith
not_0 InvalidEntry = omega arith
not_0 NoNextSegmentId = omega arith
not_0 NoRoom = omega arith
not_0 EntryListFull = omega arith
not_0 TransactionsFull = omega arith
not_0 ExceedsTableRecord = omega arith
not_0 TableFull = omega arith
not_0 NoNewCheckpoints = omega arith

-- Document 01, "Recovery": what stands at an offset of a segment, one of five answers.
-- Assumes nothing.
use Rattle.std.specs.Prelude.{ℕ, ◌+◌, ◌-◌, cond, List, leb, ltb, eqb, length, take, drop}
use Rattle.std.specs.declared.option.Option.{Option}
use Rattle.std.specs.declared.option.Option.TheVariants.{None, Some}
use Rattle.std.specs.declared.result.Result.{Result}
use Rattle.std.specs.declared.result.Result.TheVariants.{Ok, Err}
use Rattle.header.specs.Header.{header_at, valid_for}
use Rattle.header.specs.declared.WalEntryHeader.{WalEntryHeader}
use Rattle.entry.specs.Decode.{decode_of}
use Rattle.entry.specs.declared.Place.{Place}
use Rattle.entry.specs.declared.WalEntry.{WalEntry}
use Rattle.entry.specs.declared.decoding.Decoded.{Decoded}
use Rattle.scan.specs.declared.Damage.{Damage}
use Rattle.scan.specs.declared.Damage.TheVariants as Damages
use Rattle.scan.specs.declared.Step.{Step}
use Rattle.scan.specs.declared.Step.TheVariants.{Entry, End, Torn, WrongChecksum, Undecodable}

abbrev pub judged_as : Option Decoded → Result WalEntry Damage
judged_as None = Err Damages.Undecodable
judged_as (Some decoded) = Ok decoded.entry

-- a header with its payload: "a wrong checksum or undecodable payload". The version isn't tested.
unfoldable pub judge_of : WalEntryHeader → List ℕ → Result WalEntry Damage
judge_of h payload = cond (valid_for h payload) (judged_as (decode_of payload)) (Err Damages.WrongChecksum)

abbrev pub step_as : Place → Result WalEntry Damage → Step
step_as p (Err Damages.WrongChecksum) = WrongChecksum
step_as p (Err Damages.Undecodable) = Undecodable p
step_as p (Ok entry) = Entry entry p

-- s is what is left of a segment from the offset `at`: "fewer than 13 bytes left but at least 1 is a partial write; a
-- length above what is left is a partial write"
unfoldable pub step_from : (at : ℕ) → List ℕ → Step
step_from at s =
    cond (eqb (length s) 0) End
    (cond (ltb (length s) 13) Torn
    (cond (leb (header_at s).length (length s - 13))
    (step_as (record { start = at + 13; len = (header_at s).length }) (judge_of (header_at s) (take (header_at s).length (drop 13 s))))
    Torn))

-- an offset at or beyond the segment's end is the end
unfoldable pub step_at : List ℕ → (at : ℕ) → Step
step_at segment at = step_from at (drop at segment)

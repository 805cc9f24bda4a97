-- A decoded entry as a C host has it.
-- Assumes nothing.
use Rattle.std.specs.declared.option.Option.{Option}
use Rattle.std.specs.declared.option.Option.TheVariants.{None, Some}
use Rattle.entry.specs.Parts.{tx_of, time_of, kind_of}
use Rattle.entry.specs.declared.Place.{Place}
use Rattle.entry.specs.declared.WalEntry.{WalEntry}
use Rattle.entry.specs.declared.WalEntry.TheVariants.{Insert, Update, Delete, Commit, Abort}
use Rattle.entry.specs.declared.decoding.Decoded.{Decoded}
use Rattle.ringwal_c.specs.declared.decoding.Span.{Span}
use Rattle.ringwal_c.specs.declared.decoding.Parts.{Parts}
use Rattle.ringwal_c.specs.declared.decoding.DecodeAnswer.{DecodeAnswer}

abbrev pub span_of : Place → Span
span_of place = record { start = place.start; len = place.len }

abbrev pub no_span : Span
no_span = record { start = 0; len = 0 }

abbrev pub no_parts : Parts
no_parts = record { key = no_span; old_value = no_span; new_value = no_span }

-- an insert's value is the new one, a delete's the old one
abbrev pub parts_of : WalEntry → Parts
parts_of (Insert tx time key value) = record { key = span_of key; old_value = no_span; new_value = span_of value }
parts_of (Update tx time key old new) = record { key = span_of key; old_value = span_of old; new_value = span_of new }
parts_of (Delete tx time key old) = record { key = span_of key; old_value = span_of old; new_value = no_span }
parts_of (Commit tx time) = no_parts
parts_of (Abort tx time) = no_parts

abbrev pub refused_answer : DecodeAnswer
refused_answer = record { is_entry = 0; kind = 0; tx_id = 0; timestamp = 0; used = 0; parts = no_parts }

-- "A decoding answer is either an unnumbered refusal or the entry"
abbrev pub decode_answer : Option Decoded → DecodeAnswer
decode_answer None = refused_answer
decode_answer (Some decoded) =
    record {
      is_entry = 1;
      kind = kind_of decoded.entry;
      tx_id = tx_of decoded.entry;
      timestamp = time_of decoded.entry;
      used = decoded.used;
      parts = parts_of decoded.entry;
    }

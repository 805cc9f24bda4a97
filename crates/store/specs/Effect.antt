-- Document 01: what an entry does to the table. "Insert and update set; delete of an absent key, over-long ones too, does
-- nothing. Old values aren't looked at."
-- Assumes nothing.
use Rattle.std.specs.Prelude.{ℕ, List}
use Rattle.std.specs.declared.option.Option.{Option}
use Rattle.std.specs.declared.option.Option.TheVariants.{None, Some}
use Rattle.payload.specs.Content.{Content, insert, update, delete, commit, abort}
use Rattle.entry.specs.Decode.{decode_of, content_at}
use Rattle.entry.specs.declared.decoding.Decoded.{Decoded}
use Rattle.lists.specs.declared.entries.EntryRecord.{EntryRecord}
use Rattle.recovery.specs.Payload.{payload_in}

pub data Effect : Type 0 where
  puts : (key value : List ℕ) → Effect
  drops : (key : List ℕ) → Effect
  keeps : Effect

unfoldable pub effect_of : Content → Effect
effect_of (insert key value) = puts key value
effect_of (update key old new) = puts key new
effect_of (delete key old) = drops key
effect_of commit = keeps
effect_of abort = keeps

abbrev pub effect_at : (payload : List ℕ) → Option Decoded → Effect
effect_at payload None = keeps
effect_at payload (Some decoded) = effect_of (content_at payload decoded.entry)

-- of a listed entry
unfoldable pub effect_in : (area : List ℕ) → EntryRecord → Effect
effect_in area e = effect_at (payload_in area e) (decode_of (payload_in area e))

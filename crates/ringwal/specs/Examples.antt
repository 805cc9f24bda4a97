-- A walk by computation: the insert of the bench readings and its commit, whole and cut.
-- Assumes nothing.
use Rattle.std.specs.Prelude.{◌≡◌, refl, [], ◌∷◌, map, ℕ, take}
use Rattle.fields.specs.Le.{le_of, le_bytes}
use Rattle.crc32.specs.Crc.{bit_step, bit_steps, byte_step, register, crc32_of}
use Rattle.utf8.specs.Grammar.{is_utf8, completes, any, after, begun, utf8_char, utf8_1, utf8_2, utf8_3, utf8_4, tail}
use Rattle.header.specs.Header.{header_of, header_bytes, entry_bytes, header_at, valid_for}
use Rattle.payload.specs.Kind.{by_kind}
use Rattle.payload.specs.Content.{fixed_bytes, part_bytes, payload_of}
use Rattle.entry.specs.Decode.{part_at, key_at, pair_at, key_and_part, decode_of}
use Rattle.entry.specs.declared.WalEntry.TheVariants.{Commit}
use Rattle.scan.specs.Step.{judge_of, step_from, step_at}
use Rattle.scan.specs.declared.Step.TheVariants.{Entry, End, Torn}
use Rattle.ringwal.specs.Walker.{walked_at}
use Rattle.ringwal.specs.Readings.{insert_then_commit}

-- from the first byte to the end, and again at the end
offsets : map (λ (at : ℕ). (walked_at insert_then_commit at).at) (0 ∷ 51 ∷ 84 ∷ []) ≡ 51 ∷ 84 ∷ 84 ∷ []
unfolding insert_then_commit walked_at step_at step_from judge_of entry_bytes payload_of fixed_bytes part_bytes header_bytes header_of header_at valid_for le_bytes le_of crc32_of register byte_step bit_steps bit_step decode_of by_kind key_and_part pair_at key_at part_at is_utf8 completes any after begun utf8_char utf8_1 utf8_2 utf8_3 utf8_4 tail
offsets = refl

-- one entry a call
second : walked_at insert_then_commit 51 ≡ record { step = Entry (Commit 1 6) (record { start = 64; len = 20 }); at = 84 }
unfolding insert_then_commit walked_at step_at step_from judge_of entry_bytes payload_of fixed_bytes part_bytes header_bytes header_of header_at valid_for le_bytes le_of crc32_of register byte_step bit_steps bit_step decode_of by_kind
second = refl

-- damage of any kind is answered and leaves the offset
torn : walked_at (take 83 insert_then_commit) 51 ≡ record { step = Torn; at = 51 }
unfolding insert_then_commit walked_at step_at step_from entry_bytes payload_of fixed_bytes part_bytes header_bytes header_of header_at le_bytes le_of
torn = refl

-- an offset at or beyond the length is the end
beyond : walked_at insert_then_commit 90 ≡ record { step = End; at = 90 }
unfolding insert_then_commit walked_at step_at step_from entry_bytes payload_of fixed_bytes part_bytes header_bytes header_of le_bytes
beyond = refl

-- Document 01, "Bench readings" of the entry's bytes, by computation.
-- Assumes nothing.
use Rattle.std.specs.Prelude.{◌≡◌, refl, true, false, List, [], ◌∷◌, ◌++◌, ℕ, length, replicate}
use Rattle.std.proofs.Math.Option.{some}
use Rattle.std.specs.declared.option.Option.TheVariants.{None}
use Rattle.std.specs.declared.result.Result.TheVariants.{Ok, Err}
use Rattle.fields.specs.Le.{le_of, le_bytes}
use Rattle.crc32.specs.Crc.{bit_step, bit_steps, byte_step, register, crc32_of}
use Rattle.header.specs.Header.{header_of, header_bytes}
use Rattle.payload.specs.Kind.{by_kind}
use Rattle.payload.specs.Content.{insert, commit, fixed_bytes, part_bytes, payload_of, key_fits, value_fits, well_formed}
use Rattle.payload.specs.Encode.{asked, encoding, put_of, encode_of}
use Rattle.payload.specs.declared.EncodeError.TheVariants.{NotWellFormed, NoRoom}
use Rattle.utf8.specs.Grammar.{is_utf8, completes, any, after, begun, utf8_char, utf8_1, utf8_2, utf8_3, utf8_4, tail}
use Rattle.entry.specs.Decode.{part_at, decoded, decode_of, key_and_part, pair_at, key_at}
use Rattle.entry.specs.declared.WalEntry.TheVariants.{Commit}

-- "Commit, number 7, time 1: payload 03 00 00 00, 07 and seven 00, 01 and seven 00; 33 bytes with header."
commit_seven : List ℕ
commit_seven = 3 ∷ 0 ∷ 0 ∷ 0 ∷ 7 ∷ 0 ∷ 0 ∷ 0 ∷ 0 ∷ 0 ∷ 0 ∷ 0 ∷ 1 ∷ 0 ∷ 0 ∷ 0 ∷ 0 ∷ 0 ∷ 0 ∷ 0 ∷ []

commit_seven_lem : payload_of 7 1 commit ≡ commit_seven
unfolding commit_seven payload_of fixed_bytes le_bytes
commit_seven_lem = refl

commit_seven_whole : length (header_bytes (header_of commit_seven) ++ commit_seven) ≡ 33
unfolding commit_seven header_bytes header_of le_bytes crc32_of register byte_step bit_steps bit_step
commit_seven_whole = refl

-- in a target of 21 bytes and one of 19; and a kind over 4
commit_seven_put :
    (encode_of (some commit) 7 1 (replicate 21 9) ≡ encoding (Ok 20) (commit_seven ++ 9 ∷ []))
    × (encode_of (some commit) 7 1 (replicate 19 9) ≡ encoding (Err NoRoom) (replicate 19 9))
    × (encode_of (asked 5 [] [] []) 7 1 (replicate 21 9) ≡ encoding (Err NotWellFormed) (replicate 21 9))
unfolding commit_seven encode_of put_of asked by_kind well_formed payload_of fixed_bytes le_bytes
commit_seven_put = (refl, refl, refl)

commit_seven_back : decode_of commit_seven ≡ decoded (Commit 7 1) 20
unfolding commit_seven decode_of le_of by_kind
commit_seven_back = refl

-- "Insert number 1 of key `a`, one value byte: payload 38, entry 51."
insert_one : length (payload_of 1 5 (insert (97 ∷ []) (9 ∷ []))) ≡ 38
unfolding payload_of fixed_bytes part_bytes le_bytes
insert_one = refl

-- with its header, 51
insert_one_whole : length (header_bytes (header_of (payload_of 1 5 (insert (97 ∷ []) (9 ∷ [])))) ++ payload_of 1 5 (insert (97 ∷ []) (9 ∷ []))) ≡ 51
unfolding payload_of fixed_bytes part_bytes header_bytes header_of le_bytes
insert_one_whole = refl

-- another kind, and a payload of 19 bytes
kind_five : decode_of (5 ∷ replicate 19 0) ≡ None
unfolding decode_of le_of by_kind
kind_five = refl

too_short : decode_of (3 ∷ replicate 18 0) ≡ None
unfolding decode_of
too_short = refl

-- a key's length of 2^64 - 1
endless_key : decode_of (replicate 20 0 ++ (replicate 8 255 ++ (97 ∷ []))) ≡ None
unfolding decode_of le_of by_kind key_and_part pair_at key_at part_at
endless_key = refl

-- a key that is not UTF-8
key_not_utf8 : decode_of (payload_of 1 5 (insert (255 ∷ []) (9 ∷ []))) ≡ None
unfolding payload_of fixed_bytes part_bytes le_bytes decode_of le_of by_kind key_and_part pair_at key_at part_at is_utf8 completes any after begun utf8_char utf8_1 utf8_2 utf8_3 utf8_4 tail
key_not_utf8 = refl

-- "Key of 64 and value of 252 fit; 65 and 253 are refused."
value_252 : value_fits (replicate 252 0) ≡ true
unfolding value_fits
value_252 = refl

value_253 : value_fits (replicate 253 0) ≡ false
unfolding value_fits
value_253 = refl

key_65 : key_fits (replicate 65 97) ≡ false
unfolding key_fits
key_65 = refl

-- 64 octets of ASCII
key_64 : key_fits (replicate 64 97) ≡ true
unfolding key_fits is_utf8 completes any after begun utf8_char utf8_1 utf8_2 utf8_3 utf8_4 tail
key_64 = refl

-- Laws of the header: its bytes are 13, it is read back as it was written, and written as it was read.
-- Assumes nothing.
use mathlib.Core.Path.{◌≡◌, refl, ◌∙◌}
use mathlib.Core.List.{List, ◌++◌, append_assoc}
use Prim.Native.Nat.{ℕ, ◌+◌, ◌^◌, ◌<◌, ◌≤◌}
use native.Mathlib.Omega.{arith}
use borrow.Author.Tests.{eq-eqb}
use mathlib.Core.Bool.{true}
use lib.Dec.{lit<}
use lib.ListN.{length, drop, replicate, length-append, length-drop, take-append-drop}
use lib.Seq.{sets, take_all, drop-drop}
use Rattle.fields.specs.Le.{Bytes, le_bytes, num_at}
use Rattle.fields.proofs.Numbers.{length_bytes, num_front, num_skip, field_back}
use Rattle.fields.proofs.Stores.{sets_join, sets_all}
use Rattle.crc32.specs.Crc.{crc32_of}
use Rattle.crc32.proofs.Register.{crc32_fits}
use Rattle.header.specs.Header.{header_of, header_bytes, header_at, valid_for}
use Rattle.header.specs.declared.WalEntryHeader.{WalEntryHeader}

pub header_length : (h : WalEntryHeader) → length (header_bytes h) ≡ 13
unfolding header_bytes
header_length h = simp (length-append, length_bytes)

-- three stores into 13 bytes are the header's bytes
pub header_stored : (h : WalEntryHeader) → sets (sets (sets (replicate {A = ℕ} 13 0) 0 (le_bytes 8 h.length)) 8 (le_bytes 4 h.checksum)) 12 (le_bytes 1 h.version) ≡ header_bytes h
unfolding header_bytes
header_stored h =
    let zeros = replicate {A = ℕ} 13 0 in
    let a = le_bytes 8 h.length in
    let b = le_bytes 4 h.checksum in
    let v = le_bytes 1 h.version in
    let e : 8 ≡ 0 + length a = rw length_bytes (omega arith) in
    let f : 12 ≡ 0 + length (a ++ b) = rw (length-append, length_bytes, length_bytes) (omega arith) in
    let n : length ((a ++ b) ++ v) ≡ length zeros = rw (length-append, length-append, length_bytes, length_bytes, length_bytes) refl in
    rw (sets_join zeros a b 0 8 e, sets_join zeros (a ++ b) v 0 12 f, sets_all zeros ((a ++ b) ++ v) n, append_assoc a b v)

-- there and back, whatever stands behind
pub header_back : (h : WalEntryHeader) (rest : List ℕ) → h.length < 2 ^ 64 → h.checksum < 2 ^ 32 → h.version < 256 → header_at (header_bytes h ++ rest) ≡ h
unfolding header_at header_bytes
header_back h rest l c v =
    let a = le_bytes 8 h.length in
    let b = le_bytes 4 h.checksum in
    let d = le_bytes 1 h.version in
    let e : (a ++ (b ++ d)) ++ rest ≡ a ++ (b ++ (d ++ rest)) = simp append_assoc in
    let first : num_at 0 8 (a ++ (b ++ (d ++ rest))) ≡ h.length = num_front 8 h.length (b ++ (d ++ rest)) l in
    let second : num_at 8 4 (a ++ (b ++ (d ++ rest))) ≡ h.checksum =
    num_skip a (b ++ (d ++ rest)) 8 0 4 (length_bytes 8 h.length) ∙ num_front 4 h.checksum (d ++ rest) c in
    let third : num_at 12 1 (a ++ (b ++ (d ++ rest))) ≡ h.version =
    num_skip a (b ++ (d ++ rest)) 8 4 1 (length_bytes 8 h.length)
    ∙ num_skip b (d ++ rest) 4 0 1 (length_bytes 4 h.checksum)
    ∙ num_front 1 h.version rest v in
    rw (e, first, second, third)

-- back and there
pub header_there : (s : List ℕ) → length s ≡ 13 → Bytes s → header_bytes (header_at s) ≡ s
unfolding header_at header_bytes
header_there s n b =
    let h : 12 + 1 ≤ length s = omega arith in
    let k : 8 + 4 ≤ length s = omega arith in
    let m : 0 + 8 ≤ length s = omega arith in
    let last : length (drop 12 s) ≤ 1 = rw length-drop (omega arith) in
    let joined : drop 4 (drop 8 s) ≡ drop 12 s = drop-drop 4 8 s in
    rw (field_back s 0 8 m b, field_back s 8 4 k b, field_back s 12 1 h b, take_all 1 (drop 12 s) last, ← joined, take-append-drop 4 (drop 8 s))
    (take-append-drop 8 s)

-- a payload's own header, read back, is valid for it
pub header_of_back : (payload rest : List ℕ) → Bytes payload → length payload < 2 ^ 64 → header_at (header_bytes (header_of payload) ++ rest) ≡ header_of payload
unfolding header_of
header_of_back payload rest b n = header_back (header_of payload) rest n (crc32_fits payload b) (lit< tt)

pub header_of_valid : (payload : List ℕ) → valid_for (header_of payload) payload ≡ true
unfolding header_of valid_for
header_of_valid payload = eq-eqb (crc32_of payload) (crc32_of payload) refl

-- The laws of the entry list's record: there and back, and its code.
-- Assumes nothing.
use Rattle.std.proofs.Common.{◌≡◌, ℕ, ◌+◌, ◌/◌, ◌<◌, List, ◌++◌, length, replicate, ◌∙◌, append_assoc, arith, length-append}
use lib.Seq.{sets}
use Rattle.fields.specs.Le.{le_bytes, num_at}
use Rattle.fields.proofs.Numbers.{length_bytes, num_front, num_skip}
use Rattle.fields.proofs.Stores.{sets_join}
use Rattle.lists.specs.Entries.{EntryFits, entry_record_at, entry_record_bytes}
use Rattle.lists.specs.declared.entries.EntryRecord.{EntryRecord}

-- a byte and 7 zeros are a number of 8 bytes
pub byte_and_zeros : (v : ℕ) → v < 256 → le_bytes 8 v ≡ le_bytes 1 v ++ replicate 7 0
unfolding le_bytes
byte_and_zeros v h =
    let e : v / 256 ≡ 0 = omega arith in
    rw e

pub length-entry : (e : EntryRecord) → length (entry_record_bytes e) ≡ 32
unfolding entry_record_bytes
length-entry e = simp (length-append, length_bytes)

-- an entry that was written is read back, whatever stands after it
pub entry_back : (e : EntryRecord) (rest : List ℕ) → EntryFits e → entry_record_at (entry_record_bytes e ++ rest) ≡ e
unfolding entry_record_at entry_record_bytes
entry_back e rest h =
    let t = le_bytes 8 e.tx_id in
    let p = le_bytes 8 e.place in
    let l = le_bytes 8 e.len in
    let k = le_bytes 1 e.kind in
    let z = replicate {A = ℕ} 7 0 ++ rest in
    let a : (t ++ (p ++ (l ++ (k ++ replicate 7 0)))) ++ rest ≡ t ++ (p ++ (l ++ (k ++ z))) = simp append_assoc in
    let second : num_at 8 8 (t ++ (p ++ (l ++ (k ++ z)))) ≡ e.place =
    num_skip t (p ++ (l ++ (k ++ z))) 8 0 8 (length_bytes 8 e.tx_id) ∙ num_front 8 e.place (l ++ (k ++ z)) h.place in
    let third : num_at 16 8 (t ++ (p ++ (l ++ (k ++ z)))) ≡ e.len =
    num_skip t (p ++ (l ++ (k ++ z))) 8 8 8 (length_bytes 8 e.tx_id)
    ∙ num_skip p (l ++ (k ++ z)) 8 0 8 (length_bytes 8 e.place)
    ∙ num_front 8 e.len (k ++ z) h.len in
    let fourth : num_at 24 1 (t ++ (p ++ (l ++ (k ++ z)))) ≡ e.kind =
    num_skip t (p ++ (l ++ (k ++ z))) 8 16 1 (length_bytes 8 e.tx_id)
    ∙ num_skip p (l ++ (k ++ z)) 8 8 1 (length_bytes 8 e.place)
    ∙ num_skip l (k ++ z) 8 0 1 (length_bytes 8 e.len)
    ∙ num_front 1 e.kind z h.kind in
    rw (a, num_front 8 e.tx_id (p ++ (l ++ (k ++ z))) h.tx_id, second, third, fourth)

-- ---- the code of one record

-- four numbers one after the other are a record
pub put_four : (e : EntryRecord) (s : List ℕ) (at : ℕ) → e.kind < 256 → sets (sets (sets (sets s at (le_bytes 8 e.tx_id)) (at + 8) (le_bytes 8 e.place)) (at + 16) (le_bytes 8 e.len)) (at + 24) (le_bytes 8 e.kind) ≡ sets s at (entry_record_bytes e)
unfolding entry_record_bytes
put_four e s at h =
    let t = le_bytes 8 e.tx_id in
    let p = le_bytes 8 e.place in
    let l = le_bytes 8 e.len in
    let k = le_bytes 1 e.kind ++ replicate 7 0 in
    rw (byte_and_zeros e.kind h)
    (sets_join (sets (sets s at t) (at + 8) p) l k (at + 16) (at + 24) (rw length_bytes (omega arith))
    ∙ sets_join (sets s at t) p (l ++ k) (at + 8) (at + 16) (rw length_bytes (omega arith))
    ∙ sets_join s t (p ++ (l ++ k)) at (at + 8) (rw length_bytes))

-- What decodes is exactly the payload of content that can be read, followed by any bytes.
-- Assumes nothing.
use mathlib.Core.Path.{◌≡◌, refl, sym, ap, ap₂, ◌∙◌}
use mathlib.Core.Logic.{◌↔◌}
use mathlib.Core.List.{List, ◌++◌, append_assoc, append-nil}
use Prim.Native.Nat.{ℕ, ◌+◌, ◌^◌, ◌<◌, ◌≤◌}
use native.Mathlib.Omega.{arith}
use lib.ListN.{length, take, drop, length-drop, take-append-drop}
use lib.Seq.{length-take-le, take-add}
use Rattle.fields.specs.Le.{Bytes, num_at}
use Rattle.fields.proofs.Numbers.{field_back, num_below}
use Rattle.payload.specs.Content.{kind_number, fixed_bytes, part_bytes, parts_bytes, payload_of, readable}
use Rattle.entry.specs.Parts.{tx_of, time_of, kind_of}
use Rattle.entry.specs.Decode.{bytes_at, end_of, decoded, decode_of, content_at}
use Rattle.entry.specs.declared.Place.{Place}
use Rattle.entry.specs.declared.WalEntry.{WalEntry}
use Rattle.entry.specs.declared.WalEntry.TheVariants.{Insert, Update, Delete, Commit, Abort}
use Rattle.entry.proofs.Places.{PartIs, Laid, DecodedIs, decode_within}
use Rattle.entry.proofs.RoundTrip.{behind, placed, Readable, decode_payload}

-- the bytes begin with the payload of what the entry says, and the entry says where its parts stand
pub record Begins (s : List ℕ) (e : WalEntry) (used : ℕ) : Type 0 where
  pub tx : tx_of e < 2 ^ 64
  pub time : time_of e < 2 ^ 64
  pub content : Readable (content_at s e)
  pub end : used ≤ length s
  pub payload : take used s ≡ payload_of (tx_of e) (time_of e) (content_at s e)
  pub places : e ≡ placed (tx_of e) (time_of e) (content_at s e)

-- ---- the bytes at the front

-- the first `at` bytes
record Front (s bytes : List ℕ) (at : ℕ) : Type 0 where
  within : at ≤ length s
  same : take at s ≡ bytes

module _ (s : List ℕ) (bytes : Bytes s) where
  fixed_front : 20 ≤ length s → Front s (fixed_bytes (num_at 0 4 s) (num_at 4 8 s) (num_at 12 8 s)) 20
  unfolding fixed_bytes
  fixed_front h =
      record {
        within = h;
        same = rw (field_back s 0 4 (omega arith) bytes, field_back s 4 8 (omega arith) bytes, field_back s 12 8 (omega arith) bytes, ← append_assoc, ← take-add 4 8 s, ← take-add 12 8 s);
      }

  part_length : (at : ℕ) (p : Place) → PartIs s at p → length (bytes_at s p) ≡ p.len
  part_length at p w = length-take-le p.len (drop p.start s) (rw length-drop (omega arith))

  part_front : (done : List ℕ) (at : ℕ) (p : Place) → Front s done at → PartIs s at p → Front s (done ++ part_bytes (bytes_at s p)) (end_of p)
  unfolding part_bytes
  part_front done at p f w =
      let h : at + 8 ≤ length s = omega arith in
      let e : end_of p ≡ at + 8 + p.len = omega arith in
      record {
        within = w.end;
        same = rw (e, part_length at p w, w.start, w.len, field_back s at 8 h bytes, ← f.same, take-add (at + 8) (num_at at 8 s) s, take-add at 8 s, append_assoc);
      }

  -- ---- where the parts stand

  place_is : (at there : ℕ) (p : Place) → at ≡ there → PartIs s at p → p ≡ behind there (bytes_at s p)
  place_is at there p e w =
      let start : p.start ≡ there + 8 = omega arith in
      λ i. record { start = start i; len = sym (part_length at p w) i }

  second_at : (key : Place) → PartIs s 20 key → end_of key ≡ 28 + length (bytes_at s key)
  second_at key w = omega (arith, part_length 20 key w)

  places_of : (e : WalEntry) (used : ℕ) → Laid s e used → e ≡ placed (tx_of e) (time_of e) (content_at s e)
  unfolding content_at
  places_of (Insert tx time key value) used l =
      ap₂ (Insert tx time) (place_is 20 20 key refl l.0.part) (place_is (end_of key) _ value (second_at key l.0.part) l.1)
  places_of (Update tx time key old new) used l =
      let k = place_is 20 20 key refl l.0.part in
      let o = place_is (end_of key) _ old (second_at key l.0.part) l.1 in
      let n = place_is (end_of old) (28 + length (bytes_at s key) + 8 + length (bytes_at s old)) new (omega (arith, second_at key l.0.part, part_length (end_of key) old l.1)) l.2 in
      λ i. Update tx time (k i) (o i) (n i)
  places_of (Delete tx time key old) used l =
      ap₂ (Delete tx time) (place_is 20 20 key refl l.0.part) (place_is (end_of key) _ old (second_at key l.0.part) l.1)
  places_of (Commit tx time) used l = refl
  places_of (Abort tx time) used l = refl

  -- ---- what the parts say

  part_short : (at : ℕ) (p : Place) → PartIs s at p → length (bytes_at s p) < 2 ^ 64
  part_short at p w = rw (part_length at p w, w.len) (num_below s at 8 8 (omega arith) bytes)

  content_of : (e : WalEntry) (used : ℕ) → Laid s e used → Readable (content_at s e)
  unfolding content_at readable
  content_of (Insert tx time key value) used l =
      record { utf8 = l.0.utf8; short = (part_short 20 key l.0.part, part_short (end_of key) value l.1) }
  content_of (Update tx time key old new) used l =
      record { utf8 = l.0.utf8; short = (part_short 20 key l.0.part, part_short (end_of key) old l.1, part_short (end_of old) new l.2) }
  content_of (Delete tx time key old) used l =
      record { utf8 = l.0.utf8; short = (part_short 20 key l.0.part, part_short (end_of key) old l.1) }
  content_of (Commit tx time) used l = record { utf8 = refl; short = tt }
  content_of (Abort tx time) used l = record { utf8 = refl; short = tt }

  kind_of_lem : (e : WalEntry) → kind_number (content_at s e) ≡ kind_of e
  unfolding content_at
  kind_of_lem (Insert tx time key value) = refl
  kind_of_lem (Update tx time key old new) = refl
  kind_of_lem (Delete tx time key old) = refl
  kind_of_lem (Commit tx time) = refl
  kind_of_lem (Abort tx time) = refl

  front_of : (e : WalEntry) (used : ℕ) → 20 ≤ length s → Laid s e used → take used s ≡ fixed_bytes (num_at 0 4 s) (num_at 4 8 s) (num_at 12 8 s) ++ parts_bytes (content_at s e)
  unfolding content_at
  front_of (Insert tx time key value) used h l =
      let f = part_front _ (end_of key) value (part_front _ 20 key (fixed_front h) l.0.part) l.1 in
      rw (l.2, ← append_assoc) f.same
  front_of (Update tx time key old new) used h l =
      let f = part_front _ (end_of old) new (part_front _ (end_of key) old (part_front _ 20 key (fixed_front h) l.0.part) l.1) l.2 in
      rw (l.3, ← append_assoc, ← append_assoc) f.same
  front_of (Delete tx time key old) used h l =
      let f = part_front _ (end_of key) old (part_front _ 20 key (fixed_front h) l.0.part) l.1 in
      rw (l.2, ← append_assoc) f.same
  front_of (Commit tx time) used h l = rw (l, append-nil) (fixed_front h).same
  front_of (Abort tx time) used h l = rw (l, append-nil) (fixed_front h).same

  begins : (e : WalEntry) (used : ℕ) → DecodedIs s e used → Begins s e used
  unfolding payload_of
  begins e used d =
      let h : 20 ≤ length s = omega (arith, d.least, d.end) in
      record {
        tx = rw d.tx (num_below s 4 8 8 (omega arith) bytes);
        time = rw d.time (num_below s 12 8 8 (omega arith) bytes);
        content = content_of e used d.laid;
        end = d.end;
        payload = rw (d.tx, d.time, kind_of_lem e, ← d.kind) (front_of e used h d.laid);
        places = places_of e used d.laid;
      }

-- ---- exactly

pub decode_exactly : (s : List ℕ) (e : WalEntry) (used : ℕ) → Bytes s → (decode_of s ≡ decoded e used) ↔ Begins s e used
decode_exactly s e used bytes = (λ h. begins s bytes e used (decode_within s e used h), back)
  where
    back : Begins s e used → decode_of s ≡ decoded e used
    back b =
        let p = payload_of (tx_of e) (time_of e) (content_at s e) in
        let whole : s ≡ p ++ drop used s = sym (take-append-drop used s) ∙ ap (λ x. x ++ drop used s) b.payload in
        let n : length p ≡ used = ap length (sym b.payload) ∙ length-take-le used s b.end in
        ap decode_of whole
        ∙ decode_payload (tx_of e) (time_of e) b.tx b.time (drop used s) (content_at s e) b.content
        ∙ ap₂ decoded (sym b.places) n

-- There and back: what a well-formed entry's payload is decoded to, whatever stands behind it.
-- Assumes nothing.
use mathlib.Core.Path.{◌≡◌, refl, sym, ap, ◌∙◌}
use mathlib.Core.Bool.{Bool, true, false, cond, ◌&&◌, and-eq-true_iff}
use mathlib.Core.Option.{some}
use mathlib.Core.List.{List, ◌++◌, append_assoc, append-nil}
use Prim.Native.Nat.{ℕ, ◌+◌, ◌-◌, ◌^◌, ◌<◌, ◌≤◌}
use native.Mathlib.Nat.{add-zero}
use native.Mathlib.Omega.{arith}
use borrow.Author.Tests.{le-leb, leb-true}
use lib.Dec.{leb, lit<}
use lib.ListN.{length, drop, length-append}
use lib.Seq.{sets, take_at, drop_at}
use Rattle.fields.specs.Le.{le_bytes, num_at}
use Rattle.fields.proofs.Numbers.{length_bytes, num_front, num_skip}
use Rattle.fields.proofs.Stores.{sets_front}
use Rattle.utf8.specs.Grammar.{is_utf8}
use Rattle.payload.specs.Kind.{by_kind}
use Rattle.payload.specs.Content.{Content, insert, update, delete, commit, abort, kind_number, fixed_bytes, part_bytes, payload_of, key_fits, value_fits, well_formed, readable}
use Rattle.payload.specs.Encode.{Encoding, encoding, put_of, encode_of}
use Rattle.std.specs.declared.option.Option.TheVariants.{Some}
use Rattle.std.specs.declared.result.Result.TheVariants.{Ok, Err}
use Rattle.payload.specs.declared.EncodeError.TheVariants.{NotWellFormed, NoRoom}
use Rattle.entry.specs.Parts.{tx_of, kind_of}
use Rattle.entry.specs.Decode.{bytes_at, part_at, key_at, pair_at, decoded, key_and_part, update_at, body_at, decode_of, content_at}
use Rattle.entry.specs.declared.Place.{Place}
use Rattle.entry.specs.declared.WalEntry.{WalEntry}
use Rattle.entry.specs.declared.WalEntry.TheVariants.{Insert, Update, Delete, Commit, Abort}
use Rattle.payload.proofs.Laws.{length_fixed, length_part, limits}
use Rattle.entry.proofs.Places.{keyed}

-- ---- a part behind anything, and anything behind it

abbrev pub behind : ℕ → List ℕ → Place
behind at bytes = record { start = at + 8; len = length bytes }

module _ (pre bytes post : List ℕ) (at : ℕ) (here : length pre ≡ at) where
  part_bytes_lem : bytes_at (pre ++ (part_bytes bytes ++ post)) (behind at bytes) ≡ bytes
  unfolding part_bytes
  part_bytes_lem =
      let n : length (pre ++ le_bytes 8 (length bytes)) ≡ at + 8 = rw (length-append, length_bytes, here) in
      let e : pre ++ ((le_bytes 8 (length bytes) ++ bytes) ++ post) ≡ (pre ++ le_bytes 8 (length bytes)) ++ (bytes ++ post) = simp append_assoc in
      rw (e, drop_at (pre ++ le_bytes 8 (length bytes)) (bytes ++ post) (at + 8) n, take_at bytes post (length bytes) refl)

  part_read : length bytes < 2 ^ 64 → part_at (pre ++ (part_bytes bytes ++ post)) at ≡ Some (behind at bytes)
  unfolding part_at
  part_read fits =
      let s = pre ++ (part_bytes bytes ++ post) in
      let n : length s ≡ at + (8 + length bytes + length post) = rw (length-append, length-append, length_part, here) in
      let e : num_at at 8 s ≡ length bytes =
      rw add-zero at (num_skip pre (part_bytes bytes ++ post) at 0 8 here)
      ∙ unfold part_bytes in rw (append_assoc (le_bytes 8 (length bytes)) bytes post) (num_front 8 (length bytes) (bytes ++ post) fits) in
      let h : 8 ≤ length s - at = omega arith in
      let k : length bytes ≤ length s - at - 8 = omega arith in
      rw (le-leb _ _ h, e, le-leb _ _ k)

  key_read : length bytes < 2 ^ 64 → is_utf8 bytes ≡ true → key_at (pre ++ (part_bytes bytes ++ post)) at ≡ Some (behind at bytes)
  key_read fits utf8 = keyed (pre ++ (part_bytes bytes ++ post)) at (behind at bytes) true (part_read fits) (ap is_utf8 part_bytes_lem ∙ utf8)

-- ---- the numbers in front

decode_fixed : (kind tx time : ℕ) (rest : List ℕ) → kind < 256 ^ 4 → tx < 2 ^ 64 → time < 2 ^ 64 → decode_of (fixed_bytes kind tx time ++ rest) ≡ body_at (fixed_bytes kind tx time ++ rest) kind tx time
unfolding decode_of
decode_fixed kind tx time rest hk hx ht =
    let s = fixed_bytes kind tx time ++ rest in
    let h : 20 ≤ length s = rw (length-append, length_fixed) (omega arith) in
    let k = le_bytes 4 kind in
    let x = le_bytes 8 tx in
    let t = le_bytes 8 time in
    let e : s ≡ k ++ (x ++ (t ++ rest)) = unfold fixed_bytes in simp append_assoc in
    let first : num_at 0 4 s ≡ kind = rw e (num_front 4 kind (x ++ (t ++ rest)) hk) in
    let second : num_at 4 8 s ≡ tx = rw e (num_skip k (x ++ (t ++ rest)) 4 0 8 (length_bytes 4 kind) ∙ num_front 8 tx (t ++ rest) hx) in
    let third : num_at 12 8 s ≡ time =
    rw e (num_skip k (x ++ (t ++ rest)) 4 8 8 (length_bytes 4 kind) ∙ num_skip x (t ++ rest) 8 0 8 (length_bytes 8 tx) ∙ num_front 8 time rest ht) in
    rw (le-leb _ _ h, first, second, third)

-- ---- the whole

-- every part's length is one that eight bytes hold
abbrev pub Short : Content → Type 0
Short (insert key value) = (length key < 2 ^ 64) × (length value < 2 ^ 64)
Short (update key old new) = (length key < 2 ^ 64) × (length old < 2 ^ 64) × (length new < 2 ^ 64)
Short (delete key old) = (length key < 2 ^ 64) × (length old < 2 ^ 64)
Short commit = Unit {0}
Short abort = Unit {0}

-- what can be read back
pub record Readable (content : Content) : Type 0 where
  pub utf8 : readable content ≡ true
  pub short : Short content

-- where the parts stand
abbrev pub placed : ℕ → ℕ → Content → WalEntry
placed tx time (insert key value) = Insert tx time (behind 20 key) (behind (28 + length key) value)
placed tx time (update key old new) =
    Update tx time (behind 20 key) (behind (28 + length key) old) (behind (28 + length key + 8 + length old) new)
placed tx time (delete key old) = Delete tx time (behind 20 key) (behind (28 + length key) old)
placed tx time commit = Commit tx time
placed tx time abort = Abort tx time

-- a later part: what is done already stands between
module _ (pre done bytes post : List ℕ) (at : ℕ) (here : length (pre ++ done) ≡ at) where
  later_read : length bytes < 2 ^ 64 → part_at (pre ++ (done ++ (part_bytes bytes ++ post))) at ≡ Some (behind at bytes)
  later_read fits = rw (← append_assoc pre done (part_bytes bytes ++ post)) (part_read (pre ++ done) bytes post at here fits)

  later_bytes : bytes_at (pre ++ (done ++ (part_bytes bytes ++ post))) (behind at bytes) ≡ bytes
  later_bytes = rw (← append_assoc pre done (part_bytes bytes ++ post)) (part_bytes_lem (pre ++ done) bytes post at here)

-- a key and one part, whatever is made of them
module _ (kind tx time : ℕ) (key value rest : List ℕ) where
  abbrev two : List ℕ
  two = fixed_bytes kind tx time ++ (part_bytes key ++ (part_bytes value ++ rest))

  second_at : length (fixed_bytes kind tx time ++ part_bytes key) ≡ 28 + length key
  second_at = rw (length-append, length_part, length_fixed) (omega arith)

  key_of_two : is_utf8 key ≡ true → length key < 2 ^ 64 → key_at two 20 ≡ Some (behind 20 key)
  key_of_two u k = key_read (fixed_bytes kind tx time) key (part_bytes value ++ rest) 20 (length_fixed kind tx time) k u

  value_of_two : length value < 2 ^ 64 → part_at two (28 + length key) ≡ Some (behind (28 + length key) value)
  value_of_two v = later_read (fixed_bytes kind tx time) (part_bytes key) value rest (28 + length key) second_at v

  key_bytes_of_two : bytes_at two (behind 20 key) ≡ key
  key_bytes_of_two = part_bytes_lem (fixed_bytes kind tx time) key (part_bytes value ++ rest) 20 (length_fixed kind tx time)

  value_bytes_of_two : bytes_at two (behind (28 + length key) value) ≡ value
  value_bytes_of_two = later_bytes (fixed_bytes kind tx time) (part_bytes key) value rest (28 + length key) second_at

  pair_of_two : is_utf8 key ≡ true → length key < 2 ^ 64 → length value < 2 ^ 64 → pair_at two ≡ Some (record { key = behind 20 key; part = behind (28 + length key) value })
  unfolding pair_at
  pair_of_two u k v = rw (key_of_two u k, value_of_two v)

  length_two : length (fixed_bytes kind tx time ++ (part_bytes key ++ part_bytes value)) ≡ 28 + length key + 8 + length value
  length_two = rw (length-append, length-append, length_part, length_part, length_fixed) (omega arith)

module _ (tx time : ℕ) (hx : tx < 2 ^ 64) (ht : time < 2 ^ 64) (rest : List ℕ) where
  pub decode_payload : (content : Content) → Readable content → decode_of (payload_of tx time content ++ rest) ≡ decoded (placed tx time content) (length (payload_of tx time content))
  unfolding payload_of by_kind key_and_part update_at readable
  decode_payload (insert key value) r =
      let f = fixed_bytes 0 tx time in
      let e : (f ++ (part_bytes key ++ part_bytes value)) ++ rest ≡ two 0 tx time key value rest = simp append_assoc in
      rw (length_two 0 tx time key value rest, e, decode_fixed 0 tx time (part_bytes key ++ (part_bytes value ++ rest)) (lit< tt) hx ht, pair_of_two 0 tx time key value rest r.utf8 r.short.0 r.short.1)
  decode_payload (delete key old) r =
      let f = fixed_bytes 2 tx time in
      let e : (f ++ (part_bytes key ++ part_bytes old)) ++ rest ≡ two 2 tx time key old rest = simp append_assoc in
      rw (length_two 2 tx time key old rest, e, decode_fixed 2 tx time (part_bytes key ++ (part_bytes old ++ rest)) (lit< tt) hx ht, pair_of_two 2 tx time key old rest r.utf8 r.short.0 r.short.1)
  decode_payload (update key old new) r =
      let f = fixed_bytes 1 tx time in
      let e : (f ++ (part_bytes key ++ (part_bytes old ++ part_bytes new))) ++ rest ≡ two 1 tx time key old (part_bytes new ++ rest) = simp append_assoc in
      let n : length (f ++ (part_bytes key ++ (part_bytes old ++ part_bytes new))) ≡ 28 + length key + 8 + length old + 8 + length new =
      rw (length-append, length-append, length-append, length_part, length_part, length_part, length_fixed) (omega arith) in
      let third : part_at (two 1 tx time key old (part_bytes new ++ rest)) (28 + length key + 8 + length old) ≡ Some (behind (28 + length key + 8 + length old) new) =
      rw (← append_assoc (part_bytes key) (part_bytes old) (part_bytes new ++ rest))
      (later_read f (part_bytes key ++ part_bytes old) new rest (28 + length key + 8 + length old) (length_two 1 tx time key old rest) r.short.2) in
      rw (n, e, decode_fixed 1 tx time (part_bytes key ++ (part_bytes old ++ (part_bytes new ++ rest))) (lit< tt) hx ht, pair_of_two 1 tx time key old (part_bytes new ++ rest) r.utf8 r.short.0 r.short.1, third)
  decode_payload commit r = rw (append-nil, decode_fixed 3 tx time rest (lit< tt) hx ht, length_fixed)
  decode_payload abort r = rw (append-nil, decode_fixed 4 tx time rest (lit< tt) hx ht, length_fixed)

  -- and the places hold the parts
  pub content_payload : (content : Content) → content_at (payload_of tx time content ++ rest) (placed tx time content) ≡ content
  unfolding payload_of content_at
  content_payload (insert key value) =
      let e : (fixed_bytes 0 tx time ++ (part_bytes key ++ part_bytes value)) ++ rest ≡ two 0 tx time key value rest = simp append_assoc in
      rw (e, key_bytes_of_two 0 tx time key value rest, value_bytes_of_two 0 tx time key value rest)
  content_payload (delete key old) =
      let e : (fixed_bytes 2 tx time ++ (part_bytes key ++ part_bytes old)) ++ rest ≡ two 2 tx time key old rest = simp append_assoc in
      rw (e, key_bytes_of_two 2 tx time key old rest, value_bytes_of_two 2 tx time key old rest)
  content_payload (update key old new) =
      let f = fixed_bytes 1 tx time in
      let s = two 1 tx time key old (part_bytes new ++ rest) in
      let e : (f ++ (part_bytes key ++ (part_bytes old ++ part_bytes new))) ++ rest ≡ s = simp append_assoc in
      let third : bytes_at s (behind (28 + length key + 8 + length old) new) ≡ new =
      rw (← append_assoc (part_bytes key) (part_bytes old) (part_bytes new ++ rest))
      (later_bytes f (part_bytes key ++ part_bytes old) new rest (28 + length key + 8 + length old) (length_two 1 tx time key old rest)) in
      rw (e, key_bytes_of_two 1 tx time key old (part_bytes new ++ rest), value_bytes_of_two 1 tx time key old (part_bytes new ++ rest), third)
  content_payload commit = refl
  content_payload abort = refl

-- a well-formed entry can be read back
key_utf8 : (key : List ℕ) (others : Bool) → (key_fits key && others) ≡ true → is_utf8 key ≡ true
unfolding key_fits
key_utf8 key others e =
    ((and-eq-true_iff (leb (length key) 64) (is_utf8 key)).0 ((and-eq-true_iff (key_fits key) others).0 e).0).1

pub well_formed_readable : (content : Content) → well_formed content ≡ true → Readable content
unfolding well_formed readable
well_formed_readable (insert key value) e =
    let w = limits (insert key value) e in
    record { utf8 = key_utf8 key (value_fits value) e; short = (omega arith, omega arith) }
well_formed_readable (update key old new) e =
    let w = limits (update key old new) e in
    record { utf8 = key_utf8 key (value_fits old && value_fits new) e; short = (omega arith, omega arith, omega arith) }
well_formed_readable (delete key old) e =
    let w = limits (delete key old) e in
    record { utf8 = key_utf8 key (value_fits old) e; short = (omega arith, omega arith) }
well_formed_readable commit e = record { utf8 = refl; short = tt }
well_formed_readable abort e = record { utf8 = refl; short = tt }

-- the decoded entry's number and kind are the ones that were written
pub placed_tx : (tx time : ℕ) (content : Content) → tx_of (placed tx time content) ≡ tx
placed_tx tx time (insert key value) = refl
placed_tx tx time (update key old new) = refl
placed_tx tx time (delete key old) = refl
placed_tx tx time commit = refl
placed_tx tx time abort = refl

pub placed_kind : (tx time : ℕ) (content : Content) → kind_of (placed tx time content) ≡ kind_number content
placed_kind tx time (insert key value) = refl
placed_kind tx time (update key old new) = refl
placed_kind tx time (delete key old) = refl
placed_kind tx time commit = refl
placed_kind tx time abort = refl

-- ---- encode, then decode: what `encode` says that it wrote is the payload, nothing else of the target changed, and decoding the target gives the entry back
module _ (content : Content) (tx time n : ℕ) (before after : List ℕ) (e : encoding (Ok n) after ≡ encode_of (some content) tx time before) where
  abbrev payload : List ℕ
  payload = payload_of tx time content

  told : (w f : Bool) → well_formed content ≡ w → leb (length payload) (length before) ≡ f
      → encoding (Ok n) after ≡ cond w (cond f (encoding (Ok (length payload)) (sets before 0 payload)) (encoding (Err NoRoom) before)) (encoding (Err NotWellFormed) before)
      → (well_formed content ≡ true) × (length payload ≤ length before) × (n ≡ length payload) × (after ≡ sets before 0 payload)
  told true true p q a =
      let b : Ok n ≡ Ok (length payload) = ap (λ (x : Encoding). x.answer) a in
      (p, leb-true (length payload) (length before) q, cc, ap (λ (x : Encoding). x.target) a)
  told true false p q a =
      let b : Ok n ≡ Err NoRoom = ap (λ (x : Encoding). x.answer) a in
      let z : ◌≡◌ {A = ℕ} 0 1 = cc in absurd (omega arith)
  told false f p q a =
      let b : Ok n ≡ Err NotWellFormed = ap (λ (x : Encoding). x.answer) a in
      let z : ◌≡◌ {A = ℕ} 0 1 = cc in absurd (omega arith)

  written : (well_formed content ≡ true) × (length payload ≤ length before) × (n ≡ length payload) × (after ≡ sets before 0 payload)
  unfolding encode_of put_of
  written = told (well_formed content) (leb (length payload) (length before)) refl refl e

  pub encode_writes : after ≡ payload ++ drop n before
  encode_writes =
      written.3 ∙ sets_front before payload written.1 ∙ ap (λ k. payload ++ drop k before) (sym written.2)

  pub encode_decode : tx < 2 ^ 64 → time < 2 ^ 64 → (decode_of after ≡ decoded (placed tx time content) n) × (content_at after (placed tx time content) ≡ content)
  encode_decode hx ht = (
    ap decode_of encode_writes ∙ decode_payload tx time hx ht (drop n before) content (well_formed_readable content written.0) ∙ ap (decoded (placed tx time content)) (sym written.2),
    ap (λ s. content_at s (placed tx time content)) encode_writes ∙ content_payload tx time hx ht (drop n before) content,
  )

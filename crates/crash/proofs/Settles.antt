-- What replay makes of kept entries: each of them can be applied, and they leave the table that is meant.
-- Assumes nothing.
use mathlib.Core.Path.{◌≡◌, refl}
use mathlib.Core.Bool.{true}
use mathlib.Core.List.{List, [], ◌∷◌, append-nil}
use mathlib.Core.Option.{Option, none, some}
use Prim.Native.Nat.{ℕ, ◌/◌, ◌^◌, ◌<◌, ◌≤◌}
use native.Mathlib.Omega.{arith}
use borrow.Author.Tests.{le-leb}
use lib.Dec.{eqb}
use lib.ListN.{length}
use Rattle.refusal.specs.Answer.{accepted}
use Rattle.fields.specs.Order.{compare_bytes}
use Rattle.fields.proofs.Cases.{case_b}
use Rattle.records.specs.Dense.{All}
use Rattle.records.specs.Sorted.{itself}
use Rattle.records.proofs.Sorted.{bytes_order, put_all, remove_all, Has, Among, no_more}
use Rattle.payload.specs.Content.{Content, insert, update, delete, commit, abort, payload_of}
use Rattle.payload.specs.Encode.{is_well_formed, payload_for}
use Rattle.payload.proofs.Laws.{limits}
use Rattle.entry.specs.Decode.{decode_of, content_at}
use Rattle.std.specs.declared.option.Option.TheVariants.{Some}
use Rattle.entry.proofs.RoundTrip.{placed, well_formed_readable, decode_payload, content_payload}
use Rattle.chains.specs.Chain.{entries_of}
use Rattle.recovery.specs.Payload.{payload_in}
use Rattle.table.specs.Row.{Row, row_of, key_of, fits}
use Rattle.table.specs.Table.{Sorted, set, remove_key, set_in, Held}
use Rattle.table.proofs.Lookups.{set_sorted, remove_sorted}
use Rattle.table.proofs.Tables.{none_held}
use Rattle.store.specs.Order.{replay_order, entries_in_turn, replayed}
use Rattle.store.specs.Change.{changed_by, run_of}
use Rattle.store.specs.Effect.{Effect, puts, drops, keeps, effect_of, effect_at, effect_in}
use Rattle.store.proofs.Runs.{run_append, run_held}
use Rattle.crash.specs.Request.{asked_by, encoded, Written}
use Rattle.crash.specs.Kept.{listed_as, listed_all}
use Rattle.crash.specs.Settings.{effect_as, effect_by, settle, run_number, run_numbers, with_key, keys_of}
use Rattle.crash.proofs.Holdings.{Kept}
use Rattle.crash.proofs.Distinct.{distinct, distinct_own, distinct_had}

-- ---- the rows stay sorted

pub settle_sorted : (x : Effect) (rs : List Row) → Sorted rs → Sorted (settle x rs)
unfolding settle
settle_sorted (puts key value) rs s = set_sorted _ rs s
settle_sorted (drops key) rs s = remove_sorted _ rs s
settle_sorted keeps rs s = s

-- ---- rows of some keys

-- the key that an entry sets is one of these
abbrev Named : List (List ℕ) → Effect → Type 0
Named keys (puts key value) = Has compare_bytes itself key keys
Named keys (drops key) = Unit {0}
Named keys keeps = Unit {0}

-- sorted rows, each of one of these keys
record Keyed (keys : List (List ℕ)) (rs : List Row) : Type 0 where
  sorted : Sorted rs
  named : Among compare_bytes bytes_order key_of itself keys rs

none_keyed : (keys : List (List ℕ)) → Keyed keys []
none_keyed keys = record { sorted = tt; named = tt }

-- there are no more of them than keys
few : (keys : List (List ℕ)) (rs : List Row) → Keyed keys rs → length rs ≤ length keys
few keys rs h = no_more compare_bytes bytes_order key_of itself keys rs h.sorted h.named

module _ (keys : List (List ℕ)) (rs : List Row) (h : Keyed keys rs) where
  abbrev IsNamed : Row → Type 0
  IsNamed r = Has compare_bytes itself r.key keys

  set_named : (row : Row) → IsNamed row → All IsNamed (set row rs)
  unfolding set
  set_named row g = put_all compare_bytes key_of row.key (λ (r : Row). row) row IsNamed (λ r f. g) g rs h.named

  settle_named : (x : Effect) → Named keys x → All IsNamed (settle x rs)
  unfolding settle remove_key
  settle_named (puts key value) g = set_named _ g
  settle_named (drops key) g = remove_all compare_bytes key_of _ IsNamed rs h.named
  settle_named keeps g = h.named

  settle_keyed : (x : Effect) → Named keys x → Keyed keys (settle x rs)
  settle_keyed x g = record { sorted = settle_sorted x rs h.sorted; named = settle_named x g }

-- ---- an entry applied

row_fits : (key value : List ℕ) → length key ≤ 64 → length value ≤ 252 → fits (row_of key value) ≡ true
unfolding fits
row_fits key value k v = rw (le-leb (length key) 64 k, le-leb (length value) 252 v)

-- what a row of a table takes
abbrev Fits : Effect → Type 0
Fits (puts key value) = (length key ≤ 64) × (length value ≤ 252)
Fits (drops key) = Unit {0}
Fits keeps = Unit {0}

effect_fits : (content : Option Content) → is_well_formed content ≡ true → Fits (effect_as content)
unfolding effect_of
effect_fits none w = tt
effect_fits (some (insert key value)) w = limits (insert key value) w
effect_fits (some (update key old new)) w = let l = limits (update key old new) w in (l.0, l.2)
effect_fits (some (delete key old)) w = tt
effect_fits (some commit) w = tt
effect_fits (some abort) w = tt

module _ (records : ℕ) (keys : List (List ℕ)) (room : length keys ≤ records) (rs : List Row) (h : Keyed keys rs) where
  -- a row that fits finds a record
  set_settles : (key value : List ℕ) → Has compare_bytes itself key keys → length key ≤ 64 → length value ≤ 252 → set_in records (row_of key value) rs ≡ accepted (set (row_of key value) rs)
  unfolding set_in
  set_settles key value g k v =
      let row = row_of key value in
      let n = few keys (set row rs) (record { sorted = set_sorted row rs h.sorted; named = set_named keys rs h row g }) in
      rw (row_fits key value k v, le-leb (length (set row rs)) records (omega arith))

  change_settles : (x : Effect) → Fits x → Named keys x → changed_by records x rs ≡ accepted (settle x rs)
  unfolding changed_by settle
  change_settles (puts key value) f g = set_settles key value g f.0 f.1
  change_settles (drops key) f g = refl
  change_settles keeps f g = refl

-- a payload that was written is read back
payload_effect : (payload : List ℕ) (tx time : ℕ) (content : Option Content) → tx < 2 ^ 64 → time < 2 ^ 64 → is_well_formed content ≡ true → payload ≡ payload_for tx time content → effect_at payload (decode_of payload) ≡ effect_as content
payload_effect payload tx time none hx ht w e = let z : ◌≡◌ {A = ℕ} 0 1 = cc in absurd (omega arith)
payload_effect payload tx time (some content) hx ht w e =
    let d : decode_of (payload_of tx time content) ≡ Some (record { entry = placed tx time content; used = length (payload_of tx time content) }) = rw append-nil at (decode_payload tx time hx ht [] content (well_formed_readable content w)) in
    let c : content_at (payload_of tx time content) (placed tx time content) ≡ content = rw append-nil at (content_payload tx time hx ht [] content) in
    rw (e, d, c)

-- ---- the entries, one after the other

-- an entry whose payload stands in the area, and whose key, if it sets one, is one of these
record Applies (area : List ℕ) (keys : List (List ℕ)) (w : Written) : Type 0 where
  kept : Kept area w
  named : Named keys (effect_by w.request)

module _ (records : ℕ) (area : List ℕ) (keys : List (List ℕ)) (room : length keys ≤ records) where
  apply_settles : (w : Written) (rs : List Row) → Applies area keys w → Keyed keys rs → changed_by records (effect_in area (listed_as w)) rs ≡ accepted (settle (effect_by w.request) rs)
  unfolding effect_in encoded
  apply_settles w rs a h =
      let t = a.kept.accepted.typed in
      let well = a.kept.accepted.well_formed in
      rw (payload_effect (payload_in area (listed_as w)) w.request.tx w.request.time (asked_by w.request) t.tx t.time well a.kept.payload)
      (change_settles records keys room rs h (effect_by w.request) (effect_fits (asked_by w.request) well) a.named)

  -- the rows after a number's entries
  number_keyed : (number : ℕ) (ws : List Written) (rs : List Row) → All (Applies area keys) ws → Keyed keys rs → Keyed keys (run_number number ws rs)
  unfolding run_number
  number_keyed number [] rs gs h = h
  number_keyed number (w ∷ ws) rs gs h =
      case_b (eqb w.request.tx number)
      (λ q. rw q (number_keyed number ws _ gs.1 (settle_keyed keys rs h (effect_by w.request) gs.0.named)))
      (λ q. rw q (number_keyed number ws rs gs.1 h))

  number_settles : (number : ℕ) (ws : List Written) (rs : List Row) → All (Applies area keys) ws → Keyed keys rs → run_of records area (entries_of number (listed_all ws)) rs ≡ accepted (run_number number ws rs)
  unfolding run_of entries_of run_number listed_as
  number_settles number [] rs gs h = refl
  number_settles number (w ∷ ws) rs gs h =
      case_b (eqb w.request.tx number)
      (λ q. rw (q, apply_settles w rs gs.0 h) (number_settles number ws _ gs.1 (settle_keyed keys rs h (effect_by w.request) gs.0.named)))
      (λ q. rw q (number_settles number ws rs gs.1 h))

  numbers_settle : (ns : List ℕ) (ws : List Written) (rs : List Row) → All (Applies area keys) ws → Keyed keys rs → run_of records area (entries_in_turn ns (listed_all ws)) rs ≡ accepted (run_numbers ns ws rs)
  unfolding run_of entries_in_turn run_numbers
  numbers_settle [] ws rs gs h = refl
  numbers_settle (n ∷ ns) ws rs gs h =
      rw (run_append records area (entries_of n (listed_all ws)) (entries_in_turn ns (listed_all ws)) rs, number_settles n ws rs gs h)
      (numbers_settle ns ws (run_number n ws rs) gs (number_keyed n ws rs gs h))

-- ---- the keys that are ever written

-- a key among them stays so
with_named : (x : Effect) (keys : List (List ℕ)) (other : Effect) → Named (distinct compare_bytes keys) other → Named (distinct compare_bytes (with_key x keys)) other
with_named (puts k value) keys (puts key new) g = distinct_had compare_bytes bytes_order k keys key g
with_named (drops k) keys (puts key new) g = g
with_named keeps keys (puts key new) g = g
with_named x keys (drops key) g = tt
with_named x keys keeps g = tt

-- an entry's own key is among them
with_own : (x : Effect) (keys : List (List ℕ)) → Named (distinct compare_bytes (with_key x keys)) x
with_own (puts key value) keys = distinct_own compare_bytes bytes_order key keys
with_own (drops key) keys = tt
with_own keeps keys = tt

all_with : (area : List ℕ) (keys : List (List ℕ)) (x : Effect) (ws : List Written) → All (Applies area (distinct compare_bytes keys)) ws → All (Applies area (distinct compare_bytes (with_key x keys))) ws
all_with area keys x [] gs = tt
all_with area keys x (w ∷ ws) gs =
    (record { kept = gs.0.kept; named = with_named x keys (effect_by w.request) gs.0.named }, all_with area keys x ws gs.1)

all_apply : (area : List ℕ) (ws : List Written) → All (Kept area) ws → All (Applies area (distinct compare_bytes (keys_of ws))) ws
unfolding keys_of
all_apply area [] ks = tt
all_apply area (w ∷ ws) ks =
    let x = effect_by w.request in
    (record { kept = ks.0; named = with_own x (keys_of ws) }, all_with area (keys_of ws) x ws (all_apply area ws ks.1))

-- the table has a record for every key ever written
module _ (area : List ℕ) (ws : List Written) (ks : All (Kept area) ws) where
  abbrev keys : List (List ℕ)
  keys = distinct compare_bytes (keys_of ws)

  -- then replay of kept entries is not refused, and leaves the table that their transactions make, in any order
  settled_by : (records : ℕ) (ns : List ℕ) → length keys ≤ records → run_of records area (entries_in_turn ns (listed_all ws)) [] ≡ accepted (run_numbers ns ws [])
  settled_by records ns room = numbers_settle records area keys room ns ws [] (all_apply area ws ks) (none_keyed keys)

  -- in replay's order
  pub settled : (records : ℕ) → length (distinct compare_bytes (keys_of ws)) ≤ records → run_of records area (replayed (listed_all ws)) [] ≡ accepted (run_numbers (replay_order (listed_all ws)) ws [])
  unfolding replayed
  settled records room = settled_by records (replay_order (listed_all ws)) room

  -- rows that the table may hold
  pub settled_held : (room : ℕ) (ns : List ℕ) → length (distinct compare_bytes (keys_of ws)) ≤ room / 320 → Held room (run_numbers ns ws [])
  settled_held room ns enough =
      run_held room area (entries_in_turn ns (listed_all ws)) [] (run_numbers ns ws []) (none_held room) (settled_by (room / 320) ns enough)

-- Laws of the payload: how long it is, how long a well-formed one can be, and what is stored of it.
-- Assumes nothing.
use mathlib.Core.Path.{◌≡◌, refl}
use mathlib.Core.Bool.{true, false, ◌&&◌, and-eq-true_iff}
use mathlib.Core.List.{List, [], ◌∷◌, ◌++◌, append-nil, append_assoc}
use mathlib.Core.Option.{Option, some}
use Prim.Native.Nat.{ℕ, zero, suc, ◌+◌, ◌^◌, ◌<◌, ◌≤◌}
use native.Mathlib.Omega.{arith}
use borrow.Author.Tests.{leb-true, le-leb, lt-leb, ne_eqb}
use lib.Dec.{leb}
use denote.Ref.{Bor}
use lib.ListN.{length, take, get_or, length-append}
use lib.Seq.{sets}
use Rattle.fields.specs.Le.{le_bytes}
use Rattle.fields.proofs.Numbers.{length_bytes}
use Rattle.fields.proofs.Stores.{sets_join}
use Rattle.utf8.specs.Grammar.{is_utf8}
use Rattle.std.proofs.lemmas.List.Sums.{sum_by-cons, sum_by-take-le}
use Rattle.payload.specs.Kind.{number_of, by_kind}
use Rattle.payload.specs.Content.{Content, insert, update, delete, commit, abort, fixed_bytes, part_bytes, payload_of, key_fits, value_fits, well_formed}
use Rattle.payload.specs.Encode.{asked, is_well_formed, encoding, put_of, encode_of, joined, joined_length, Put}
use Rattle.std.specs.declared.result.Result.{Result}
use Rattle.std.specs.declared.result.Result.TheVariants.{Ok, Err}
use Rattle.payload.specs.declared.EncodeError.{EncodeError}
use Rattle.payload.specs.declared.EncodeError.TheVariants.{NotWellFormed, NoRoom}
use Rattle.payload.specs.declared.kind.Kind.{Kind}
use Rattle.payload.specs.declared.kind.Kind.TheVariants.{Insert, Update, Delete, Commit, Abort}

-- a number over 4 is no kind
pub by_other : {A : Type 0} (k : ℕ) (i u d c a o : A) → 4 < k → by_kind k i u d c a o ≡ o
unfolding by_kind
by_other k i u d c a o h =
    rw (ne_eqb k 0 (omega arith), ne_eqb k 1 (omega arith), ne_eqb k 2 (omega arith), ne_eqb k 3 (omega arith), ne_eqb k 4 (omega arith))

pub length_fixed : (kind tx time : ℕ) → length (fixed_bytes kind tx time) ≡ 20
unfolding fixed_bytes
length_fixed kind tx time = simp (length-append, length_bytes)

pub length_part : (bytes : List ℕ) → length (part_bytes bytes) ≡ 8 + length bytes
unfolding part_bytes
length_part bytes = simp (length-append, length_bytes)

-- the parts that the kind has are within their limits, as in a well-formed entry
abbrev pub Limits : Content → Type 0
Limits (insert key value) = (length key ≤ 64) × (length value ≤ 252)
Limits (update key old new) = (length key ≤ 64) × (length old ≤ 252) × (length new ≤ 252)
Limits (delete key old) = (length key ≤ 64) × (length old ≤ 252)
Limits commit = Unit {0}
Limits abort = Unit {0}

key_within : (key : List ℕ) → key_fits key ≡ true → length key ≤ 64
unfolding key_fits
key_within key e =
    leb-true (length key) 64 ((and-eq-true_iff (leb (length key) 64) (is_utf8 key)).0 e).0

value_within : (value : List ℕ) → value_fits value ≡ true → length value ≤ 252
unfolding value_fits
value_within value e = leb-true (length value) 252 e

pub limits : (content : Content) → well_formed content ≡ true → Limits content
unfolding well_formed
limits (insert key value) e =
    let both = (and-eq-true_iff (key_fits key) (value_fits value)).0 e in
    (key_within key both.0, value_within value both.1)
limits (update key old new) e =
    let both = (and-eq-true_iff (key_fits key) (value_fits old && value_fits new)).0 e in
    let values = (and-eq-true_iff (value_fits old) (value_fits new)).0 both.1 in
    (key_within key both.0, value_within old values.0, value_within new values.1)
limits (delete key old) e =
    let both = (and-eq-true_iff (key_fits key) (value_fits old)).0 e in
    (key_within key both.0, value_within old both.1)
limits commit e = tt
limits abort e = tt

-- the longest is an update: 20, and three parts of 8 + 64, 8 + 252 and 8 + 252
pub payload_most : (tx time : ℕ) (content : Content) → well_formed content ≡ true → length (payload_of tx time content) ≤ 612
unfolding payload_of
payload_most tx time content e = most content (limits content e)
  where
    most : (content : Content) → Limits content → length (payload_of tx time content) ≤ 612
    most (insert key value) w = simp (length-append, length_fixed, length_part) (omega arith)
    most (update key old new) w = simp (length-append, length_fixed, length_part) (omega arith)
    most (delete key old) w = simp (length-append, length_fixed, length_part) (omega arith)
    most commit w = simp (length-append, length_fixed) (omega arith)
    most abort w = simp (length-append, length_fixed) (omega arith)

-- the stores of three fields, and of a length with its bytes
pub fixed_stored : (l : List ℕ) (kind tx time : ℕ) → sets (sets (sets l 0 (le_bytes 4 kind)) 4 (le_bytes 8 tx)) 12 (le_bytes 8 time) ≡ sets l 0 (fixed_bytes kind tx time)
unfolding fixed_bytes
fixed_stored l kind tx time =
    let k = le_bytes 4 kind in
    let x = le_bytes 8 tx in
    let t = le_bytes 8 time in
    let e : 4 ≡ 0 + length k = simp length_bytes in
    let f : 12 ≡ 0 + length (k ++ x) = simp (length-append, length_bytes) in
    rw (sets_join l k x 0 4 e, sets_join l (k ++ x) t 0 12 f, append_assoc k x t)

pub part_stored : (l : List ℕ) (at : ℕ) (part : List ℕ) → sets (sets l at (le_bytes 8 (length part))) (at + 8) part ≡ sets l at (part_bytes part)
unfolding part_bytes
part_stored l at part =
    sets_join l (le_bytes 8 (length part)) part at (at + 8) (rw length_bytes refl)

pub put_fixed : {before after : List ℕ} (kind tx time : ℕ) → after ≡ sets before 0 (fixed_bytes kind tx time) → Put before 0 (fixed_bytes kind tx time) after 20
put_fixed kind tx time e = record { next = omega (arith, length_fixed kind tx time); target = e }

-- what is put behind what was put
pub put_behind : {before first mid second after : List ℕ} {at r next : ℕ} → Put before at first mid r → Put mid r second after next → Put before at (first ++ second) after next
put_behind {before} {first} {mid} {second} {after} {at} p q =
    record {
      next = rw length-append (omega arith);
      target = cc (sets_join before first second at _ p.next);
    }

-- a payload that has room, and one that has none
pub put_all : (payload before after : List ℕ) (n : ℕ) → Put before 0 payload after n → length payload ≤ length before → encoding (Ok n) after ≡ put_of payload before
unfolding put_of
put_all payload before after n s h =
    let e : n ≡ length payload = omega (arith, s.next) in
    rw (le-leb (length payload) (length before) h, ← e, ← s.target)

pub put_nothing : (payload before : List ℕ) → length before < length payload → encoding (Err NoRoom) before ≡ put_of payload before
unfolding put_of
put_nothing payload before h = rw (lt-leb (length payload) (length before) h)

-- ---- parts, one behind the other

abbrev part_length : Bor (List ℕ) → ℕ
part_length part = 8 + length part.now

pub length_joined : (parts : List (Bor (List ℕ))) → length (joined parts) ≡ joined_length parts
unfolding joined
length_joined [] = refl
length_joined (part ∷ parts) = rw (length-append, length_part, length_joined parts, sum_by-cons part_length part parts)

pub joined_more : (parts : List (Bor (List ℕ))) (i : ℕ) (d : Bor (List ℕ)) → i < length parts → joined (take (suc i) parts) ≡ joined (take i parts) ++ part_bytes (get_or parts i d).now
unfolding joined
joined_more [] i d h = absurd (omega arith)
joined_more (part ∷ parts) zero d h = append-nil _
joined_more (part ∷ parts) (suc i) d h = rw (joined_more parts i d (omega arith), append_assoc)

-- the next part has room too
pub joined_room : (parts : List (Bor (List ℕ))) (i : ℕ) (d : Bor (List ℕ)) → i < length parts → length (joined (take i parts)) + (8 + length (get_or parts i d).now) ≤ joined_length parts
joined_room parts i d h =
    let e : length (joined (take (suc i) parts)) ≡ length (joined (take i parts)) + (8 + length (get_or parts i d).now) = rw (joined_more parts i d h, length-append, length_part) in
    let f = length_joined (take (suc i) parts) in
    omega (arith, e, f, sum_by-take-le part_length parts (suc i))

-- ---- what `encode` answers: of what is not well-formed, and of what is

pub unknown : (number : ℕ) (key old new : List ℕ) → 4 < number → is_well_formed (asked number key old new) ≡ false
unfolding asked
unknown number key old new h = rw (by_other number _ _ _ _ _ _ h)

pub refused : (content : Option Content) (tx time : ℕ) (before : List ℕ) → is_well_formed content ≡ false → encoding (Err NotWellFormed) before ≡ encode_of content tx time before
unfolding encode_of
refused content tx time before e = rw e

pub accepted : (content : Content) (tx time : ℕ) (before after : List ℕ) (r : Result ℕ EncodeError) → well_formed content ≡ true → encoding r after ≡ put_of (payload_of tx time content) before → encoding r after ≡ encode_of (some content) tx time before
unfolding encode_of
accepted content tx time before after r e p = rw e p

-- the parts that the kind has
abbrev pub parts_for : Kind → (key old new : Bor (List ℕ)) → List (Bor (List ℕ))
parts_for Insert key old new = key ∷ new ∷ []
parts_for Update key old new = key ∷ old ∷ new ∷ []
parts_for Delete key old new = key ∷ old ∷ []
parts_for Commit key old new = []
parts_for Abort key old new = []

module _ (tx time : ℕ) (key old new : Bor (List ℕ)) (before after : List ℕ) (r : Result ℕ EncodeError) where
  pub put_answers : (kind : Kind) (number : ℕ) → number_of kind ≡ number → is_well_formed (asked (number_of kind) key.now old.now new.now) ≡ true → encoding r after ≡ put_of (fixed_bytes (number_of kind) tx time ++ joined (parts_for kind key old new)) before → encoding r after ≡ encode_of (asked number key.now old.now new.now) tx time before
  unfolding asked by_kind payload_of joined
  put_answers Insert number n e p = rw (← n) (accepted (insert key.now new.now) tx time before after r e (rw append-nil at p))
  put_answers Update number n e p = rw (← n) (accepted (update key.now old.now new.now) tx time before after r e (rw append-nil at p))
  put_answers Delete number n e p = rw (← n) (accepted (delete key.now old.now) tx time before after r e (rw append-nil at p))
  put_answers Commit number n e p = rw (← n) (accepted commit tx time before after r e p)
  put_answers Abort number n e p = rw (← n) (accepted abort tx time before after r e p)

-- ---- that a well-formed entry's parts are not too long to be added up

pub parts_fit : (kind : Kind) (key old new : Bor (List ℕ)) → is_well_formed (asked (number_of kind) key.now old.now new.now) ≡ true → 20 + joined_length (parts_for kind key old new) < 2 ^ 64
unfolding asked by_kind
parts_fit Insert key old new e = let l = limits (insert key.now new.now) e in omega (arith, l.0, l.1)
parts_fit Update key old new e = let l = limits (update key.now old.now new.now) e in omega (arith, l.0, l.1, l.2)
parts_fit Delete key old new e = let l = limits (delete key.now old.now) e in omega (arith, l.0, l.1)
parts_fit Commit key old new e = omega arith
parts_fit Abort key old new e = omega arith

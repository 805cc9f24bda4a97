-- A part that is found lies in its payload, and so do all parts of an entry that is decoded.
-- Assumes nothing.
use mathlib.Core.Path.{◌≡◌, refl, sym}
use mathlib.Core.Bool.{Bool, true}
use mathlib.Core.List.{List}
use Prim.Native.Nat.{ℕ, ◌+◌, ◌-◌, ◌^◌, ◌<◌, ◌≤◌}
use native.Mathlib.Omega.{arith}
use borrow.Author.Tests.{leb-true, eqb-true}
use lib.Dec.{leb, eqb}
use lib.ListN.{length}
use Rattle.fields.specs.Le.{Bytes, num_at}
use Rattle.fields.proofs.Numbers.{num_below}
use Rattle.fields.proofs.Cases.{case_b, tests}
use Rattle.utf8.specs.Grammar.{is_utf8}
use Rattle.payload.specs.Kind.{insert_kind, update_kind, delete_kind, commit_kind, abort_kind, number_of, Numbers, by_kind}
use Rattle.entry.specs.Parts.{tx_of, time_of, kind_of}
use Rattle.entry.specs.Decode.{bytes_at, end_of, part_at, key_at, pair_at, decoded, key_and_part, MadeOf, update_at, decode_of}
use Rattle.entry.specs.declared.Place.{Place}
use Rattle.entry.specs.declared.WalEntry.{WalEntry}
use Rattle.entry.specs.declared.WalEntry.TheVariants.{Insert, Update, Delete, Commit, Abort}
use Rattle.entry.specs.declared.decoding.Decoded.{Decoded}
use Rattle.entry.specs.declared.decoding.Pair.{Pair}
use Rattle.std.specs.Bool.{then_some}
use Rattle.std.specs.Option.{option_and_then}
use Rattle.std.specs.Result.{result_ok}
use Rattle.std.specs.declared.result.Result.{Result}
use Rattle.std.specs.declared.result.Result.TheVariants.{Ok, Err}
use Rattle.payload.specs.declared.kind.Kind.{Kind}
use Rattle.payload.specs.declared.kind.UnknownKind.{UnknownKind}
use Rattle.std.specs.declared.option.Option.{Option}
use Rattle.std.specs.declared.option.Option.TheVariants.{None, Some}
use Rattle.std.proofs.lemmas.Option.{cond_some, none-some, same_Some, option_and_then_some}

-- a part that is found: its length stands before it, and it ends in the payload
pub record PartIs (s : List ℕ) (at : ℕ) (p : Place) : Type 0 where
  pub start : p.start ≡ at + 8
  pub len : p.len ≡ num_at at 8 s
  pub end : end_of p ≤ length s

pub part_says : (s : List ℕ) (at : ℕ) (p : Place) → part_at s at ≡ Some p → PartIs s at p
unfolding part_at
part_says s at p e =
    case_b (leb 8 (length s - at))
    (λ q.
    let t = cond_some _ _ _ (rw q at e) in
    let k : num_at at 8 s ≤ length s - at - 8 = leb-true _ _ t.0 in
    rw (← t.1) (record { start = refl; len = refl; end = omega (arith, tests) }))
    (λ q. absurd (none-some _ (rw q at e)))

pub part_within : (s : List ℕ) (at : ℕ) (p : Place) → part_at s at ≡ Some p → end_of p ≤ length s
part_within s at p e = (part_says s at p e).end

-- a key is a part that is UTF-8
pub record KeyIs (s : List ℕ) (at : ℕ) (p : Place) : Type 0 where
  pub part : PartIs s at p
  pub utf8 : is_utf8 (bytes_at s p) ≡ true

pub key_says : (s : List ℕ) (at : ℕ) (p : Place) → key_at s at ≡ Some p → KeyIs s at p
unfolding key_at
key_says s at p e =
    option_and_then_some _ (part_at s at) p e
    (λ q f g.
    case_b (is_utf8 (bytes_at s q)) (λ u. rw (← same_Some _ _ (rw u at g)) (record { part = part_says s at q f; utf8 = u }))
    (λ u. absurd (none-some _ (rw u at g))))

pub key_within : (s : List ℕ) (at : ℕ) (p : Place) → key_at s at ≡ Some p → end_of p ≤ length s
key_within s at p e = (key_says s at p e).part.end

-- a part's bytes decide whether it is a key
pub keyed : (s : List ℕ) (at : ℕ) (p : Place) (t : Bool) → part_at s at ≡ Some p → is_utf8 (bytes_at s p) ≡ t → key_at s at ≡ then_some t p
unfolding key_at
keyed s at p t e u = rw (e, u)

-- a key, and a part behind it
pub record PairIs (s : List ℕ) (k p : Place) : Type 0 where
  pub key : KeyIs s 20 k
  pub part : PartIs s (end_of k) p

pub pair_says : (s : List ℕ) (pair : Pair) → pair_at s ≡ Some pair → PairIs s pair.key pair.part
unfolding pair_at
pair_says s pair e =
    option_and_then_some _ (key_at s 20) pair e
    (λ k f g.
    option_and_then_some _ (part_at s (end_of k)) pair g
    (λ p h i. rw (← same_Some _ _ i) (record { key = key_says s 20 k f; part = part_says s (end_of k) p h })))

pub pair_within : (s : List ℕ) (pair : Pair) → pair_at s ≡ Some pair → end_of pair.part ≤ length s
pair_within s pair e = (pair_says s pair e).part.end

-- what is made of a key and a part, where only one entry can be made of them
pub made : (s : List ℕ) (entry : Place → Place → WalEntry) {makes : Place → Place → WalEntry → Type 0} (r : Option Decoded) → MadeOf s makes r → ((key part : Place) (w : WalEntry) → makes key part w → w ≡ entry key part) → r ≡ key_and_part s entry
unfolding key_and_part
made s entry None m one = rw m
made s entry (Some d) m one =
    let w : d.entry ≡ entry m.0.key m.0.part = one _ _ _ m.2 in
    let u : d.used ≡ end_of m.0.part = m.3 in
    rw m.1 (λ i. Some (record { entry = w i; used = u i }))

-- ---- a payload that is decoded

-- the parts that the kind has, one behind the other; the last one ends where the entry does
abbrev pub Laid : List ℕ → WalEntry → ℕ → Type 0
Laid s (Insert tx time key value) used = KeyIs s 20 key × PartIs s (end_of key) value × (used ≡ end_of value)
Laid s (Update tx time key old new) used =
    KeyIs s 20 key × PartIs s (end_of key) old × PartIs s (end_of old) new × (used ≡ end_of new)
Laid s (Delete tx time key old) used = KeyIs s 20 key × PartIs s (end_of key) old × (used ≡ end_of old)
Laid s (Commit tx time) used = used ≡ 20
Laid s (Abort tx time) used = used ≡ 20

pub record DecodedIs (s : List ℕ) (e : WalEntry) (used : ℕ) : Type 0 where
  pub least : 20 ≤ used
  pub end : used ≤ length s
  pub kind : num_at 0 4 s ≡ kind_of e
  pub tx : tx_of e ≡ num_at 4 8 s
  pub time : time_of e ≡ num_at 12 8 s
  pub laid : Laid s e used

abbrev Says : List ℕ → Option Decoded → Type 0
Says s None = Unit {0}
Says s (Some d) = DecodedIs s d.entry d.used

module _ (s : List ℕ) where
  then_part : (go : Place → Option Decoded) (at : ℕ) → ((p : Place) → PartIs s at p → Says s (go p)) → Says s (option_and_then go (part_at s at))
  then_part go at next = told (part_at s at) refl
    where
      told : (q : Option Place) → part_at s at ≡ q → Says s (option_and_then go q)
      told None e = tt
      told (Some p) e = next p (part_says s at p e)

  then_pair : (go : Pair → Option Decoded) → ((pair : Pair) → PairIs s pair.key pair.part → Says s (go pair)) → Says s (option_and_then go (pair_at s))
  then_pair go next = told (pair_at s) refl
    where
      told : (q : Option Pair) → pair_at s ≡ q → Says s (option_and_then go q)
      told None e = tt
      told (Some pair) e = next pair (pair_says s pair e)

  insert_says : num_at 0 4 s ≡ insert_kind → Says s (key_and_part s (Insert (num_at 4 8 s) (num_at 12 8 s)))
  unfolding key_and_part
  insert_says kind =
      then_pair _
      (λ pair w. record { least = omega (arith, w.key.part, w.part); end = w.part.end; kind = kind; tx = refl; time = refl; laid = (w.key, w.part, refl) })

  delete_says : num_at 0 4 s ≡ delete_kind → Says s (key_and_part s (Delete (num_at 4 8 s) (num_at 12 8 s)))
  unfolding key_and_part
  delete_says kind =
      then_pair _
      (λ pair w. record { least = omega (arith, w.key.part, w.part); end = w.part.end; kind = kind; tx = refl; time = refl; laid = (w.key, w.part, refl) })

  update_says : num_at 0 4 s ≡ update_kind → Says s (update_at s (num_at 4 8 s) (num_at 12 8 s))
  unfolding update_at
  update_says kind =
      then_pair _
      (λ pair w. then_part _ (end_of pair.part)
      (λ new n. record { least = omega (arith, w.key.part, w.part); end = n.end; kind = kind; tx = refl; time = refl; laid = (w.key, w.part, n, refl) }))

-- what holds of each of six, if the number is its kind's, holds of the one that a kind picks
by_each : {A : Type 0} (P : A → Type 0) (k : ℕ) {i u d c a o : A}
    → (k ≡ insert_kind → P i) → (k ≡ update_kind → P u) → (k ≡ delete_kind → P d) → (k ≡ commit_kind → P c) → (k ≡ abort_kind → P a) → P o
    → P (by_kind k i u d c a o)
unfolding by_kind
by_each P k i u d c a o =
    case_b (eqb k insert_kind) (λ q. rw q (i (eqb-true k insert_kind q)))
    (λ q. rw q
    (case_b (eqb k update_kind) (λ q. rw q (u (eqb-true k update_kind q)))
    (λ q. rw q
    (case_b (eqb k delete_kind) (λ q. rw q (d (eqb-true k delete_kind q)))
    (λ q. rw q
    (case_b (eqb k commit_kind) (λ q. rw q (c (eqb-true k commit_kind q)))
    (λ q. rw q
    (case_b (eqb k abort_kind) (λ q. rw q (a (eqb-true k abort_kind q)))
    (λ q. rw q o)))))))))

decode_says : (s : List ℕ) → Says s (decode_of s)
unfolding decode_of
decode_says s =
    case_b (leb 20 (length s))
    (λ q.
    let h : 20 ≤ length s = leb-true _ _ q in
    let marks : 20 ≤ 20 = omega arith in
    rw q
    (by_each (Says s) (num_at 0 4 s) (insert_says s) (update_says s) (delete_says s)
    (λ kind. record { least = marks; end = h; kind = kind; tx = refl; time = refl; laid = refl })
    (λ kind. record { least = marks; end = h; kind = kind; tx = refl; time = refl; laid = refl })
    tt))
    (λ q. rw q tt)

pub decode_within : (s : List ℕ) (e : WalEntry) (used : ℕ) → decode_of s ≡ decoded e used → DecodedIs s e used
decode_within s e used h = rw h at (decode_says s)

-- the number is one of eight bytes
pub decode_tx : (s : List ℕ) (e : WalEntry) (used : ℕ) → Bytes s → decode_of s ≡ decoded e used → tx_of e < 2 ^ 64
decode_tx s e used b h = rw (decode_within s e used h).tx (num_below s 4 8 8 (omega arith) b)

-- ---- the kind that a number names

pub known_kind : (number : ℕ) (r : Result Kind UnknownKind) {kind : Kind} → Numbers number r → Some kind ≡ result_ok r → number_of kind ≡ number
known_kind number (Ok k) n e = rw (same_Some _ _ e) n
known_kind number (Err u) n e = absurd (none-some _ (sym e))

pub unknown_kind : (number : ℕ) (r : Result Kind UnknownKind) → Numbers number r → ◌≡◌ {A = Option Kind} None (result_ok r) → 4 < number
unknown_kind number (Ok k) n e = absurd (none-some _ e)
unknown_kind number (Err u) n e = n.1

-- The payload of an accepted entry is of bytes, and decodes to the number and the kind that were asked for.
-- Assumes nothing.
use mathlib.Core.Path.{◌≡◌, ap, sym, ◌∙◌}
use mathlib.Core.Bool.{true, false≢true}
use mathlib.Core.List.{List, [], ◌∷◌, ◌++◌, append-nil}
use Prim.Native.Nat.{ℕ, zero, suc, ◌^◌, ◌<◌}
use native.Mathlib.Omega.{arith}
use lib.ListN.{length}
use Rattle.fields.specs.Le.{Bytes, le_bytes}
use Rattle.fields.proofs.Numbers.{bytes_of}
use Rattle.payload.specs.Kind.{by_kind}
use Rattle.payload.specs.Content.{Content, insert, update, delete, commit, abort, kind_number, fixed_bytes, part_bytes, parts_bytes, payload_of, well_formed}
use Rattle.payload.specs.Encode.{asked, is_well_formed, payload_for}
use Rattle.payload.proofs.Laws.{by_other, payload_most}
use Rattle.entry.specs.Decode.{decode_of}
use Rattle.entry.specs.Parts.{tx_of, kind_of}
use Rattle.entry.specs.declared.WalEntry.{WalEntry}
use Rattle.std.specs.declared.option.Option.TheVariants.{Some}
use Rattle.entry.proofs.RoundTrip.{placed, decode_payload, well_formed_readable, placed_tx, placed_kind}
use Rattle.crash.specs.Request.{Request, encoded}
use Rattle.crash.proofs.Images.{Accepted}

-- ---- bytes

bytes_append : (xs ys : List ℕ) → Bytes xs → Bytes ys → Bytes (xs ++ ys)
bytes_append [] ys a b i = b i
bytes_append (x ∷ xs) ys a b zero = a 0
bytes_append (x ∷ xs) ys a b (suc i) = bytes_append xs ys (λ j. a (suc j)) b i

fixed_bytes_lem : (kind tx time : ℕ) → Bytes (fixed_bytes kind tx time)
unfolding fixed_bytes
fixed_bytes_lem kind tx time =
    bytes_append (le_bytes 4 kind) (le_bytes 8 tx ++ le_bytes 8 time) (bytes_of 4 kind)
    (bytes_append (le_bytes 8 tx) (le_bytes 8 time) (bytes_of 8 tx) (bytes_of 8 time))

part_bytes_lem : (part : List ℕ) → Bytes part → Bytes (part_bytes part)
unfolding part_bytes
part_bytes_lem part b = bytes_append (le_bytes 8 (length part)) part (bytes_of 8 (length part)) b

two_bytes : (a b : List ℕ) → Bytes a → Bytes b → Bytes (part_bytes a ++ part_bytes b)
two_bytes a b p q = bytes_append (part_bytes a) (part_bytes b) (part_bytes_lem a p) (part_bytes_lem b q)

-- ---- a payload that is read back

pub record ReadBack (payload : List ℕ) (tx kind : ℕ) : Type 0 where
  pub bytes : Bytes payload
  pub fits : length payload < 256 ^ 8
  pub entry : WalEntry
  pub used : ℕ
  pub decoded : decode_of payload ≡ Some (record { entry = entry; used = used })
  pub same_tx : tx_of entry ≡ tx
  pub same_kind : kind_of entry ≡ kind

module _ (tx time : ℕ) (hx : tx < 2 ^ 64) (ht : time < 2 ^ 64) where
  payload_back : (content : Content) → well_formed content ≡ true → Bytes (parts_bytes content) → ReadBack (payload_of tx time content) tx (kind_number content)
  unfolding payload_of
  payload_back content e b =
      let p = payload_of tx time content in
      record {
        bytes = bytes_append (fixed_bytes (kind_number content) tx time) (parts_bytes content) (fixed_bytes_lem (kind_number content) tx time) b;
        fits = omega (arith, payload_most tx time content e);
        entry = placed tx time content;
        used = length p;
        decoded = ap decode_of (sym (append-nil p)) ∙ decode_payload tx time hx ht [] content (well_formed_readable content e);
        same_tx = placed_tx tx time content;
        same_kind = placed_kind tx time content;
      }

  module _ (key old new : List ℕ) (k : Bytes key) (o : Bytes old) (n : Bytes new) where
    asked_back : (kind : ℕ) → is_well_formed (asked kind key old new) ≡ true → ReadBack (payload_for tx time (asked kind key old new)) tx kind
    unfolding asked by_kind
    asked_back zero e = payload_back (insert key new) e (two_bytes key new k n)
    asked_back (suc zero) e =
        payload_back (update key old new) e
        (bytes_append (part_bytes key) (part_bytes old ++ part_bytes new) (part_bytes_lem key k) (two_bytes old new o n))
    asked_back (suc (suc zero)) e = payload_back (delete key old) e (two_bytes key old k o)
    asked_back (suc (suc (suc zero))) e = payload_back commit e (λ i. omega arith)
    asked_back (suc (suc (suc (suc zero)))) e = payload_back abort e (λ i. omega arith)
    asked_back (suc (suc (suc (suc (suc kind))))) e =
        absurd (false≢true (rw (by_other (suc (suc (suc (suc (suc kind))))) _ _ _ _ _ _ (omega arith)) at e))

pub accepted_back : (r : Request) → Accepted r → ReadBack (encoded r) r.tx r.kind
unfolding encoded
accepted_back r a =
    let t = a.typed in
    asked_back r.tx r.time t.tx t.time r.key r.old r.new t.key t.old t.new r.kind a.well_formed

-- What the area holds up to the cut, and that the payloads of the kept entries stand there.
-- Assumes nothing.
use mathlib.Core.Path.{◌≡◌, ap, sym, ◌∙◌}
use mathlib.Core.List.{List, [], ◌∷◌, ◌++◌, append_assoc}
use Prim.Native.Nat.{ℕ, zero, suc, ◌+◌, ◌-◌, ◌≤◌}
use native.Mathlib.Nat.{sub-zero}
use native.Mathlib.Omega.{arith}
use borrow.Author.Tests.{leb-true, leb-false}
use lib.Dec.{leb}
use lib.ListN.{length, take, drop}
use lib.Seq.{take-nil, take-take, take-append_seam, drop-drop, drop-append_seam}
use Rattle.fields.proofs.Cases.{case_b}
use Rattle.records.specs.Dense.{All}
use Rattle.header.specs.Header.{header_of, header_bytes, entry_bytes}
use Rattle.header.proofs.Laws.{header_length}
use Rattle.segment.proofs.Logs.{entry_length}
use Rattle.recovery.specs.Payload.{payload_in}
use Rattle.crash.specs.Request.{Request, encoded, Written}
use Rattle.crash.specs.Kept.{kept_by, listed_as}
use Rattle.crash.proofs.Images.{Accepted, image_of, written_from}
use Rattle.crash.proofs.Lefts.{kept_whole, kept_not}

pub drop-take : (d m : ℕ) (l : List ℕ) → drop d (take m l) ≡ take (m - d) (drop d l)
drop-take zero m l = rw sub-zero
drop-take (suc d) zero l = let e : 0 - suc d ≡ 0 = omega arith in rw e
drop-take (suc d) (suc m) [] = rw take-nil
drop-take (suc d) (suc m) (x ∷ xs) = let e : suc m - suc d ≡ m - d = omega arith in rw e (drop-take d m xs)

-- from a place up to the cut the area holds these bytes
pub record Holds (area : List ℕ) (cut at : ℕ) (bytes : List ℕ) : Type 0 where
  pub same : take (cut - at) (drop at area) ≡ take (cut - at) bytes

module _ (area : List ℕ) (cut at : ℕ) where
  -- a part from its first byte
  pub holds_part : (bytes : List ℕ) (m : ℕ) → Holds area cut at bytes → m ≤ cut - at → take m (drop at area) ≡ take m bytes
  holds_part bytes m h l =
      sym (take-take m (cut - at) (drop at area) l) ∙ ap (take m) h.same ∙ take-take m (cut - at) bytes l

  -- what stands behind the first of them
  pub holds_behind : (xs ys : List ℕ) → Holds area cut at (xs ++ ys) → Holds area cut (at + length xs) ys
  holds_behind xs ys h =
      let d = length xs in
      let e : cut - (at + d) ≡ cut - at - d = omega arith in
      let front : drop d (take (cut - at) (xs ++ ys)) ≡ take (cut - at - d) ys = drop-take d (cut - at) (xs ++ ys) ∙ rw drop-append_seam in
      record { same = rw (e, ← drop-drop d at area, ← drop-take d (cut - at) (drop at area), h.same) front }

-- ---- the entries

-- an accepted entry whose payload stands in the area where the entry list says
pub record Kept (area : List ℕ) (w : Written) : Type 0 where
  pub accepted : Accepted w.request
  pub payload : payload_in area (listed_as w) ≡ encoded w.request

module _ (area : List ℕ) (cut at : ℕ) (r : Request) (rs : List Request) (holds : Holds area cut at (image_of (r ∷ rs))) where
  abbrev written : Written
  written = record { request = r; end = at + (13 + length (encoded r)) }

  payload_there : written.end ≤ cut → payload_in area (listed_as written) ≡ encoded r
  unfolding payload_in listed_as image_of entry_bytes
  payload_there h =
      let p = encoded r in
      let header = header_bytes (header_of p) in
      let e : written.end - length p ≡ at + length header = rw header_length (omega arith) in
      let behind : Holds area cut (at + length header) (p ++ image_of rs) =
      holds_behind area cut at header (p ++ image_of rs) (rw append_assoc at holds) in
      rw e
      (holds_part area cut (at + length header) (p ++ image_of rs) (length p) behind (rw header_length (omega arith))
      ∙ take-append_seam p (image_of rs))

  holds_next : Holds area cut written.end (image_of rs)
  unfolding image_of
  holds_next = rw entry_length at (holds_behind area cut at (entry_bytes (encoded r)) (image_of rs) holds)

  step_there : Accepted r → All (Kept area) (kept_by cut (written_from written.end rs)) → All (Kept area) (kept_by cut (written_from at (r ∷ rs)))
  unfolding written_from
  step_there a rest =
      let ws = written_from written.end rs in
      case_b (leb written.end cut)
      (λ q.
      let h : written.end ≤ cut = leb-true _ _ q in
      rw (kept_whole cut written ws h) (record { accepted = a; payload = payload_there h }, rest))
      (λ q. rw (kept_not cut written ws (leb-false _ _ q)) rest)

-- the payload of every entry that ends at or before the cut
pub kept_there : (area : List ℕ) (cut at : ℕ) (rs : List Request) → Holds area cut at (image_of rs) → All Accepted rs → All (Kept area) (kept_by cut (written_from at rs))
unfolding written_from kept_by
kept_there area cut at [] h a = tt
kept_there area cut at (r ∷ rs) h a =
    step_there area cut at r rs h a.0 (kept_there area cut (at + (13 + length (encoded r))) rs (holds_next area cut at r rs h) a.1)

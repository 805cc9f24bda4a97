-- What is read of one segment that is kept up to any byte: what the cut leaves of its entries.
-- Assumes nothing.
use mathlib.Core.Path.{◌≡◌, ap, ◌∙◌}
use mathlib.Core.List.{List, [], ◌∷◌, ◌++◌, append_assoc, append-nil}
use Prim.Native.Nat.{ℕ, ◌+◌, ◌-◌, ◌<◌, ◌≤◌}
use native.Mathlib.Omega.{arith}
use borrow.Author.Tests.{leb-true, leb-false}
use lib.Dec.{leb}
use lib.ListN.{length, take, length-append}
use lib.Seq.{take-nil, take-append-le, take-append-add}
use Rattle.fields.proofs.Cases.{case_b}
use Rattle.records.specs.Dense.{All}
use Rattle.header.specs.Header.{entry_bytes}
use Rattle.segment.proofs.Logs.{entry_length}
use Rattle.scan.specs.Read.{Reading, nothing, read_from, read_segment}
use Rattle.scan.proofs.Steps.{step_end}
use Rattle.scan.proofs.Walks.{read_end}
use Rattle.scan.proofs.Written.{place_behind, read_whole, read_torn}
use Rattle.lists.specs.Entries.{listed}
use Rattle.recovery.specs.Log.{LogRead, listed_from}
use Rattle.crash.specs.Request.{Request, encoded, Written}
use Rattle.crash.specs.Kept.{kept_by, torn_by, listed_as}
use Rattle.crash.proofs.Images.{Accepted, image_of, written_from}
use Rattle.crash.proofs.Payloads.{ReadBack, accepted_back}
use Rattle.crash.proofs.Lefts.{read_up_to, entry_then, left_whole, left_behind, left_torn}

-- a segment's reading, with its places from the area's first byte
abbrev pub placed_at : (base : ℕ) → Reading → LogRead
placed_at base s = record { entries = listed_from base s.good; partial = s.partial; checksum = s.checksum }

nothing_read : (before : List ℕ) → read_from (before ++ []) (length before) ≡ nothing
nothing_read before =
    let n : length (before ++ []) ≤ length before = rw append-nil (omega arith) in
    read_end (before ++ []) (length before) (step_end (before ++ []) (length before) n)

-- the entries of a segment that starts at `base` of the area, behind some of its bytes
module _ (base : ℕ) (before : List ℕ) (at : ℕ) (here : base + length before ≡ at) (r : Request) (rs : List Request) (n : ℕ) (back : ReadBack (encoded r) r.tx r.kind) where
  abbrev bytes : ℕ
  bytes = 13 + length (encoded r)

  abbrev written : Written
  written = record { request = r; end = at + bytes }

  -- what is to be shown of the first of the entries, and what is then known of those behind it
  abbrev Left : Type 0
  Left = placed_at base (read_from (before ++ take n (image_of (r ∷ rs))) (length before)) ≡ read_up_to (at + n) (written_from at (r ∷ rs))

  abbrev Rest : Type 0
  Rest = placed_at base (read_from ((before ++ entry_bytes (encoded r)) ++ take (n - bytes) (image_of rs)) (length (before ++ entry_bytes (encoded r)))) ≡ read_up_to (at + bytes + (n - bytes)) (written_from (at + bytes) rs)

  -- nothing of it is kept, or a beginning, or all of it
  none_left : n ≡ 0 → Left
  none_left e = rw (e, nothing_read before, left_behind (at + 0) at (r ∷ rs) (omega arith))

  torn_left : 0 < n → n < bytes → Left
  unfolding image_of
  torn_left h k =
      let p = encoded r in
      let front : take n (entry_bytes p ++ image_of rs) ≡ take n (entry_bytes p) =
      take-append-le n (entry_bytes p) (image_of rs) (rw entry_length (omega arith)) in
      rw (front, read_torn before p back.bytes back.fits n h k, left_torn (at + n) at r rs (omega arith) (omega arith))

  listed_same : listed base back.entry (place_behind before (encoded r)) ≡ listed_as written
  unfolding listed_as
  listed_same =
      let l = length (encoded r) in
      let e : base + (length before + 13) ≡ at + (13 + l) - l = omega arith in
      rw (back.same_tx, back.same_kind, e)

  whole_left : bytes ≤ n → Rest → Left
  unfolding image_of written_from
  whole_left h rest =
      let p = encoded r in
      let m : n ≡ length (entry_bytes p) + (n - bytes) = rw entry_length (omega arith) in
      let front : take n (entry_bytes p ++ image_of rs) ≡ entry_bytes p ++ take (n - bytes) (image_of rs) =
      ap (λ k. take k (entry_bytes p ++ image_of rs)) m ∙ take-append-add (entry_bytes p) (image_of rs) (n - bytes) in
      let place : length (before ++ entry_bytes p) ≡ length before + 13 + length p = rw (length-append, entry_length) (omega arith) in
      let cut : at + bytes + (n - bytes) ≡ at + n = omega arith in
      let read = read_whole before p back.bytes back.fits back.entry back.used (take (n - bytes) (image_of rs)) back.decoded in
      rw (front, read, listed_same, left_whole (at + n) written (written_from (at + bytes) rs) (omega arith))
      (ap (entry_then (listed_as written)) (rw (append_assoc, place, cut) at rest))

  step_left : Rest → Left
  step_left rest =
      case_b (leb bytes n) (λ q. whole_left (leb-true _ _ q) rest)
      (λ q.
      let h : n < bytes = leb-false _ _ q in
      case_b (leb n 0) (λ z. none_left (omega (arith, leb-true n 0 z))) (λ z. torn_left (leb-false n 0 z) h))

read_left : (base : ℕ) (before : List ℕ) (at : ℕ) (rs : List Request) (n : ℕ) → base + length before ≡ at → All Accepted rs → placed_at base (read_from (before ++ take n (image_of rs)) (length before)) ≡ read_up_to (at + n) (written_from at rs)
read_left base before at [] n here a = unfold image_of written_from read_up_to kept_by torn_by in rw (take-nil n, nothing_read before)
read_left base before at (r ∷ rs) n here a =
    let p = encoded r in
    let m = 13 + length p in
    let next : base + length (before ++ entry_bytes p) ≡ at + m = rw (length-append, entry_length) (omega arith) in
    step_left base before at here r rs n (accepted_back r a.0)
    (read_left base (before ++ entry_bytes p) (at + m) rs (n - m) next a.1)

pub segment_left : (base n : ℕ) (rs : List Request) → All Accepted rs → placed_at base (read_segment (take n (image_of rs))) ≡ read_up_to (base + n) (written_from base rs)
unfolding read_segment
segment_left base n rs a = read_left base [] base rs n (omega arith) a

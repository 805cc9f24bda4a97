-- An entry that was written is read, whatever stands before it and behind it; a beginning of one is a partial write.
-- Assumes nothing.
use mathlib.Core.Path.{◌≡◌, refl, ap, ◌∙◌}
use mathlib.Core.List.{List, [], ◌++◌, append_assoc}
use Prim.Native.Nat.{ℕ, ◌+◌, ◌-◌, ◌^◌, ◌<◌, ◌≤◌}
use native.Mathlib.Omega.{arith}
use borrow.Author.Tests.{ltb-true, ltb-false}
use lib.Dec.{ltb}
use lib.ListN.{length, take, drop, length-append, length-take}
use lib.Seq.{drop-append_seam, drop-append-add, take-append-add, take_at, drop_at}
use Rattle.fields.specs.Le.{Bytes}
use Rattle.fields.proofs.Cases.{case_b}
use Rattle.header.specs.Header.{header_of, header_bytes, entry_bytes, header_at}
use Rattle.header.proofs.Laws.{header_length, header_of_back, header_of_valid}
use Rattle.entry.specs.Decode.{bytes_at, decode_of}
use Rattle.entry.specs.declared.Place.{Place}
use Rattle.entry.specs.declared.WalEntry.{WalEntry}
use Rattle.std.specs.declared.option.Option.TheVariants.{Some}
use Rattle.scan.specs.Step.{judged_as, judge_of, step_as, step_at}
use Rattle.scan.specs.Read.{on_read, read_from}
use Rattle.scan.specs.declared.Step.TheVariants.{Entry, Torn}
use Rattle.scan.proofs.Steps.{payload_at, from_short, from_beyond, from_whole}
use Rattle.scan.proofs.Walks.{read_entry, read_partial}

abbrev pub place_behind : List ℕ → List ℕ → Place
place_behind before payload = record { start = length before + 13; len = length payload }

judge_written : (payload : List ℕ) → judge_of (header_of payload) payload ≡ judged_as (decode_of payload)
unfolding judge_of
judge_written payload = rw (header_of_valid payload)

module _ (before payload : List ℕ) (bytes : Bytes payload) (fits : length payload < 256 ^ 8) where
  pub step_written : (rest : List ℕ) → step_at (before ++ (entry_bytes payload ++ rest)) (length before) ≡ step_as (place_behind before payload) (judged_as (decode_of payload))
  unfolding step_at header_of entry_bytes
  step_written rest =
      let h = header_bytes (header_of payload) in
      let s = before ++ (entry_bytes payload ++ rest) in
      let header : header_at (drop (length before) s) ≡ header_of payload =
      rw (drop-append_seam, append_assoc h payload rest) (header_of_back payload (payload ++ rest) bytes fits) in
      let there : bytes_at s (place_behind before payload) ≡ payload =
      rw (drop-append-add, append_assoc h payload rest, drop_at h (payload ++ rest) 13 (header_length (header_of payload)), take_at payload rest (length payload) refl) in
      let n : length s ≡ length before + (13 + length payload + length rest) = rw (length-append, length-append, length-append, header_length) in
      let l : 13 ≤ length s - length before = omega arith in
      let k : (payload_at s (length before)).len ≤ length s - length before - 13 = rw header (omega arith) in
      from_whole s (length before) l k ∙ rw (header, there) (ap (step_as (place_behind before payload)) (judge_written payload))

  pub read_whole : (e : WalEntry) (used : ℕ) (rest : List ℕ) → decode_of payload ≡ Some (record { entry = e; used = used }) → read_from (before ++ (entry_bytes payload ++ rest)) (length before) ≡ on_read (Entry e (place_behind before payload)) (read_from (before ++ (entry_bytes payload ++ rest)) (length before + 13 + length payload))
  read_whole e used rest d =
      read_entry (before ++ (entry_bytes payload ++ rest)) (length before) e (place_behind before payload) (rw d at (step_written rest))

  -- a proper beginning of it, of one byte at least, at a segment's end
  pub step_torn : (n : ℕ) → 0 < n → n < 13 + length payload → step_at (before ++ take n (entry_bytes payload)) (length before) ≡ Torn
  unfolding step_at header_of entry_bytes
  step_torn n some proper =
      let s = before ++ take n (entry_bytes payload) in
      let e : length s ≡ length before + n = rw (length-append, length-take, length-append, header_length) (omega arith) in
      case_b (ltb n 13)
      (λ q. from_short s (length before) (omega arith) (omega (arith, ltb-true)))
      (λ q.
      let h = header_bytes (header_of payload) in
      let m : n ≡ length h + (n - 13) = rw header_length (omega (arith, ltb-false)) in
      let front : take n (entry_bytes payload) ≡ h ++ take (n - 13) payload =
      ap (λ k. take k (entry_bytes payload)) m ∙ take-append-add h payload (n - 13) in
      let header : header_at (drop (length before) s) ≡ header_of payload =
      rw (drop-append_seam, front) (header_of_back payload (take (n - 13) payload) bytes fits) in
      from_beyond s (length before) (omega (arith, ltb-false)) (rw header (omega (arith, ltb-false))))

  pub read_torn : (n : ℕ) → 0 < n → n < 13 + length payload → read_from (before ++ take n (entry_bytes payload)) (length before) ≡ record { good = []; partial = 1; checksum = 0 }
  read_torn n some proper =
      read_partial (before ++ take n (entry_bytes payload)) (length before) (step_torn n some proper)

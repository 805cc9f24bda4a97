-- The good entries of a segment lie in it, one behind the other.
-- Assumes nothing.
use mathlib.Core.Path.{◌≡◌, refl}
use mathlib.Core.List.{List, [], ◌∷◌}
use Prim.Native.Nat.{ℕ, zero, suc, ◌-◌, ◌*◌, ◌^◌, ◌<◌, ◌≤◌}
use native.Mathlib.Omega.{arith}
use lib.ListN.{length, drop}
use Rattle.fields.specs.Le.{Bytes}
use Rattle.fields.proofs.Numbers.{bytes_drop, bytes_take}
use Rattle.records.specs.Dense.{All}
use Rattle.entry.specs.Decode.{bytes_at, end_of, decode_of}
use Rattle.entry.specs.Parts.{tx_of}
use Rattle.std.specs.declared.option.Option.TheVariants.{Some}
use Rattle.entry.proofs.Places.{decode_tx}
use Rattle.scan.specs.Step.{step_at}
use Rattle.scan.specs.Read.{Good, read_from, read_segment}
use Rattle.scan.specs.declared.Step.{Step}
use Rattle.scan.specs.declared.Step.TheVariants.{Entry, End, Torn, WrongChecksum, Undecodable}
use Rattle.scan.proofs.Steps.{EntryAt, step_end, step_entry}
use Rattle.scan.proofs.Walks.{read_entry, read_undecodable, read_wrong, read_partial, read_end}

-- one behind the other, from an offset on
abbrev pub Run : List ℕ → (at : ℕ) → List Good → Type 0
Run s at [] = Unit {0}
Run s at (g ∷ gs) = EntryAt s at g.entry g.payload × Run s (end_of g.payload) gs

pub read_run : (s : List ℕ) (at : ℕ) → Run s at (read_from s at).good
read_run s at = far (length s) at (omega arith)
  where
    step : (n at : ℕ) → length s - at ≤ suc n → ((at : ℕ) → length s - at ≤ n → Run s at (read_from s at).good) → (x : Step) → step_at s at ≡ x → Run s at (read_from s at).good
    step n at h next (Entry e p) q =
        let t = step_entry s at e p q in
        rw (read_entry s at e p q) (t, next (end_of p) (omega arith))
    step n at h next (Undecodable p) q = rw (read_undecodable s at p q) tt
    step n at h next End q = rw (read_end s at q) tt
    step n at h next Torn q = rw (read_partial s at q) tt
    step n at h next WrongChecksum q = rw (read_wrong s at q) tt

    far : (n at : ℕ) → length s - at ≤ n → Run s at (read_from s at).good
    far zero at h = rw (read_end s at (step_end s at (omega arith))) tt
    far (suc n) at h = step n at h (far n) (step_at s at) refl

-- an entry has at least 13 + 20 bytes
run_count : (s : List ℕ) (at : ℕ) (gs : List Good) → Run s at gs → 33 * length gs ≤ length s - at
run_count s at [] r = omega arith
run_count s at (g ∷ gs) r = omega (arith, run_count s (end_of g.payload) gs r.1)

pub read_count_from : (s : List ℕ) (at : ℕ) → 33 * length (read_from s at).good ≤ length s - at
read_count_from s at = run_count s at (read_from s at).good (read_run s at)

pub read_count : (s : List ℕ) → 33 * length (read_segment s).good ≤ length s
unfolding read_segment
read_count s = omega (arith, read_count_from s 0)

-- each of them by itself
pub record GoodIn (s : List ℕ) (g : Good) : Type 0 where
  pub end : end_of g.payload ≤ length s
  pub least : 20 ≤ g.payload.len
  pub used : ℕ
  pub decoded : decode_of (bytes_at s g.payload) ≡ Some (record { entry = g.entry; used = used })
  pub tx : Bytes s → tx_of g.entry < 2 ^ 64

pub run_each : (s : List ℕ) (at : ℕ) (gs : List Good) → Run s at gs → All (GoodIn s) gs
run_each s at [] r = tt
run_each s at (g ∷ gs) r =
    let e = r.0 in
    let p = g.payload in (
      record {
        end = e.end;
        least = e.least;
        used = e.used;
        decoded = e.decoded;
        tx = λ b. decode_tx (bytes_at s p) g.entry e.used (bytes_take p.len (drop p.start s) (bytes_drop p.start s b)) e.decoded;
      },
      run_each s (end_of p) gs r.1,
    )

pub read_each : (s : List ℕ) (at : ℕ) → All (GoodIn s) (read_from s at).good
read_each s at = run_each s at (read_from s at).good (read_run s at)

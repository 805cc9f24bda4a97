-- A turn of the scan for a segment's highest number: how far it goes, and that no number is lost.
-- Assumes nothing.
use mathlib.Core.Path.{◌≡◌}
use mathlib.Core.List.{List}
use Prim.Native.Nat.{ℕ, max, ◌<◌, ◌≤◌}
use native.Mathlib.Omega.{arith}
use lib.ListN.{length}
use Rattle.entry.specs.Decode.{end_of}
use Rattle.entry.specs.Parts.{tx_of}
use Rattle.entry.specs.declared.Place.{Place}
use Rattle.entry.specs.declared.WalEntry.{WalEntry}
use Rattle.scan.specs.Step.{step_at}
use Rattle.scan.specs.Highest.{highest_from}
use Rattle.scan.specs.declared.Step.TheVariants.{Entry, Undecodable}
use Rattle.scan.proofs.Steps.{step_entry, step_undecodable}
use Rattle.scan.proofs.Walks.{highest_entry, highest_undecodable}

-- the scan goes on behind a place that ends in the segment, behind the offset; `highest` is the highest number by then
pub record Passing (s : List ℕ) (at : ℕ) (p : Place) (highest : ℕ) : Type 0 where
  pub on : at < end_of p
  pub end : end_of p ≤ length s
  pub same : max highest (highest_from s (end_of p)) ≡ highest_from s at

pub passing_entry : (s : List ℕ) (at : ℕ) (e : WalEntry) (p : Place) → step_at s at ≡ Entry e p → Passing s at p (tx_of e)
passing_entry s at e p h =
    let t = step_entry s at e p h in
    record { on = omega arith; end = t.end; same = omega (arith, highest_entry s at e p h) }

pub passing_undecodable : (s : List ℕ) (at : ℕ) (p : Place) → step_at s at ≡ Undecodable p → Passing s at p 0
passing_undecodable s at p h =
    let t = step_undecodable s at p h in
    record { on = omega arith; end = t.end; same = omega (arith, highest_undecodable s at p h) }

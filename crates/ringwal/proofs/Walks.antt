-- A step of a walk: the next offset fits, the walker holds the segment that it held, and the entries that a walk meets are those
-- that recovery reads.
-- Assumes nothing.
use mathlib.Core.Path.{◌≡◌, refl, ap, ◌∙◌}
use mathlib.Core.Bool.{false}
use mathlib.Core.List.{List}
use Prim.Native.Nat.{ℕ, ◌+◌, ◌<◌, ◌^◌}
use lib.ListN.{length}
use native.Mathlib.Omega.{arith}
use Rattle.entry.specs.Decode.{end_of}
use Rattle.entry.specs.declared.Place.{Place}
use Rattle.entry.specs.declared.WalEntry.{WalEntry}
use Rattle.scan.specs.Step.{step_at}
use Rattle.scan.specs.Read.{on_read, read_from, read_segment}
use Rattle.scan.specs.declared.Step.{Step}
use Rattle.scan.specs.declared.Step.TheVariants.{Entry, End, Torn, WrongChecksum, Undecodable}
use Rattle.scan.proofs.Steps.{step_entry}
use Rattle.scan.proofs.Walks.{read_entry, read_undecodable, read_wrong, read_partial, read_end}
use Rattle.scan.proofs.Goods.{read_count}
use Rattle.recovery.proofs.Reaches.{is_entry}
use Rattle.ringwal.specs.Walker.{offset_after, walked_at, stepped}
use Rattle.ringwal.specs.declared.walker.SegmentWalker.{SegmentWalker}
use Rattle.ringwal.specs.declared.walker.Walked.{Walked}

-- the end and damage of any kind leave the offset
pub offset_stays : (r : Step) (at : ℕ) → is_entry r ≡ false → offset_after r at ≡ at
offset_stays (Entry e p) at n = let z : ◌≡◌ {A = ℕ} 0 1 = cc in absurd (omega arith)
offset_stays End at n = refl
offset_stays Torn at n = refl
offset_stays WrongChecksum at n = refl
offset_stays (Undecodable p) at n = refl

-- so the next step answers the same
pub step_again : (s : List ℕ) (at : ℕ) → is_entry (step_at s at) ≡ false → walked_at s (walked_at s at).at ≡ walked_at s at
unfolding walked_at
step_again s at n = ap (walked_at s) (offset_stays (step_at s at) at n)

-- the walk reads as recovery does: the step, and what is read from where it leads to
pub walk_reads : (s : List ℕ) (at : ℕ) → read_from s at ≡ on_read (walked_at s at).step (read_from s (walked_at s at).at)
unfolding walked_at
walk_reads s at = reads (step_at s at) refl
  where
    reads : (r : Step) → step_at s at ≡ r → read_from s at ≡ on_read r (read_from s (offset_after r at))
    reads (Entry e p) q = read_entry s at e p q
    reads End q = read_end s at q
    reads Torn q = read_partial s at q
    reads WrongChecksum q = read_wrong s at q
    reads (Undecodable p) q = read_undecodable s at p q

after_fits : (s : List ℕ) (at : ℕ) (r : Step) → step_at s at ≡ r → length s < 2 ^ 64 → at < 2 ^ 64 → offset_after r at < 2 ^ 64
after_fits s at (Entry e p) q l m = let lies = step_entry s at e p q in omega (arith, lies.end)
after_fits s at End q l m = m
after_fits s at Torn q l m = m
after_fits s at WrongChecksum q l m = m
after_fits s at (Undecodable p) q l m = m

-- an entry ends in the segment, and everything else leaves the offset
pub offset_fits : (s : List ℕ) (at : ℕ) → length s < 2 ^ 64 → at < 2 ^ 64 → offset_after (step_at s at) at < 2 ^ 64
offset_fits s at l m = after_fits s at (step_at s at) refl l m

-- what the scan answered, and the offset that was made of it, are the step's
pub stepped_is : (w : SegmentWalker) (r : Step) (m : ℕ) → r ≡ step_at w.segment.now w.at → m ≡ offset_after r w.at → ◌≡◌ {A = SegmentWalker} (record { segment = w.segment; at = m }) (stepped w)
unfolding stepped
stepped_is w r m e f = λ i. record { segment = w.segment; at = (f ∙ ap (λ (s : Step). offset_after s w.at) e) i }

-- the answer of a walker's step, and the offset that it left
pub walked_is : (w z : SegmentWalker) (r : Step) → r ≡ step_at w.segment.now w.at → z ≡ stepped w → ◌≡◌ {A = Walked} (record { step = r; at = z.at }) (walked_at w.segment.now w.at)
unfolding walked_at stepped
walked_is w z r e f = λ i. record { step = e i; at = (f i).at }

-- ---- counting

-- the entries met so far and those that are left are the segment's
pub record Counting (s : List ℕ) (at count : ℕ) : Type 0 where
  pub whole : count + length (read_from s at).good ≡ length (read_segment s).good

pub counting_starts : (s : List ℕ) → Counting s 0 0
unfolding read_segment
counting_starts s = record { whole = omega arith }

module _ (s : List ℕ) (at count : ℕ) (c : Counting s at count) where
  pub counting_on : (e : WalEntry) (p : Place) → step_at s at ≡ Entry e p → Counting s (end_of p) (count + 1)
  counting_on e p q =
      let l = rw (read_entry s at e p q) at c.whole in
      record { whole = omega (arith, l) }

  pub counting_fits : (e : WalEntry) (p : Place) → step_at s at ≡ Entry e p → length s < 2 ^ 64 → count + 1 < 2 ^ 64
  counting_fits e p q l = omega (arith, (counting_on e p q).whole, read_count s)

  ended : (r : Step) → step_at s at ≡ r → is_entry r ≡ false → count ≡ length (read_segment s).good
  ended (Entry e p) q n = let z : ◌≡◌ {A = ℕ} 0 1 = cc in absurd (omega arith)
  ended End q n = let l = rw (read_end s at q) at c.whole in omega (arith, l)
  ended Torn q n = let l = rw (read_partial s at q) at c.whole in omega (arith, l)
  ended WrongChecksum q n = let l = rw (read_wrong s at q) at c.whole in omega (arith, l)
  ended (Undecodable p) q n = let l = rw (read_undecodable s at p q) at c.whole in omega (arith, l)

  -- damage of any kind ends the reading, and so does the end
  pub counting_ends : is_entry (step_at s at) ≡ false → count ≡ length (read_segment s).good
  counting_ends n = ended (step_at s at) refl n

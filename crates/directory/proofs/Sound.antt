-- What the test of refusals 1 and 2 says when nothing is refused, and what keeps a directory sound: a record written behind others.
-- Assumes nothing.
use mathlib.Core.Path.{◌≡◌, refl}
use mathlib.Core.Bool.{Bool, true, false, cond, and-eq-true_iff}
use mathlib.Core.List.{List}
use Prim.Native.Nat.{ℕ, ◌+◌, ◌*◌, ◌/◌, ◌%◌, ◌<◌, ◌≤◌}
use native.Mathlib.Omega.{arith}
use borrow.Author.Tests.{leb-true, le-leb, eqb-true, eq-eqb}
use lib.ListN.{length, drop}
use lib.Seq.{sets, length-sets}
use Rattle.std.specs.declared.option.Option.TheVariants.{None}
use Rattle.refusal.specs.Answer.{refused, sound}
use Rattle.directory.specs.Lent.{size_of, most_of, fits_of}
use Rattle.directory.specs.Record.{record_at, record_bytes, records_of, end_of}
use Rattle.directory.specs.Rule.{follows_of, end_before, rule_from, directory_rule, test_of}
use Rattle.directory.specs.declared.lent.Lent.{Lent}
use Rattle.directory.specs.declared.lent.Lent.TheVariants.{Area, Directory}
use Rattle.directory.specs.declared.record.SegmentRecord.{SegmentRecord}
use Rattle.directory.proofs.Records.{Held, length_records, record_of, records_more}
use Rattle.directory.proofs.Rules.{last_of, rule_snoc, rule_ends, rule_last}

-- ---- a buffer that fits its row of the table

pub fits_says : (b : Lent) (n : ℕ) → fits_of b n ≡ true → (n % size_of b ≡ 0) × (n / size_of b ≤ most_of b)
unfolding fits_of
fits_says b n e = let p = (and-eq-true_iff _ _).0 e in (eqb-true _ _ p.0, leb-true _ _ p.1)

pub fits_so : (b : Lent) (n : ℕ) → n % size_of b ≡ 0 → n / size_of b ≤ most_of b → fits_of b n ≡ true
unfolding fits_of
fits_so b n e h = rw (eq-eqb _ _ e, le-leb _ _ h)

-- ---- area, directory and used count that the test passes

pub record Sounds (a : ℕ) (d : List ℕ) (u : ℕ) : Type 0 where
  pub area : a ≤ 1_073_741_824
  pub directory : length d ≤ 98_304
  pub whole : length d % 24 ≡ 0
  pub used : 24 * u ≤ length d
  pub rule : rule_from a None (records_of u d) ≡ true

picked : (s t : Bool) → cond s (cond t sound (refused 2)) (refused 1) ≡ sound → (s ≡ true) × (t ≡ true)
picked true true e = (refl, refl)
picked true false e = cc
picked false t e = cc

pub sound_says : (a : ℕ) (d : List ℕ) (u : ℕ) → test_of a d u ≡ sound → Sounds a d u
unfolding test_of directory_rule
sound_says a d u e =
    let p = picked _ _ e in
    let q = (and-eq-true_iff _ _).0 p.0 in
    let r = (and-eq-true_iff _ _).0 p.1 in
    let f = fits_says Area a q.0 in
    let g = fits_says Directory (length d) q.1 in
    let h : u ≤ length d / 24 = leb-true _ _ r.0 in
    record { area = omega arith; directory = omega arith; whole = g.0; used = omega arith; rule = r.1 }

pub sound_so : (a : ℕ) (d : List ℕ) (u : ℕ) → Sounds a d u → test_of a d u ≡ sound
unfolding test_of directory_rule
sound_so a d u s =
    let h : u ≤ length d / 24 = omega arith in
    rw (fits_so Area a (omega arith) (omega arith), fits_so Directory (length d) s.whole (omega arith), le-leb _ _ h, s.rule)

-- each used segment ends in the area, and so does the last
pub sound_ends : (a : ℕ) (d : List ℕ) (u : ℕ) → test_of a d u ≡ sound → (k : ℕ) → k < u → end_of (record_at (drop (24 * k) d)) ≤ a
sound_ends a d u e k h =
    let r = record_at (drop (24 * k) d) in
    rw (record_of u d k r h) at (rule_ends a None (records_of u d) k r (sound_says a d u e).rule (rw length_records h))

pub sound_last : (a : ℕ) (d : List ℕ) (u : ℕ) → test_of a d u ≡ sound → end_before (last_of None (records_of u d)) ≤ a
sound_last a d u e = rule_last a None (records_of u d) (omega arith) (sound_says a d u e).rule

-- ---- what keeps a directory sound

-- record k is written, where those before it keep the rule and it follows them
pub sound_stored : (a : ℕ) (d : List ℕ) (k u : ℕ) (r : SegmentRecord) → Sounds a d u → 24 * (k + 1) ≤ length d → Held r → rule_from a None (records_of k d) ≡ true → follows_of a (last_of None (records_of k d)) r ≡ true → test_of a (sets d (24 * k) (record_bytes r)) (k + 1) ≡ sound
sound_stored a d k u r s l b e f =
    let n : length (sets d (24 * k) (record_bytes r)) ≡ length d = length-sets d (24 * k) (record_bytes r) in
    sound_so a (sets d (24 * k) (record_bytes r)) (k + 1)
    (record {
      area = s.area;
      directory = omega arith;
      whole = rw n s.whole;
      used = omega arith;
      rule = rw (records_more k d r l b, rule_snoc a None (records_of k d) r, e, f);
    })

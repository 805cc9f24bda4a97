-- The laws of the directory's rule: what a sound directory says of its numbers, and what keeps it sound.
-- Assumes nothing.
use mathlib.Core.Path.{◌≡◌, refl}
use mathlib.Core.Bool.{true, false, ◌&&◌, and-true, and_assoc, and-eq-true_iff}
use mathlib.Core.List.{List, [], ◌∷◌, ◌++◌}
use Prim.Native.Nat.{ℕ, zero, suc, ◌+◌, ◌-◌, ◌*◌, ◌<◌, ◌≤◌}
use native.Mathlib.Omega.{arith}
use borrow.Author.Tests.{le-leb, leb-true, lt-ltb, ltb-true}
use lib.ListN.{length, get_or, drop}
use Rattle.std.specs.declared.option.Option.{Option}
use Rattle.std.specs.declared.option.Option.TheVariants.{None, Some}
use Rattle.fields.proofs.Cases.{tests}
use Rattle.directory.proofs.Records.{records_turn, records_snoc}
use Rattle.directory.specs.Record.{record_at, records_of, end_of}
use Rattle.directory.specs.Rule.{id_after, end_before, lies_of, follows_of, after_record, rule_from}
use Rattle.directory.specs.declared.record.SegmentRecord.{SegmentRecord}
use Rattle.directory.specs.declared.rule.Last.{Last}

-- ---- one record

-- what a record says that follows another
pub record Follows (area : ℕ) (last : Option Last) (r : SegmentRecord) : Type 0 where
  pub id : id_after last r.id ≡ true
  pub start : end_before last ≤ r.start
  pub end : end_of r ≤ area

pub follows_says : (area : ℕ) (last : Option Last) (r : SegmentRecord) → follows_of area last r ≡ true → Follows area last r
unfolding follows_of lies_of
follows_says area last r e =
    let p = (and-eq-true_iff _ _).0 e in
    let q = (and-eq-true_iff _ _).0 p.1 in
    let s = (and-eq-true_iff _ _).0 q.0 in
    let h : r.start ≤ area = leb-true _ _ s.1 in
    let l : r.length ≤ area - r.start = leb-true _ _ q.1 in
    record { id = p.0; start = leb-true _ _ s.0; end = omega arith }

pub follows_so : (area : ℕ) (last : Option Last) (r : SegmentRecord) → Follows area last r → follows_of area last r ≡ true
unfolding follows_of lies_of
follows_so area last r f =
    let s : r.start ≤ area = omega arith in
    let l : r.length ≤ area - r.start = omega arith in
    rw (f.id, le-leb _ _ f.start, le-leb _ _ s, le-leb _ _ l)

-- a record that follows one that follows comes after what stood before both
id_over : (last : Option Last) (r s : SegmentRecord) → id_after last r.id ≡ true → r.id < s.id → id_after last s.id ≡ true
id_over None r s e h = refl
id_over (Some last) r s e h = lt-ltb last.id s.id (omega (arith, tests))

follows_over : (area : ℕ) (last : Option Last) (r s : SegmentRecord) → Follows area last r → Follows area (after_record r) s → Follows area last s
follows_over area last r s f g =
    record { id = id_over last r s f.id (ltb-true r.id s.id g.id); start = omega arith; end = g.end }

-- ---- a list of records

pub rule_parts : (area : ℕ) (last : Option Last) (r : SegmentRecord) (rs : List SegmentRecord) → rule_from area last (r ∷ rs) ≡ true → (follows_of area last r ≡ true) × (rule_from area (after_record r) rs ≡ true)
unfolding rule_from
rule_parts area last r rs e = (and-eq-true_iff (follows_of area last r) (rule_from area (after_record r) rs)).0 e

-- what a record behind all of them comes after: the last id and the last end
unfoldable pub last_of : Option Last → List SegmentRecord → Option Last
last_of last [] = last
last_of last (r ∷ rs) = last_of (after_record r) rs

pub rule_snoc : (area : ℕ) (last : Option Last) (rs : List SegmentRecord) (r : SegmentRecord) → rule_from area last (rs ++ (r ∷ [])) ≡ rule_from area last rs && follows_of area (last_of last rs) r
unfolding rule_from last_of
rule_snoc area last [] r = and-true (follows_of area last r)
rule_snoc area last (s ∷ rs) r = rw (rule_snoc area (after_record s) rs r, ← and_assoc)

-- the last id and the last end are those of the last record
pub last_snoc : (last : Option Last) (rs : List SegmentRecord) (r : SegmentRecord) → last_of last (rs ++ (r ∷ [])) ≡ after_record r
unfolding last_of
last_snoc last [] r = refl
last_snoc last (s ∷ rs) r = last_snoc (after_record s) rs r

pub last_record : (last : Option Last) (k : ℕ) (s : List ℕ) → last_of last (records_of (k + 1) s) ≡ after_record (record_at (drop (24 * k) s))
last_record last k s = rw (records_snoc k s) (last_snoc last (records_of k s) (record_at (drop (24 * k) s)))

-- each record ends in the area
pub rule_ends : (area : ℕ) (last : Option Last) (rs : List SegmentRecord) (k : ℕ) (d : SegmentRecord) → rule_from area last rs ≡ true → k < length rs → end_of (get_or rs k d) ≤ area
unfolding rule_from
rule_ends area last [] k d e h = absurd (omega arith)
rule_ends area last (r ∷ rs) zero d e h = (follows_says area last r (rule_parts area last r rs e).0).end
rule_ends area last (r ∷ rs) (suc k) d e h = rule_ends area (after_record r) rs k d (rule_parts area last r rs e).1 (omega arith)

-- the last one too
pub rule_last : (area : ℕ) (last : Option Last) (rs : List SegmentRecord) → end_before last ≤ area → rule_from area last rs ≡ true → end_before (last_of last rs) ≤ area
unfolding rule_from last_of
rule_last area last [] h e = h
rule_last area last (r ∷ rs) h e =
    let p = rule_parts area last r rs e in
    rule_last area (after_record r) rs (follows_says area last r p.0).end p.1

-- ---- records taken out: the first goes, or it stays and others go after it

pub rule_without : (area : ℕ) (last : Option Last) (r : SegmentRecord) (rs : List SegmentRecord) → rule_from area last (r ∷ rs) ≡ true → rule_from area last rs ≡ true
unfolding rule_from
rule_without area last r [] e = refl
rule_without area last r (s ∷ rs) e =
    let p = rule_parts area last r (s ∷ rs) e in
    let q = rule_parts area (after_record r) s rs p.1 in
    let f = follows_over area last r s (follows_says area last r p.0) (follows_says area (after_record r) s q.0) in
    rw (follows_so area last s f, q.1)

pub rule_keep : (area : ℕ) (last : Option Last) (r : SegmentRecord) (rs ks : List SegmentRecord) → (rule_from area (after_record r) rs ≡ true → rule_from area (after_record r) ks ≡ true) → rule_from area last (r ∷ rs) ≡ true → rule_from area last (r ∷ ks) ≡ true
unfolding rule_from
rule_keep area last r rs ks f e =
    let p = rule_parts area last r rs e in
    rw (p.0, f p.1)

-- ---- the loop that tests one record after the other

module _ (area : ℕ) (last : Option Last) (n k : ℕ) (s : List ℕ) (h : k < n) where
  pub rule_turn : follows_of area last (record_at (drop (24 * k) s)) ≡ true → rule_from area (after_record (record_at (drop (24 * k) s))) (records_of (n - (k + 1)) (drop (24 * (k + 1)) s)) ≡ rule_from area last (records_of (n - k) (drop (24 * k) s))
  unfolding rule_from
  rule_turn e = rw (records_turn n k s h, e)

  pub rule_stop : follows_of area last (record_at (drop (24 * k) s)) ≡ false → false ≡ rule_from area last (records_of (n - k) (drop (24 * k) s))
  unfolding rule_from
  rule_stop e = rw (records_turn n k s h, e)

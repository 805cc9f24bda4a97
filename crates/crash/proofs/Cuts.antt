-- A cut leaves the segments before some one, and of that one a beginning.
-- Assumes nothing.
use mathlib.Core.Path.{◌≡◌, refl, ap, sym, ◌∙◌}
use mathlib.Core.Bool.{true}
use mathlib.Core.List.{List, [], ◌∷◌, ◌++◌, map}
use Prim.Native.Nat.{ℕ, ◌+◌, ◌-◌, ◌≤◌}
use native.Mathlib.Omega.{arith}
use lib.ListN.{take, drop}
use lib.Seq.{take-take}
use Rattle.records.specs.Dense.{All}
use Rattle.directory.specs.Image.{segment_bytes}
use Rattle.directory.specs.Record.{end_of}
use Rattle.directory.specs.Rule.{end_before, rule_from, after_record}
use Rattle.directory.specs.declared.record.SegmentRecord.{SegmentRecord}
use Rattle.std.specs.declared.option.Option.{Option}
use Rattle.directory.specs.declared.rule.Last.{Last}
use Rattle.directory.proofs.Rules.{follows_says, follows_so, rule_parts}
use Rattle.crash.specs.Kept.{kept_by, torn_by, still_torn}
use Rattle.crash.proofs.Images.{image_of, written_from}
use Rattle.crash.proofs.Lefts.{kept_append, torn_append, still_append, kept_again, torn_again, still_again, kept_sooner, kept_behind, torn_past, still_past}
use Rattle.crash.proofs.Holdings.{drop-take}
use Rattle.crash.proofs.Segments.{Segment, place_of, left_in, torn_in, left_of, torn_of, Stands}

-- ---- the directory's records

-- segments that end at or before a place, and those that start at or behind it
abbrev pub EndsBy : (cut : ℕ) → Segment → Type 0
EndsBy cut s = end_of s.place ≤ cut

abbrev pub StartsAt : (cut : ℕ) → Segment → Type 0
StartsAt cut s = cut ≤ s.place.start

-- where a record stands, all that is before it has ended
start_over : (area : ℕ) (last : Option Last) (ss : List Segment) (p : SegmentRecord) (rest : List SegmentRecord) → rule_from area last (map place_of ss ++ (p ∷ rest)) ≡ true → end_before last ≤ p.start
start_over area last [] p rest e = (follows_says area last p (rule_parts area last p rest e).0).start
start_over area last (s ∷ ss) p rest e =
    let t = rule_parts area last s.place (map place_of ss ++ (p ∷ rest)) e in
    omega (arith, (follows_says area last s.place t.0).start, start_over area (after_record s.place) ss p rest t.1)

pub ends_before : (area cut : ℕ) (last : Option Last) (ss : List Segment) (p : SegmentRecord) (rest : List SegmentRecord) → p.start ≤ cut → rule_from area last (map place_of ss ++ (p ∷ rest)) ≡ true → All (EndsBy cut) ss
ends_before area cut last [] p rest h e = tt
ends_before area cut last (s ∷ ss) p rest h e =
    let t = (rule_parts area last s.place (map place_of ss ++ (p ∷ rest)) e).1 in
    (omega (arith, start_over area (after_record s.place) ss p rest t), ends_before area cut (after_record s.place) ss p rest h t)

pub starts_after : (area cut : ℕ) (last : Option Last) (ss : List Segment) → cut ≤ end_before last → rule_from area last (map place_of ss) ≡ true → All (StartsAt cut) ss
starts_after area cut last [] h e = tt
starts_after area cut last (s ∷ ss) h e =
    let t = rule_parts area last s.place (map place_of ss) e in
    let f = follows_says area last s.place t.0 in
    (omega (arith, f.start), starts_after area cut (after_record s.place) ss (omega (arith, f.start)) t.1)

-- what stands behind some records
pub rule_behind : (area : ℕ) (last : Option Last) (ss : List Segment) (p : SegmentRecord) (rest : List SegmentRecord) → rule_from area last (map place_of ss ++ (p ∷ rest)) ≡ true → rule_from area (after_record p) rest ≡ true
rule_behind area last [] p rest e = (rule_parts area last p rest e).1
rule_behind area last (s ∷ ss) p rest e =
    rule_behind area (after_record s.place) ss p rest (rule_parts area last s.place (map place_of ss ++ (p ∷ rest)) e).1

abbrev pub shortened : (n : ℕ) → SegmentRecord → SegmentRecord
shortened n r = record { id = r.id; start = r.start; length = n }

-- a shorter record follows where the longer one did, in an area that holds it
pub rule_cut : (area other n : ℕ) (last : Option Last) (ss : List Segment) (p : SegmentRecord) (rest : List SegmentRecord) → rule_from area last (map place_of ss ++ (p ∷ rest)) ≡ true → All (EndsBy other) ss → p.start + n ≤ other → rule_from other last (map place_of ss ++ (shortened n p ∷ [])) ≡ true
unfolding rule_from
rule_cut area other n last [] p rest e ends h =
    let f = follows_says area last p (rule_parts area last p rest e).0 in
    rw (follows_so other last (shortened n p) (record { id = f.id; start = f.start; end = h }))
rule_cut area other n last (s ∷ ss) p rest e ends h =
    let t = rule_parts area last s.place (map place_of ss ++ (p ∷ rest)) e in
    let f = follows_says area last s.place t.0 in
    rw (follows_so other last s.place (record { id = f.id; start = f.start; end = ends.0 }), rule_cut area other n (after_record s.place) ss p rest t.1 ends.1 h)

-- ---- the segments

module _ (area other : List ℕ) (cut : ℕ) (same : take cut other ≡ take cut area) where
  -- bytes before the cut
  bytes_same : (start n : ℕ) → start + n ≤ cut → take n (drop start other) ≡ take n (drop start area)
  bytes_same start n h =
      let l : n ≤ cut - start = omega arith in
      sym (take-take n (cut - start) (drop start other) l)
      ∙ ap (take n) (sym (drop-take start cut other) ∙ ap (drop start) same ∙ drop-take start cut area)
      ∙ take-take n (cut - start) (drop start area) l

  pub stand_before : (ss : List Segment) → All (EndsBy cut) ss → All (Stands area) ss → All (Stands other) ss
  unfolding segment_bytes
  stand_before [] ends st = tt
  stand_before (s ∷ ss) ends st = (
    record {
      accepted = st.0.accepted;
      long = st.0.long;
      bytes = bytes_same s.place.start s.place.length ends.0 ∙ st.0.bytes;
      id = st.0.id;
    },
    stand_before ss ends.1 st.1,
  )

  -- the one that is cut
  pub stand_cut : (s : Segment) (n : ℕ) → s.place.start + n ≡ cut → n ≤ s.place.length → Stands area s → Stands other (record { place = shortened n s.place; asked = s.asked })
  unfolding segment_bytes
  stand_cut s n c h st =
      record {
        accepted = st.accepted;
        long = omega (arith, st.long);
        bytes =
            bytes_same s.place.start n (omega arith)
            ∙ sym (take-take n s.place.length (drop s.place.start area) h)
            ∙ ap (take n) st.bytes
            ∙ take-take n s.place.length (image_of s.asked) h;
        id = st.id;
      }

-- ---- what is left of those before it, and of those behind

module _ (cut : ℕ) where
  pub kept_first : (ss : List Segment) → All (EndsBy cut) ss → kept_by cut (left_of ss) ≡ left_of ss
  unfolding left_of
  kept_first [] ends = unfold kept_by in refl
  kept_first (s ∷ ss) ends =
      rw (kept_append cut (left_in s) (left_of ss), kept_again (end_of s.place) cut ends.0 (written_from s.place.start s.asked), kept_first ss ends.1)

  pub torn_first : (ss : List Segment) → All (EndsBy cut) ss → torn_by cut (left_of ss) ≡ []
  unfolding left_of
  torn_first [] ends = unfold torn_by in refl
  torn_first (s ∷ ss) ends =
      rw (torn_append cut (left_in s) (left_of ss), torn_again (end_of s.place) cut ends.0 (written_from s.place.start s.asked), torn_first ss ends.1)

  pub still_first : (ss : List Segment) → All (EndsBy cut) ss → still_torn cut (torn_of ss) ≡ torn_of ss
  unfolding torn_of
  still_first [] ends = unfold still_torn in refl
  still_first (s ∷ ss) ends =
      rw (still_append cut (torn_in s) (torn_of ss), still_again (end_of s.place) cut ends.0 (written_from s.place.start s.asked), still_first ss ends.1)

  pub kept_rest : (ss : List Segment) → All (StartsAt cut) ss → kept_by cut (left_of ss) ≡ []
  unfolding left_of
  kept_rest [] starts = unfold kept_by in refl
  kept_rest (s ∷ ss) starts =
      rw (kept_append cut (left_in s) (left_of ss), kept_sooner (end_of s.place) cut (omega (arith, starts.0)) (written_from s.place.start s.asked), kept_behind cut s.place.start s.asked starts.0, kept_rest ss starts.1)

  pub torn_rest : (ss : List Segment) → All (StartsAt cut) ss → torn_by cut (left_of ss) ≡ []
  unfolding left_of
  torn_rest [] starts = unfold torn_by in refl
  torn_rest (s ∷ ss) starts =
      rw (torn_append cut (left_in s) (left_of ss), torn_past (end_of s.place) cut s.place.start s.asked starts.0, torn_rest ss starts.1)

  pub still_rest : (ss : List Segment) → All (StartsAt cut) ss → still_torn cut (torn_of ss) ≡ []
  unfolding torn_of
  still_rest [] starts = unfold still_torn in refl
  still_rest (s ∷ ss) starts =
      rw (still_append cut (torn_in s) (torn_of ss), still_past (end_of s.place) cut s.place.start s.asked starts.0, still_rest ss starts.1)

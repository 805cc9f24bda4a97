-- A log that was cut consists of the segments before some one, and of a beginning of that one.
-- Assumes nothing.
use mathlib.Core.Path.{◌≡◌, refl, ap, sym, ◌∙◌}
use mathlib.Core.Bool.{true}
use mathlib.Core.List.{List, [], ◌∷◌, ◌++◌, map, map-append, append_assoc, append-nil}
use Prim.Native.Nat.{ℕ, suc, ◌+◌, ◌<◌, ◌≤◌}
use native.Mathlib.Omega.{arith}
use lib.ListN.{length, get_or, take, drop, length-append, length-take, length-map}
use lib.Seq.{take_at, get_or_at, length-take-le, split_at}
use Rattle.refusal.specs.Answer as Answers
use Rattle.records.specs.Dense.{All}
use Rattle.records.proofs.Dense.{all_append, all_parts}
use Rattle.directory.specs.Record.{records_of, end_of}
use Rattle.directory.specs.Rule.{test_of, rule_from, after_record}
use Rattle.directory.specs.declared.lent.Lent.TheVariants as Lends
use Rattle.directory.specs.declared.record.SegmentRecord.{SegmentRecord}
use Rattle.std.specs.declared.option.Option.TheVariants.{None}
use Rattle.directory.proofs.Records.{length_records, record_of, records_first}
use Rattle.directory.proofs.Sound.{fits_says, sound_says, sound_so, sound_ends}
use Rattle.crash.specs.Kept.{kept_by, torn_by, still_torn}
use Rattle.crash.specs.Life.{Held, Life, Cut, segment_in, cut_place, IsCut, cut_by}
use Rattle.crash.proofs.Images.{written_from}
use Rattle.crash.proofs.Lefts.{kept_append, torn_append, still_append, kept_sooner, torn_again, torn_sooner, torn_once}
use Rattle.crash.proofs.Segments.{Segment, place_of, left_in, torn_in, left_of, torn_of, Stands, Holds, Consists, left_append, left_snoc, torn_snoc}
use Rattle.crash.proofs.Segments as Segments
use Rattle.crash.proofs.Cuts.{EndsBy, StartsAt, ends_before, starts_after, rule_behind, shortened, rule_cut, stand_before, stand_cut, kept_first, torn_first, still_first, kept_rest, torn_rest, still_rest}

no_element : (ss : List Segment) → length ss ≤ 0 → ss ≡ []
no_element [] h = refl
no_element (s ∷ ss) h = absurd (omega arith)

-- the segments before one, and those behind it
record Parts (ss : List Segment) (k : ℕ) : Type 0 where
  before : List Segment
  it : Segment
  after : List Segment
  whole : ss ≡ before ++ (it ∷ after)
  place : length before ≡ k

parts : (ss : List Segment) (k : ℕ) (d : Segment) → k < length ss → Parts ss k
parts ss k d h =
    record { before = take k ss; it = get_or ss k d; after = drop (suc k) ss; whole = split_at ss k d h; place = length-take-le k ss (omega arith) }

module _ (l : Life) (c : Cut) (before : List Segment) (it : Segment) (after : List Segment) (place : length before ≡ c.k) (is : Consists l (before ++ (it ∷ after))) (cuts : IsCut l.held c) where
  abbrev h : Held
  h = l.held

  abbrev size : ℕ
  size = length h.area

  abbrev cut : ℕ
  cut = cut_place h c

  records_are : records_of h.used h.directory ≡ map place_of before ++ (it.place ∷ map place_of after)
  records_are = is.holds.records ∙ map-append place_of before (it ∷ after)

  before_length : length (map place_of before) ≡ c.k
  before_length = length-map before place_of ∙ place

  it_is : segment_in h c.k ≡ it.place
  it_is =
      sym (record_of h.used h.directory c.k it.place cuts.segment)
      ∙ ap (λ (rs : List SegmentRecord). get_or rs c.k it.place) records_are
      ∙ get_or_at (map place_of before) it.place (map place_of after) it.place c.k before_length

  before_are : records_of c.k h.directory ≡ map place_of before
  before_are =
      records_first h.used c.k h.directory (omega (arith, cuts.segment))
      ∙ ap (take c.k) records_are
      ∙ take_at (map place_of before) _ c.k before_length

  -- the segment that is cut
  abbrev short : Segment
  short = record { place = shortened c.n it.place; asked = it.asked }

  byte_in : c.n ≤ it.place.length
  byte_in = rw it_is at cuts.byte

  cut_is : it.place.start + c.n ≡ cut
  cut_is = rw it_is

  rule : rule_from size None (map place_of before ++ (it.place ∷ map place_of after)) ≡ true
  rule = rw (← records_are) (sound_says size h.directory h.used is.holds.sound).rule

  ends : All (EndsBy cut) before
  ends = ends_before size cut None before it.place (map place_of after) (omega (arith, cut_is)) rule

  starts : All (StartsAt cut) after
  starts =
      starts_after size cut (after_record it.place) after (omega (arith, cut_is, byte_in)) (rule_behind size None before it.place (map place_of after) rule)

  stands : All (Stands h.area) before × All (Stands h.area) (it ∷ after)
  stands = all_parts (Stands h.area) before (it ∷ after) is.holds.stand

  -- ---- what is held

  -- the area reaches to the cut
  cut_in : cut ≤ length c.area
  cut_in =
      let e = sound_ends size h.directory h.used is.holds.sound c.k cuts.segment in
      let n : length (take cut h.area) ≡ cut = length-take-le cut h.area (omega (arith, cuts.byte)) in
      let m : length (take cut c.area) ≡ cut = ap length cuts.area_kept ∙ n in
      omega (arith, m, length-take cut c.area)

  kept_records : records_of (c.k + 1) c.directory ≡ map place_of before ++ (short.place ∷ [])
  kept_records = cuts.directory_kept ∙ rw (before_are, it_is)

  cut_sound : test_of (length c.area) c.directory (c.k + 1) ≡ Answers.sound
  cut_sound =
      let a = fits_says Lends.Area (length c.area) cuts.area_fits in
      let d = fits_says Lends.Directory (length c.directory) cuts.directory_fits in
      sound_so (length c.area) c.directory (c.k + 1)
      (record {
        area = omega (arith, a.1);
        directory = omega (arith, d.0, d.1);
        whole = d.0;
        used = omega (arith, cuts.directory_size);
        rule = rw kept_records (rule_cut size (length c.area) c.n None before it.place (map place_of after) rule (ends_before size (length c.area) None before it.place (map place_of after) (omega (arith, cut_is, cut_in)) rule) (omega (arith, cut_is, cut_in)));
      })

  cut_holds : Holds (cut_by c l).held (before ++ (short ∷ []))
  cut_holds =
      record {
        sound = cut_sound;
        records = kept_records ∙ sym (map-append place_of before (short ∷ []));
        stand = all_append (Stands c.area) before (short ∷ []) (stand_before h.area c.area cut cuts.area_kept before ends stands.0) (stand_cut h.area c.area cut cuts.area_kept it c.n cut_is byte_in stands.1.0, tt);
      }

  -- ---- the entries and the torn ends

  entries_are : l.entries ≡ left_of before ++ (left_in it ++ left_of after)
  unfolding left_of
  entries_are = is.entries ∙ left_append before (it ∷ after)

  torn_are : l.torn ≡ torn_of before ++ (torn_in it ++ torn_of after)
  unfolding torn_of
  torn_are = is.torn ∙ Segments.torn_append before (it ∷ after)

  short_left : kept_by cut (left_in it) ≡ left_in short
  short_left =
      kept_sooner (end_of it.place) cut (omega (arith, cut_is, byte_in)) (written_from it.place.start it.asked)
      ∙ ap (λ n. kept_by n (written_from it.place.start it.asked)) (sym cut_is)

  entries_left : kept_by cut l.entries ≡ left_of (before ++ (short ∷ []))
  entries_left =
      ap (kept_by cut) entries_are
      ∙ rw (kept_append cut (left_of before) (left_in it ++ left_of after), kept_append cut (left_in it) (left_of after), kept_first cut before ends, kept_rest cut after starts, append-nil, short_left, left_snoc before short)

  -- of the entries that were there, the cut is inside one of its own segment's
  torn_new : torn_by cut l.entries ≡ torn_by cut (left_in it)
  torn_new =
      ap (torn_by cut) entries_are
      ∙ rw (torn_append cut (left_of before) (left_in it ++ left_of after), torn_append cut (left_in it) (left_of after), torn_first cut before ends, torn_rest cut after starts, append-nil)

  torn_old : still_torn cut l.torn ≡ torn_of before ++ still_torn cut (torn_in it)
  torn_old =
      ap (still_torn cut) torn_are
      ∙ rw (still_append cut (torn_of before) (torn_in it ++ torn_of after), still_append cut (torn_in it) (torn_of after), still_first cut before ends, still_rest cut after starts, append-nil)

  short_torn : still_torn cut (torn_in it) ++ torn_by cut (left_in it) ≡ torn_in short
  short_torn =
      torn_sooner (end_of it.place) cut it.place.start it.asked (omega (arith, cut_is, byte_in))
      ∙ ap (λ n. torn_by n (written_from it.place.start it.asked)) (sym cut_is)

  torn_left : still_torn cut l.torn ++ torn_by cut l.entries ≡ torn_of (before ++ (short ∷ []))
  torn_left = rw (torn_new, torn_old, append_assoc, short_torn, torn_snoc before short)

  torn_at_most : length (torn_by cut l.entries) ≤ 1
  torn_at_most =
      let n = torn_once (end_of short.place) it.place.start it.asked in
      let m : length (still_torn cut (torn_in it)) + length (torn_by cut (left_in it)) ≡ length (torn_in short) = sym (length-append (still_torn cut (torn_in it)) (torn_by cut (left_in it))) ∙ ap length short_torn in
      rw torn_new (omega (arith, n, m))

  -- a cut at the segment's end, where no other stands behind it, loses nothing
  whole_end : c.n ≡ (segment_in h c.k).length → end_of it.place ≤ cut
  whole_end e = omega (arith, e ∙ ap (λ (r : SegmentRecord). r.length) it_is, cut_is)

  whole_torn : c.n ≡ (segment_in h c.k).length → torn_by cut l.entries ≡ []
  whole_torn e =
      torn_new ∙ torn_again (end_of it.place) cut (whole_end e) (written_from it.place.start it.asked)

  whole_kept : c.n ≡ (segment_in h c.k).length → after ≡ [] → kept_by cut l.entries ≡ l.entries
  unfolding left_of
  whole_kept e none =
      let all : l.entries ≡ left_of (before ++ (it ∷ [])) = is.entries ∙ ap (λ (ss : List Segment). left_of (before ++ (it ∷ ss))) none in
      ap (kept_by cut) all
      ∙ kept_first cut (before ++ (it ∷ [])) (all_append (EndsBy cut) before (it ∷ []) ends (whole_end e, tt))
      ∙ sym all

  cut_consists : Consists (cut_by c l) (before ++ (short ∷ []))
  cut_consists = record { holds = cut_holds; entries = entries_left; torn = torn_left; active = tt }

-- ---- the law

module _ (l : Life) (c : Cut) (ss : List Segment) (is : Consists l ss) (cuts : IsCut l.held c) where
  count_is : length ss ≡ l.held.used
  count_is =
      sym (length-map ss place_of) ∙ ap length (sym is.holds.records) ∙ length_records l.held.used l.held.directory

  split : Parts ss c.k
  split =
      parts ss c.k (record { place = segment_in l.held c.k; asked = [] }) (omega (arith, count_is, cuts.segment))

  pub cutting_consists : (ts : List Segment) × Consists (cut_by c l) ts
  cutting_consists =
      let p = split in
      (_, cut_consists l c p.before p.it p.after p.place (rw p.whole at is) cuts)

  pub nothing_lost : c.k + 1 ≡ l.held.used → c.n ≡ (segment_in l.held c.k).length → (kept_by (cut_place l.held c) l.entries ≡ l.entries) × (torn_by (cut_place l.held c) l.entries ≡ [])
  nothing_lost last end =
      let p = split in
      let now : Consists l (p.before ++ (p.it ∷ p.after)) = rw p.whole at is in
      let n : length p.before + suc (length p.after) ≡ length ss = sym (length-append p.before (p.it ∷ p.after)) ∙ ap length (sym p.whole) in
      let none : p.after ≡ [] = no_element p.after (omega (arith, n, count_is, p.place, last)) in (
        whole_kept l c p.before p.it p.after p.place now cuts end none,
        whole_torn l c p.before p.it p.after p.place now cuts end,
      )

  pub cut_once : length (torn_by (cut_place l.held c) l.entries) ≤ 1
  cut_once =
      let p = split in
      torn_at_most l c p.before p.it p.after p.place (rw p.whole at is) cuts

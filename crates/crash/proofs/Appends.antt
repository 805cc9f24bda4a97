-- An append puts its entry behind those of the last segment, which is whole, or into a new one.
-- Assumes nothing.
use Prim.Native.Nat.{ℕ, ◌+◌, ◌-◌, ◌*◌}
use mathlib.Core.Path.{◌≡◌, refl, sym, ap, ◌∙◌}
use mathlib.Core.Bool.{true, false}
use mathlib.Core.List.{List, [], ◌∷◌, ◌++◌, map, map-append, append-nil}
use mathlib.Core.Logic.{⊎_elim}
use mathlib.Core.Option.{Option, none, some}
use native.Mathlib.Omega.{arith}
use lib.ListN.{length, get_or, take, drop, length-append, length-map}
use lib.Seq.{take-length, take_at, get_or_at}
use Rattle.records.specs.Dense.{All}
use Rattle.records.proofs.Dense.{all_parts}
use Rattle.directory.specs.Image.{segment_bytes}
use Rattle.directory.specs.Record.{record_at, records_of}
use Rattle.directory.specs.Rule.{after_record}
use Rattle.directory.specs.declared.record.SegmentRecord.{SegmentRecord}
use Rattle.directory.proofs.Records.{length_records, records_snoc}
use Rattle.plan.specs.Plan.{last_used, new_segment}
use Rattle.plan.proofs.Plans.{IsBehind, Rotates, Stored, plan_says, plan_stores}
use Rattle.segment.specs.declared.SegmentManager.{SegmentManager}
use Rattle.segment.proofs.Logs.{images_old}
use Rattle.crash.specs.Request.{Request, Typed, encoded}
use Rattle.crash.specs.Kept.{kept_by}
use Rattle.crash.specs.Life.{Held, Life, appending}
use Rattle.crash.proofs.Images.{image_of, written_from}
use Rattle.crash.proofs.Segments.{Segment, place_of, Stands, IsWhole, Active, IsOpen, Consists, left_snoc, torn_snoc}
use Rattle.crash.proofs.Grows.{held_by, Did, appended, Behind, stand_kept, whole_torn, grown_consists}

-- ---- behind the active segment, or behind a new one

module _ (l m : Life) (r : Request) (typed : Typed r) (d : Did l m r) (before : List Segment) (last : Segment) (c : Consists l (before ++ (last ∷ []))) (whole : IsWhole last) where
  abbrev h : Held
  h = l.held

  abbrev size : ℕ
  size = length h.area

  abbrev all : List Segment
  all = before ++ (last ∷ [])

  used_is : h.used ≡ length before + 1
  used_is =
      sym (length_records h.used h.directory)
      ∙ ap length c.holds.records
      ∙ length-map all place_of
      ∙ length-append before (last ∷ [])

  -- the records of those before it, and its own
  records_are : records_of (length before) h.directory ++ (record_at (drop (24 * length before) h.directory) ∷ []) ≡ map place_of before ++ (last.place ∷ [])
  records_are =
      sym (records_snoc (length before) h.directory)
      ∙ ap (λ n. records_of n h.directory) (sym used_is)
      ∙ c.holds.records
      ∙ map-append place_of before (last ∷ [])

  before_are : records_of (length before) h.directory ≡ map place_of before
  before_are =
      let n = length before in
      sym (take_at _ _ n (length_records n h.directory)) ∙ ap (take n) records_are ∙ take_at _ _ n (length-map before place_of)

  last_used_lem : last_used h.directory h.used ≡ last.place
  last_used_lem =
      let n = length before in
      let k : h.used - 1 ≡ n = omega (arith, used_is) in
      ap (λ n. record_at (drop (24 * n) h.directory)) k
      ∙ sym (get_or_at (records_of n h.directory) _ [] last.place n (length_records n h.directory))
      ∙ ap (λ (rs : List SegmentRecord). get_or rs n last.place) records_are
      ∙ get_or_at (map place_of before) last.place [] last.place n (length-map before place_of)

  last_stands : Stands h.area last
  last_stands = (all_parts (Stands h.area) before (last ∷ []) c.holds.stand).1.0

  stored : Stored size h.directory d.write.k d.write.segment
  stored =
      let a = d.did in
      plan_stores d.manager.max_segment_size size h.directory h.used (length (encoded r)) d.write (rw last_used_lem last_stands.id) a.sounds a.some a.plan

  -- the segments that were there have their bytes
  all_kept : All (Stands (held_by h r d.write).area) all
  all_kept =
      let a = d.did in
      let same = images_old d.manager.max_segment_size h.area h.directory h.used (encoded r) d.write a.plan a.sounds a.some in
      stand_kept h.area (held_by h r d.write).area all (rw c.holds.records at same) c.holds.stand

  stays : IsBehind (last_used h.directory h.used) (h.used - 1) false size (length (encoded r)) d.write → Behind l d.write (length (encoded r)) before last
  stays b =
      let k : h.used - 1 ≡ length before = omega (arith, used_is) in
      record {
        rotated = false;
        plan = rw (last_used_lem, k) at b;
        records = before_are;
        whole = whole;
        accepted = last_stands.accepted;
        bytes = last_stands.bytes ∙ rw (whole, take-length);
        entries = c.entries ∙ left_snoc before last;
        torn = c.torn ∙ rw (torn_snoc before last, whole_torn last whole, append-nil);
      }

  abbrev new : Segment
  new = record { place = new_segment (after_record last.place); asked = [] }

  count_is : h.used ≡ length all
  count_is = rw (length-append before (last ∷ [])) used_is

  moves : Rotates size h.directory h.used (length (encoded r)) d.write → Behind l d.write (length (encoded r)) all new
  unfolding new_segment segment_bytes image_of kept_by written_from
  moves t =
      record {
        rotated = true;
        plan = rw (last_used_lem, count_is) at t.behind;
        records = rw (← count_is) c.holds.records;
        whole = refl;
        accepted = tt;
        bytes = refl;
        entries = rw append-nil c.entries;
        torn = c.torn;
      }

  append_consists : (ts : List Segment) × Consists m ts
  append_consists =
      let a = d.did in
      ⊎_elim
      (λ b.
      (_, grown_consists l m r typed d before last (stays b) stored (all_parts (Stands (held_by h r d.write).area) before (last ∷ []) all_kept).0))
      (λ t. (_, grown_consists l m r typed d all new (moves t) stored all_kept))
      (plan_says d.manager.max_segment_size size h.directory h.used (length (encoded r)) d.write a.plan)

pub appending_consists : (l m : Life) (r : Request) (ss : List Segment) → Typed r → Consists l ss → appending r l ≡ some m → (ts : List Segment) × Consists m ts
appending_consists l m r ss typed c e =
    let d = appended l m r e in
    let a : Active ss = opened l.writer d.manager d.writer c.active in
    append_consists l m r typed d a.before a.last (rw a.parts at c) a.whole
  where
    opened : (w : Option SegmentManager) (manager : SegmentManager) → w ≡ some manager → IsOpen w ss → Active ss
    opened none manager e o = let z : ◌≡◌ {A = ℕ} 0 1 = cc in absurd (omega arith)
    opened (some w) manager e o = o

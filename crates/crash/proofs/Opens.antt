-- An opening, and a rotation too, puts an empty segment behind those that are there, whatever their ends.
-- Assumes nothing.
use Prim.Native.Nat.{ℕ, ◌+◌, ◌*◌, ◌^◌, ◌<◌}
use mathlib.Core.Path.{◌≡◌, refl, sym, ap, subst}
use mathlib.Core.List.{List, [], ◌∷◌, ◌++◌, map, map-append, append-nil}
use mathlib.Core.Option.{Option, none, some}
use native.Mathlib.Omega.{arith}
use lib.ListN.{length}
use lib.Seq.{sets}
use Rattle.refusal.specs.Answer as Answers
use Rattle.refusal.specs.Answer.{Answer, refused, accepted}
use Rattle.records.specs.Dense.{All}
use Rattle.records.proofs.Dense.{all_append}
use Rattle.directory.specs.Image.{segment_bytes}
use Rattle.directory.specs.Record.{record_bytes}
use Rattle.directory.specs.Rule.{test_of, after_record}
use Rattle.directory.specs.declared.record.SegmentRecord.{SegmentRecord}
use Rattle.std.specs.declared.option.Option as Std
use Rattle.directory.specs.declared.rule.Last.{Last}
use Rattle.std.specs.declared.option.Option.TheVariants.{None, Some}
use Rattle.directory.proofs.Rules.{last_of}
use Rattle.plan.specs.Plan.{last_in, new_segment, new_segment_of}
use Rattle.plan.proofs.Plans.{IdFits, open_says, last_in_is, open_stores}
use Rattle.segment.specs.Writing.{fresh, open_by, open_of, rotate_of}
use Rattle.segment.specs.declared.SegmentManager.{SegmentManager}
use Rattle.crash.specs.Kept.{kept_by, torn_by}
use Rattle.crash.specs.Life.{Held, Life, by_writer, after_opening, opening, rotating}
use Rattle.crash.proofs.Images.{image_of, written_from}
use Rattle.crash.proofs.Segments.{Segment, place_of, Stands, Consists, left_snoc, torn_snoc}

-- the last segment's id has 8 bytes
last_id : (area : List ℕ) (last : Std.Option Last) (ss : List Segment) → IdFits last → All (Stands area) ss → IdFits (last_of last (map place_of ss))
unfolding last_of
last_id area last [] i st = i
last_id area last (s ∷ ss) i st = last_id area (after_record s.place) ss st.0.id st.1

-- a new segment has no bytes yet
new_length : (last : Std.Option Last) → (new_segment last).length ≡ 0
unfolding new_segment
new_length None = refl
new_length (Some before) = refl

-- ---- what an accepted opening leaves

abbrev opened_with : Life → SegmentManager → SegmentRecord → Life
opened_with l w s =
    let h = l.held in
    record {
      writer = some (fresh w.max_segment_size);
      held = record { used = h.used + 1; directory = sets h.directory (24 * h.used) (record_bytes s); area = h.area };
      entries = l.entries;
      torn = l.torn;
    }

record Opened (l m : Life) (w : SegmentManager) : Type 0 where
  segment : SegmentRecord
  found : new_segment_of (length l.held.area) l.held.directory l.held.used ≡ accepted segment
  is : opened_with l w segment ≡ m

opened : (l m : Life) (w : SegmentManager) → after_opening (open_by (new_segment_of (length l.held.area) l.held.directory l.held.used) w l.held.directory l.held.used) l ≡ some m → Opened l m w
opened l m w e = told (new_segment_of (length l.held.area) l.held.directory l.held.used) refl e
  where
    told : (a : Answer SegmentRecord) → new_segment_of (length l.held.area) l.held.directory l.held.used ≡ a → after_opening (open_by a w l.held.directory l.held.used) l ≡ some m → Opened l m w
    told (refused number) f e = let z : ◌≡◌ {A = ℕ} 0 1 = cc in absurd (omega arith)
    told (accepted s) f e = record { segment = s; found = f; is = cc }

opening_opened : (l m : Life) (bound : ℕ) → opening bound l ≡ some m → Opened l m (fresh bound)
unfolding opening open_of
opening_opened l m bound e = opened l m (fresh bound) e

pub opening_sound : (l m : Life) (bound : ℕ) → opening bound l ≡ some m → test_of (length l.held.area) l.held.directory l.held.used ≡ Answers.sound
opening_sound l m bound e = (open_says _ _ _ _ (opening_opened l m bound e).found).sounds

pub opening_torn : (l m : Life) (bound : ℕ) → opening bound l ≡ some m → m.torn ≡ l.torn
opening_torn l m bound e = ap (λ (x : Life). x.torn) (sym (opening_opened l m bound e).is)

pub opening_entries : (l m : Life) (bound : ℕ) → opening bound l ≡ some m → m.entries ≡ l.entries
opening_entries l m bound e = ap (λ (x : Life). x.entries) (sym (opening_opened l m bound e).is)

-- ---- the log with it

module _ (l m : Life) (ss : List Segment) (c : Consists l ss) where
  abbrev h : Held
  h = l.held

  abbrev size : ℕ
  size = length h.area

  abbrev new : SegmentRecord → Segment
  new s = record { place = s; asked = [] }

  last_is : last_of None (map place_of ss) ≡ last_in h.directory h.used
  last_is = rw (← c.holds.records) (last_in_is h.directory h.used)

  empty_stands : (s : SegmentRecord) → s.length ≡ 0 → s.id < 2 ^ 64 → Stands h.area (new s)
  unfolding segment_bytes image_of
  empty_stands s e i = record { accepted = tt; long = omega arith; bytes = rw e; id = i }

  with_consists : (w : SegmentManager) (s : SegmentRecord) → new_segment_of size h.directory h.used ≡ accepted s → Consists (opened_with l w s) (ss ++ (new s ∷ []))
  unfolding kept_by torn_by written_from image_of
  with_consists w s e =
      let id : IdFits (last_in h.directory h.used) = rw last_is at (last_id h.area None ss tt c.holds.stand) in
      let q = open_stores size h.directory h.used s id e in
      let nothing : s.length ≡ 0 = rw (open_says size h.directory h.used s e).segment (new_length (last_in h.directory h.used)) in
      record {
        holds = record {
          sound = q.keeps;
          records = rw (q.records, c.holds.records, map-append place_of ss (new s ∷ []));
          stand = all_append (Stands h.area) ss (new s ∷ []) c.holds.stand (empty_stands s nothing q.id, tt);
        };
        entries = rw (left_snoc ss (new s), append-nil) c.entries;
        torn = rw (torn_snoc ss (new s), append-nil) c.torn;
        active = record { before = ss; last = new s; parts = refl; whole = nothing };
      }

  opened_consists : (w : SegmentManager) → Opened l m w → (ts : List Segment) × Consists m ts
  opened_consists w o =
      (ss ++ (new o.segment ∷ []), subst (λ (x : Life). Consists x (ss ++ (new o.segment ∷ []))) o.is (with_consists w o.segment o.found))

  pub opening_consists : (bound : ℕ) → opening bound l ≡ some m → (ts : List Segment) × Consists m ts
  opening_consists bound e = opened_consists (fresh bound) (opening_opened l m bound e)

  pub rotating_consists : rotating l ≡ some m → (ts : List Segment) × Consists m ts
  unfolding rotating rotate_of
  rotating_consists e = told l.writer e
    where
      told : (w : Option SegmentManager) → by_writer w (λ w. after_opening (open_by (new_segment_of size h.directory h.used) w h.directory h.used) l) ≡ some m → (ts : List Segment) × Consists m ts
      told none e = let z : ◌≡◌ {A = ℕ} 0 1 = cc in absurd (omega arith)
      told (some w) e = opened_consists w (opened l m w e)

-- What an accepted append does, and the log with its entry behind those of a whole segment.
-- Assumes nothing.
use Prim.Native.Nat.{ℕ, ◌+◌, ◌*◌}
use mathlib.Core.Path.{◌≡◌, refl, sym, ap, subst, ◌∙◌}
use mathlib.Core.Bool.{Bool, true, false≢true}
use mathlib.Core.List.{List, [], ◌∷◌, ◌++◌, map, map-append, append-nil, append_assoc}
use mathlib.Core.Option.{Option, none, some}
use native.Mathlib.Omega.{arith}
use lib.ListN.{length}
use lib.Seq.{sets, length-sets, take-length}
use Rattle.refusal.specs.Answer.{Answer, refused, accepted}
use Rattle.records.specs.Dense.{All}
use Rattle.records.proofs.Dense.{all_append}
use Rattle.header.specs.Header.{entry_bytes}
use Rattle.payload.specs.Content.{Content}
use Rattle.payload.specs.Encode.{is_well_formed, payload_for}
use Rattle.directory.specs.Image.{segment_bytes}
use Rattle.directory.specs.Record.{record_bytes, records_of, end_of}
use Rattle.plan.specs.declared.Write.{Write}
use Rattle.plan.proofs.Plans.{IsBehind, Stored}
use Rattle.segment.specs.declared.Appended.{Appended}
use Rattle.segment.specs.Writing.{Log, written_by, append_entry_of, append_of}
use Rattle.segment.specs.declared.SegmentManager.{SegmentManager}
use Rattle.segment.proofs.Logs.{Accepts, entry_is_raw, entry_accepted, append_accepted, image_behind}
use Rattle.crash.specs.Request.{Request, Typed, asked_by, encoded, Written}
use Rattle.crash.specs.Life.{Held, Life, by_writer, last_written, with_last, after_append, appending}
use Rattle.crash.proofs.Images.{Accepted, image_of, written_from, image_snoc, length_snoc, written_snoc}
use Rattle.crash.proofs.Lefts.{kept_before_lem, torn_before}
use Rattle.crash.proofs.Segments.{Segment, place_of, left_in, torn_in, left_of, torn_of, Stands, IsWhole, Consists, left_snoc, torn_snoc}

-- ---- what an accepted append says

-- the entry call is the raw call on the entry's encoding
as_raw : (m : SegmentManager) (area d : List ℕ) (used lsn tx time : ℕ) (content : Option Content) → is_well_formed content ≡ true → append_of m area d used lsn tx time content ≡ append_entry_of m area d used lsn (payload_for tx time content)
as_raw m area d used lsn tx time none e = absurd (false≢true e)
as_raw m area d used lsn tx time (some content) e = entry_is_raw m area d used lsn tx time content e

-- what is held after a plan was carried out
abbrev pub held_by : Held → Request → Write → Held
held_by h r w =
    record {
      used = w.k + 1;
      directory = sets h.directory (24 * w.k) (record_bytes w.segment);
      area = sets h.area w.at (entry_bytes (encoded r));
    }

pub record Did (l m : Life) (r : Request) : Type 0 where
  pub manager : SegmentManager
  pub write : Write
  pub well_formed : is_well_formed (asked_by r) ≡ true
  pub did : Accepts manager l.held.area l.held.directory l.held.used r.lsn (encoded r) write
  pub after : SegmentManager
  pub is : with_last r after (held_by l.held r write) l ≡ m
  pub writer : l.writer ≡ some manager

-- the entry call's log is the raw call's, of the payload
raw_log : (w : SegmentManager) (area d : List ℕ) (used : ℕ) (r : Request) → is_well_formed (asked_by r) ≡ true → append_of w area d used r.lsn r.tx r.time (asked_by r) ≡ append_entry_of w area d used r.lsn (encoded r)
unfolding encoded
raw_log w area d used r well = as_raw w area d used r.lsn r.tx r.time (asked_by r) well

module _ (l m : Life) (r : Request) (w : SegmentManager) (is_open : l.writer ≡ some w) where
  abbrev log : Log
  log =
      append_of w l.held.area l.held.directory l.held.used r.lsn r.tx r.time (asked_by r)

  did_append : after_append r log l ≡ some m → Did l m r
  did_append e = told log refl log.answer refl e
    where
      told : (g : Log) → log ≡ g → (a : Answer Appended) → g.answer ≡ a → after_append r g l ≡ some m → Did l m r
      told g p (refused number) q e = let f = rw q at e in let z : ◌≡◌ {A = ℕ} 0 1 = cc in absurd (omega arith)
      told g p (accepted x) q e =
          let h = l.held in
          let answer : log.answer ≡ accepted x = rw p q in
          let well = append_accepted w h.area h.directory h.used r.lsn r.tx r.time (asked_by r) x answer in
          let raw : log ≡ append_entry_of w h.area h.directory h.used r.lsn (encoded r) =
          raw_log w h.area h.directory h.used r well in
          let a = entry_accepted w h.area h.directory h.used r.lsn (encoded r) x (rw raw at answer) in
          let written : g ≡ written_by a.0 w h.area h.directory r.lsn (encoded r) = sym p ∙ raw ∙ a.1.log in
          let f = ap (λ (g : Log). after_append r g l) (sym written) ∙ e in
          record { manager = w; write = a.0; well_formed = well; did = a.1; after = (written_by a.0 w h.area h.directory r.lsn (encoded r)).manager; is = cc; writer = is_open }

pub appended : (l m : Life) (r : Request) → appending r l ≡ some m → Did l m r
unfolding appending
appended l m r e = told l.writer refl e
  where
    told : (w : Option SegmentManager) → l.writer ≡ w → by_writer w (λ w. after_append r (append_of w l.held.area l.held.directory l.held.used r.lsn r.tx r.time (asked_by r)) l) ≡ some m → Did l m r
    told none q e = let z : ◌≡◌ {A = ℕ} 0 1 = cc in absurd (omega arith)
    told (some w) q e = did_append l m r w q e

-- ---- the log with one more entry

-- segments whose bytes are the same stand in another area too
pub stand_kept : (area other : List ℕ) (ss : List Segment) → map (segment_bytes other) (map place_of ss) ≡ map (segment_bytes area) (map place_of ss) → All (Stands area) ss → All (Stands other) ss
stand_kept area other [] e st = tt
stand_kept area other (s ∷ ss) e st =
    let here : segment_bytes other s.place ≡ segment_bytes area s.place = cc in
    let rest : map (segment_bytes other) (map place_of ss) ≡ map (segment_bytes area) (map place_of ss) = cc in (
      record { accepted = st.0.accepted; long = st.0.long; bytes = here ∙ st.0.bytes; id = st.0.id },
      stand_kept area other ss rest st.1,
    )

-- the segment that the entry goes behind, and those before it
pub record Behind (l : Life) (w : Write) (payload : ℕ) (before : List Segment) (base : Segment) : Type 0 where
  pub rotated : Bool
  pub plan : IsBehind base.place (length before) rotated (length l.held.area) payload w
  pub records : records_of (length before) l.held.directory ≡ map place_of before
  pub whole : IsWhole base
  pub accepted : All Accepted base.asked
  pub bytes : segment_bytes l.held.area base.place ≡ image_of base.asked
  pub entries : l.entries ≡ left_of before ++ left_in base
  pub torn : l.torn ≡ torn_of before

-- a whole segment has all of its entries, and ends inside none
pub whole_left : (s : Segment) → IsWhole s → left_in s ≡ written_from s.place.start s.asked
whole_left s e = kept_before_lem (end_of s.place) s.place.start s.asked (omega arith)

pub whole_torn : (s : Segment) → IsWhole s → torn_in s ≡ []
whole_torn s e = torn_before (end_of s.place) s.place.start s.asked (omega arith)

module _ (l m : Life) (r : Request) (typed : Typed r) (d : Did l m r) (before : List Segment) (base : Segment) (b : Behind l d.write (length (encoded r)) before base) (stored : Stored (length l.held.area) l.held.directory d.write.k d.write.segment) (kept : All (Stands (held_by l.held r d.write).area) before) where
  abbrev w : Write
  w = d.write

  abbrev h : Held
  h = l.held

  abbrev pub grown : Segment
  grown = record { place = w.segment; asked = base.asked ++ (r ∷ []) }

  grown_whole : IsWhole grown
  grown_whole = rw (b.plan.write, length_snoc base.asked r, b.whole)

  grown_stands : Stands (held_by h r w).area grown
  grown_stands =
      record {
        accepted = all_append Accepted base.asked (r ∷ []) b.accepted (record { typed = typed; well_formed = d.well_formed }, tt);
        long = omega (arith, grown_whole);
        bytes =
            image_behind h.area (encoded r) base.place (length before) b.rotated w b.plan
            ∙ rw (b.bytes, grown_whole, take-length, image_snoc base.asked r);
        id = stored.id;
      }

  place_is : w.k ≡ length before
  place_is = ap (λ (x : Write). x.k) b.plan.write

  records_are : records_of w.k h.directory ≡ map place_of before
  records_are = ap (λ n. records_of n h.directory) place_is ∙ b.records

  -- the entry ends where the segment does
  last_is : (last_written r (held_by h r w)).end ≡ base.place.start + (length (image_of base.asked) + (13 + length (encoded r)))
  last_is =
      ap end_of (stored.last ∙ ap (λ (x : Write). x.segment) b.plan.write) ∙ rw b.whole

  grown_left : left_in grown ≡ left_in base ++ (last_written r (held_by h r w) ∷ [])
  grown_left =
      let start : w.segment.start ≡ base.place.start = ap (λ (x : Write). x.segment.start) b.plan.write in
      whole_left grown grown_whole
      ∙ ap (λ at. written_from at (base.asked ++ (r ∷ []))) start
      ∙ written_snoc base.place.start base.asked r
      ∙ rw (last_is, whole_left base b.whole)

  pub grown_consists : Consists m (before ++ (grown ∷ []))
  grown_consists =
      subst (λ (x : Life). Consists x (before ++ (grown ∷ []))) d.is
      (record {
        holds = record {
          sound = rw length-sets stored.keeps;
          records = rw (stored.records, records_are, map-append place_of before (grown ∷ []));
          stand = all_append (Stands (held_by h r w).area) before (grown ∷ []) kept (grown_stands, tt);
        };
        entries =
            ap (λ (ws : List Written). ws ++ (last_written r (held_by h r w) ∷ [])) b.entries
            ∙ rw (append_assoc, left_snoc before grown, grown_left);
        torn = rw (torn_snoc before grown, whole_torn grown grown_whole, append-nil) b.torn;
        active = record { before = before; last = grown; parts = refl; whole = grown_whole };
      })

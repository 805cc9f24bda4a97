-- What a plan says of the record and the place that it gives, and that the directory keeps its rule.
-- Assumes nothing.
use mathlib.Core.Path.{◌≡◌, refl, ap, sym, ◌∙◌}
use mathlib.Core.Bool.{Bool, true, false, cond, and-eq-true_iff}
use mathlib.Core.List.{List, [], ◌∷◌, ◌++◌}
use mathlib.Core.Logic.{◌⊎◌, inl, inr, ⊎_elim}
use Prim.Native.Nat.{ℕ, zero, suc, ◌+◌, ◌-◌, ◌*◌, ◌/◌, ◌^◌, ◌<◌, ◌≤◌}
use native.Mathlib.Omega.{arith}
use borrow.Author.Tests.{lt-ltb}
use lib.Dec.{leb, eqb}
use lib.ListN.{length, get_or}
use lib.Seq.{sets, get_or_at}
use Rattle.std.specs.declared.option.Option.{Option}
use Rattle.std.specs.declared.option.Option.TheVariants.{None, Some}
use Rattle.fields.proofs.Cases.{case_b, tests}
use Rattle.refusal.specs.Answer.{refused, accepted, and_then, sound}
use Rattle.refusal.proofs.Answers.{never_both, then_says}
use Rattle.directory.specs.Lent.{most_of}
use Rattle.directory.specs.declared.lent.Lent.TheVariants.{Directory}
use Rattle.directory.specs.Record.{record_bytes, records_of, end_of}
use Rattle.directory.specs.Rule.{test_of, end_before, after_record, rule_from}
use Rattle.directory.specs.declared.record.SegmentRecord.{SegmentRecord}
use Rattle.directory.specs.declared.rule.Last.{Last}
use Rattle.directory.proofs.Records.{Held, length_records, record_of, records_snoc, records_more}
use Rattle.directory.proofs.Rules.{Follows, follows_says, follows_so, last_of, last_record, rule_snoc}
use Rattle.directory.proofs.Sound.{sound_says, sound_ends, sound_last, sound_stored}
use Rattle.plan.specs.Plan.{last_used, last_in, new_segment, no_next_id, next_of, new_segment_of, append_test_of, write_behind, behind_of, plan_of, plan_append_of}
use Rattle.plan.specs.declared.Write.{Write}

-- ---- a new segment

-- neither 4 nor 5 refuses it
pub record HasNext (last : Option Last) (used records : ℕ) : Type 0 where
  pub id : no_next_id last ≡ false
  pub unused : used < records

next_says : (last : Option Last) (used records : ℕ) (s : SegmentRecord) → next_of last used records ≡ accepted s → HasNext last used records × (s ≡ new_segment last)
unfolding next_of
next_says last used records s e =
    case_b (no_next_id last) (λ f. never_both (rw f at e))
    (λ f. case_b (leb records used) (λ g. never_both (rw (f, g) at e)) (λ g. (record { id = f; unused = omega (arith, tests) }, cc (rw (f, g) at e))))

-- it has no bytes yet
pub new_end : (r s : SegmentRecord) (used records : ℕ) → next_of (after_record r) used records ≡ accepted s → end_of s ≡ end_of r
unfolding new_segment
new_end r s used records e = rw (next_says _ _ _ _ e).1 (omega arith)

-- ---- an entry behind a segment

-- there is room for it, and the plan is its place
pub record IsBehind (s : SegmentRecord) (k : ℕ) (rotated : Bool) (area payload : ℕ) (w : Write) : Type 0 where
  pub room : end_of s + (13 + payload) ≤ area
  pub write : w ≡ write_behind s k rotated payload

behind_says : (s : SegmentRecord) (k : ℕ) (rotated : Bool) (area payload : ℕ) (w : Write) → behind_of s k rotated area payload ≡ accepted w → IsBehind s k rotated area payload w
unfolding behind_of
behind_says s k rotated area payload w e =
    case_b (leb (13 + payload) (area - end_of s)) (λ f. record { room = omega (arith, tests); write = cc (rw f at e) }) (λ f. never_both (rw f at e))

-- ---- the last used record: the active segment's

module _ (d : List ℕ) (used : ℕ) (h : 0 < used) where
  pub last_is : last_of None (records_of used d) ≡ after_record (last_used d used)
  last_is =
      let e : used ≡ used - 1 + 1 = omega arith in
      ap (λ (n : ℕ). last_of None (records_of n d)) e ∙ last_record None (used - 1) d

  pub last_in_lem : (area : ℕ) → test_of area d used ≡ sound → end_of (last_used d used) ≤ area
  last_in_lem area e = sound_ends area d used e (used - 1) (omega arith)

-- the last id has 8 bytes
abbrev pub IdFits : Option Last → Type 0
IdFits None = Unit {0}
IdFits (Some last) = last.id < 2 ^ 64

-- ---- a record stored behind the first k: the directory keeps its rule, and has these and then it

pub record Stored (area : ℕ) (d : List ℕ) (k : ℕ) (r : SegmentRecord) : Type 0 where
  pub keeps : test_of area (sets d (24 * k) (record_bytes r)) (k + 1) ≡ sound
  pub records : records_of (k + 1) (sets d (24 * k) (record_bytes r)) ≡ records_of k d ++ (r ∷ [])
  pub last : last_used (sets d (24 * k) (record_bytes r)) (k + 1) ≡ r
  pub id : r.id < 2 ^ 64

stores : (area : ℕ) (d : List ℕ) (used k : ℕ) (r : SegmentRecord) → test_of area d used ≡ sound → 24 * (k + 1) ≤ length d → r.id < 2 ^ 64 → rule_from area None (records_of k d) ≡ true → Follows area (last_of None (records_of k d)) r → Stored area d k r
stores area d used k r s unused id rule follows =
    let directory = sets d (24 * k) (record_bytes r) in
    let t = sound_says area d used s in
    let held : Held r = record { id = id; start = omega (arith, t.area, follows.end); length = omega (arith, t.area, follows.end) } in
    let more : records_of (k + 1) directory ≡ records_of k d ++ (r ∷ []) = records_more k d r unused held in
    let one : k + 1 - 1 ≡ k = omega arith in
    record {
      keeps = sound_stored area d k used r t unused held rule (follows_so area (last_of None (records_of k d)) r follows);
      records = more;
      last =
          rw one
          (sym (record_of (k + 1) directory k r (omega arith))
          ∙ ap (λ (rs : List SegmentRecord). get_or rs k r) more
          ∙ get_or_at (records_of k d) r [] r k (length_records k d));
      id = id;
    }

-- ---- opening and rotating

pub record Opens (area : ℕ) (d : List ℕ) (used : ℕ) (s : SegmentRecord) : Type 0 where
  pub sounds : test_of area d used ≡ sound
  pub next : HasNext (last_in d used) used (length d / 24)
  pub segment : s ≡ new_segment (last_in d used)

pub open_says : (area : ℕ) (d : List ℕ) (used : ℕ) (s : SegmentRecord) → new_segment_of area d used ≡ accepted s → Opens area d used s
unfolding new_segment_of
open_says area d used s e =
    let t = then_says (test_of area d used) (λ _. next_of (last_in d used) used (length d / 24)) s e in
    let n = next_says _ _ _ _ t.second in
    record { sounds = t.first; next = n.0; segment = n.1 }

-- what a new segment comes after: nothing, or the last used record
last_none : (d : List ℕ) → last_in d zero ≡ None
unfolding last_in
last_none d = refl

last_some : (d : List ℕ) (n : ℕ) → last_in d (suc n) ≡ after_record (last_used d (suc n))
unfolding last_in
last_some d n = grind arith

-- the same, by the list of the used records
pub last_in_is : (d : List ℕ) (used : ℕ) → last_of None (records_of used d) ≡ last_in d used
unfolding last_of records_of
last_in_is d zero = rw (last_none d)
last_in_is d (suc n) = rw (last_some d n) (last_is d (suc n) (omega arith))

-- a new segment follows the last one
new_follows : (area : ℕ) (last : Option Last) → end_before last ≤ area → IdFits last → no_next_id last ≡ false → Follows area last (new_segment last) × ((new_segment last).id < 2 ^ 64)
unfolding new_segment
new_follows area None h i e = (record { id = refl; start = omega arith; end = omega arith }, omega arith)
new_follows area (Some last) h i e =
    (record { id = lt-ltb last.id (last.id + 1) (omega arith); start = omega arith; end = omega arith }, omega (arith, tests))

pub open_stores : (area : ℕ) (d : List ℕ) (used : ℕ) (s : SegmentRecord) → IdFits (last_in d used) → new_segment_of area d used ≡ accepted s → Stored area d used s
open_stores area d used s i e =
    let o = open_says area d used s e in
    let u = o.next.unused in
    let last = last_in d used in
    let f = new_follows area last (rw (last_in_is d used) at (sound_last area d used o.sounds)) i o.next.id in
    rw o.segment
    (stores area d used used (new_segment last) o.sounds (omega arith) f.1 (sound_says area d used o.sounds).rule (rw (last_in_is d used) f.0))

-- ---- an append

-- a new segment, and the entry behind it
pub record Rotates (area : ℕ) (d : List ℕ) (used payload : ℕ) (w : Write) : Type 0 where
  pub next : HasNext (after_record (last_used d used)) used (length d / 24)
  pub behind : IsBehind (new_segment (after_record (last_used d used))) used true area payload w

-- the entry goes behind the active segment, or behind a new one
pub plan_says : (bound area : ℕ) (d : List ℕ) (used payload : ℕ) (w : Write) → plan_of bound area d used payload ≡ accepted w → IsBehind (last_used d used) (used - 1) false area payload w ⊎ Rotates area d used payload w
unfolding plan_of
plan_says bound area d used payload w e =
    case_b (leb bound (last_used d used).length) (λ q. inr (fresh (rw q at e))) (λ q. inl (behind_says _ _ _ _ _ _ (rw q at e)))
  where
    fresh : and_then (next_of (after_record (last_used d used)) used (length d / 24)) (λ s. behind_of s used true area payload) ≡ accepted w → Rotates area d used payload w
    fresh e =
        let t = then_says (next_of (after_record (last_used d used)) used (length d / 24)) (λ s. behind_of s used true area payload) w e in
        let n = next_says _ _ _ _ t.first in
        record { next = n.0; behind = rw n.1 at (behind_says _ _ _ _ _ _ t.second) }

-- header and payload have their place in the area, and record k is one of the directory's
plan_fits : (bound : ℕ) (area : ℕ) (d : List ℕ) (used payload : ℕ) (w : Write) → test_of area d used ≡ sound → 0 < used → plan_of bound area d used payload ≡ accepted w → (w.at + (13 + payload) ≤ area) × (w.k ≤ most_of Directory)
plan_fits bound area d used payload w e h p =
    let s = sound_says area d used e in
    ⊎_elim (λ b. rw b.write (b.room, omega arith)) (λ r. rw r.behind.write (r.behind.room, omega arith)) (plan_says bound area d used payload w p)

-- ids rise by one: the segment that an append leaves active is the one that was, or the next one, at its end
pub record Stays (last : SegmentRecord) (used : ℕ) (w : Write) : Type 0 where
  pub rotated : w.rotated ≡ false
  pub id : w.segment.id ≡ last.id
  pub start : w.segment.start ≡ last.start
  pub k : w.k + 1 ≡ used

pub record Moves (last : SegmentRecord) (used : ℕ) (w : Write) : Type 0 where
  pub rotated : w.rotated ≡ true
  pub id : w.segment.id ≡ last.id + 1
  pub start : w.segment.start ≡ end_of last
  pub k : w.k ≡ used

pub plan_id : (bound area : ℕ) (d : List ℕ) (used payload : ℕ) (w : Write) → 0 < used → plan_of bound area d used payload ≡ accepted w → Stays (last_used d used) used w ⊎ Moves (last_used d used) used w
unfolding new_segment
plan_id bound area d used payload w h p =
    ⊎_elim (λ b. inl (rw b.write (record { rotated = refl; id = refl; start = refl; k = omega arith })))
    (λ r. inr (rw r.behind.write (record { rotated = refl; id = refl; start = refl; k = refl })))
    (plan_says bound area d used payload w p)

-- the last used record behind those before it
last_parts : (area : ℕ) (d : List ℕ) (used : ℕ) → 0 < used → test_of area d used ≡ sound → (rule_from area None (records_of (used - 1) d) ≡ true) × Follows area (last_of None (records_of (used - 1) d)) (last_used d used)
last_parts area d used h e =
    let n : used ≡ used - 1 + 1 = omega arith in
    let rule : rule_from area None (records_of (used - 1 + 1) d) ≡ true = rw (← n) (sound_says area d used e).rule in
    let p = (and-eq-true_iff _ _).0 (sym (rule_snoc area None (records_of (used - 1) d) (last_used d used)) ∙ ap (rule_from area None) (sym (records_snoc (used - 1) d)) ∙ rule) in
    (p.0, follows_says area _ (last_used d used) p.1)

-- rotated or not
pub plan_stores : (bound area : ℕ) (d : List ℕ) (used payload : ℕ) (w : Write) → (last_used d used).id < 2 ^ 64 → test_of area d used ≡ sound → 0 < used → plan_of bound area d used payload ≡ accepted w → Stored area d w.k w.segment
unfolding new_segment
plan_stores bound area d used payload w i e h p =
    ⊎_elim (λ b. rw b.write (grown b.room)) (λ r. rw r.behind.write (rotated r.next r.behind.room))
    (plan_says bound area d used payload w p)
  where
    grown : end_of (last_used d used) + (13 + payload) ≤ area → Stored area d (used - 1) (write_behind (last_used d used) (used - 1) false payload).segment
    grown m =
        let t = sound_says area d used e in
        let q = last_parts area d used h e in
        let u : 24 * (used - 1 + 1) ≤ length d = omega (arith, t.used) in
        stores area d used (used - 1) (write_behind (last_used d used) (used - 1) false payload).segment e u i q.0
        (record { id = q.1.id; start = q.1.start; end = omega arith })

    rotated : HasNext (after_record (last_used d used)) used (length d / 24) → end_of (new_segment (after_record (last_used d used))) + (13 + payload) ≤ area → Stored area d used (write_behind (new_segment (after_record (last_used d used))) used true payload).segment
    rotated n m =
        let q = last_used d used in
        let u = n.unused in
        let f = new_follows area (after_record q) (omega arith) i n.id in
        stores area d used used (write_behind (new_segment (after_record q)) used true payload).segment e (omega arith) f.1 (sound_says area d used e).rule
        (rw (last_is d used h) (record { id = f.0.id; start = omega arith; end = omega arith }))

-- ---- with its test

pub test_says : (area : ℕ) (d : List ℕ) (used : ℕ) → append_test_of area d used ≡ sound → (test_of area d used ≡ sound) × (0 < used)
unfolding append_test_of
test_says area d used e =
    let t = then_says (test_of area d used) (λ _. cond (eqb used 0) (refused 2) sound) tt e in
    case_b (eqb used 0) (λ q. never_both (rw q at t.second)) (λ q. (t.first, omega (arith, tests)))

-- the test was passed, and the plan is that of the tested
pub append_says : (bound area : ℕ) (d : List ℕ) (used payload : ℕ) (w : Write) → plan_append_of bound area d used payload ≡ accepted w → (append_test_of area d used ≡ sound) × (plan_of bound area d used payload ≡ accepted w)
unfolding plan_append_of
append_says bound area d used payload w e =
    let t = then_says (append_test_of area d used) (λ _. plan_of bound area d used payload) w e in
    (t.first, t.second)

pub append_fits : (bound area : ℕ) (d : List ℕ) (used payload : ℕ) (w : Write) → plan_append_of bound area d used payload ≡ accepted w → (w.at + (13 + payload) ≤ area) × (w.k ≤ most_of Directory)
append_fits bound area d used payload w e =
    let s = append_says bound area d used payload w e in
    let t = test_says area d used s.0 in
    plan_fits bound area d used payload w t.0 t.1 s.1

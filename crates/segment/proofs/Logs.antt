-- What an append leaves: the entry's bytes behind its segment's and every other segment as it was, or nothing changed at all.
-- Assumes nothing.
use Rattle.std.proofs.Common.{◌≡◌, ℕ, ◌+◌, ◌-◌, ◌<◌, ◌≤◌, Bool, true, false, List, [], ◌∷◌, ◌++◌, map, length, take, drop, sym, refl, ap, ◌∙◌, ⊎_elim, arith, length-append, length-drop, length-take-le, take_at, le-leb}
use mathlib.Core.Bool.{false≢true}
use mathlib.Core.Option.{Option, none, some}
use lib.Seq.{sets, sets-eq, length-sets, take-append_seam}
use Rattle.std.specs.declared.option.Option.TheVariants.{None}
use Rattle.std.specs.declared.option.Option as Options
use Rattle.std.specs.declared.result.Result.{Result}
use Rattle.std.specs.declared.result.Result.TheVariants.{Ok, Err}
use Rattle.fields.proofs.Cases.{case_b}
use Rattle.fields.proofs.Stores.{sets_join, sets_front, take-sets, drop-sets}
use Rattle.refusal.specs.Answer.{Answer, refused, accepted, by_answer, and_then, sound}
use Rattle.refusal.proofs.Answers.{never_both, then_says, by_cases}
use Rattle.header.specs.Header.{header_of, header_bytes, entry_bytes}
use Rattle.header.proofs.Laws.{header_length}
use Rattle.payload.specs.Content.{Content, payload_of, well_formed}
use Rattle.payload.specs.Encode.{Encoding, is_well_formed, encoding, put_of, encode_of}
use Rattle.payload.specs.declared.EncodeError.{EncodeError}
use Rattle.payload.specs.declared.EncodeError.TheVariants.{NotWellFormed, NoRoom}
use Rattle.payload.proofs.Laws.{payload_most}
use Rattle.directory.specs.Record.{records_of, end_of}
use Rattle.directory.specs.Rule.{test_of, end_before, rule_from, after_record}
use Rattle.directory.specs.declared.record.SegmentRecord.{SegmentRecord}
use Rattle.directory.specs.declared.rule.Last.{Last}
use Rattle.directory.proofs.Rules.{follows_says, rule_parts, last_of}
use Rattle.directory.proofs.Sound.{sound_says}
use Rattle.plan.specs.Plan.{last_used, new_segment, append_test_of, plan_of, plan_append_of}
use Rattle.directory.specs.Image.{segment_bytes}
use Rattle.segment.specs.Writing.{Log, refused_with, written_by, append_entry_of, encoded_of, append_of}
use Rattle.segment.specs.declared.SegmentManager.{SegmentManager}
use Rattle.segment.specs.declared.Appended.{Appended}
use Rattle.plan.specs.declared.Write.{Write}
use Rattle.plan.proofs.Plans.{IsBehind, last_is, plan_says, test_says, append_says}

-- ---- the bytes of an entry

pub entry_length : (payload : List ℕ) → length (entry_bytes payload) ≡ 13 + length payload
unfolding entry_bytes
entry_length payload = rw (length-append, header_length)

-- header and payload, stored one behind the other
pub entry_stored : (area payload : List ℕ) (at : ℕ) → sets (sets area at (header_bytes (header_of payload))) (at + 13) payload ≡ sets area at (entry_bytes payload)
unfolding entry_bytes
entry_stored area payload at =
    sets_join area (header_bytes (header_of payload)) payload at (at + 13) (rw header_length)

-- ---- the encoding of an entry

abbrev pub PayloadIs : Option Content → (tx time : ℕ) → List ℕ → Type 0
PayloadIs none tx time bytes = ⊥
PayloadIs (some content) tx time bytes = (well_formed content ≡ true) × (bytes ≡ payload_of tx time content)

-- what an answer of `encode` says where the target has room for every well-formed entry
abbrev pub EncodedAs : Result ℕ EncodeError → Option Content → (tx time : ℕ) → List ℕ → Type 0
EncodedAs (Ok n) content tx time target = (n ≤ length target) × PayloadIs content tx time (take n target)
EncodedAs (Err NotWellFormed) content tx time target = is_well_formed content ≡ false
EncodedAs (Err NoRoom) content tx time target = ⊥

put_says : (content : Content) (tx time : ℕ) (before : List ℕ) → 612 ≤ length before → well_formed content ≡ true → EncodedAs (put_of (payload_of tx time content) before).answer (some content) tx time (put_of (payload_of tx time content) before).target
unfolding put_of
put_says content tx time before h e =
    let p = payload_of tx time content in
    let l : length p ≤ length before = omega (arith, payload_most tx time content e) in
    rw (le-leb (length p) (length before) l, length-sets, sets_front before p l, take-append_seam) (l, (e, refl))

pub encode_says : (content : Option Content) (tx time : ℕ) (before after : List ℕ) (r : Result ℕ EncodeError) → 612 ≤ length before → encoding r after ≡ encode_of content tx time before → EncodedAs r content tx time after
unfolding encode_of
encode_says content tx time before after r h e =
    let a : r ≡ (encode_of content tx time before).answer = ap (λ (x : Encoding). x.answer) e in
    let t : after ≡ (encode_of content tx time before).target = ap (λ (x : Encoding). x.target) e in
    rw (a, t) (says content)
  where
    says : (content : Option Content) → EncodedAs (encode_of content tx time before).answer content tx time (encode_of content tx time before).target
    says none = refl
    says (some content) = case_b (well_formed content) (λ q. rw q (put_says content tx time before h q)) (λ q. rw q q)

-- an error is that of an entry that is not well-formed
pub encode_refuses : (content : Option Content) (tx time : ℕ) (before after : List ℕ) (r : Result ℕ EncodeError) (why : EncodeError) → 612 ≤ length before → encoding r after ≡ encode_of content tx time before → r ≡ Err why → is_well_formed content ≡ false
encode_refuses content tx time before after r why h e k = told why (rw k at (encode_says content tx time before after r h e))
  where
    told : (why : EncodeError) → EncodedAs (Err why) content tx time after → is_well_formed content ≡ false
    told NotWellFormed s = s
    told NoRoom s = absurd s

module _ (m : SegmentManager) (area d : List ℕ) (used lsn tx time : ℕ) where
  -- the entry call is the raw call on the entry's encoding
  pub entry_is_raw : (content : Content) → well_formed content ≡ true → append_of m area d used lsn tx time (some content) ≡ append_entry_of m area d used lsn (payload_of tx time content)
  unfolding append_of append_entry_of plan_append_of
  entry_is_raw content e = rw e (by_cases (append_test_of (length area) d used) (λ n q. rw q) (λ x q. rw q))

  pub entry_written : (content : Option Content) (bytes : List ℕ) → PayloadIs content tx time bytes → append_entry_of m area d used lsn bytes ≡ append_of m area d used lsn tx time content
  entry_written none bytes p = absurd p
  entry_written (some content) bytes p = rw p.1 (sym (entry_is_raw content p.0))

  refused_3 : (content : Option Content) → is_well_formed content ≡ false → encoded_of tx time content ≡ refused 3
  refused_3 content e = rw e

  -- else it is refused, by the lowest number
  pub entry_not_written : (content : Option Content) → is_well_formed content ≡ false → refused_with (by_answer (append_test_of (length area) d used) (λ number. number) (λ _. 3)) m area d ≡ append_of m area d used lsn tx time content
  unfolding append_of
  entry_not_written content e =
      rw (refused_3 content e) (by_cases (append_test_of (length area) d used) (λ n q. rw q) (λ x q. rw q))

-- ---- the images

-- a store at or after a segment's end leaves its bytes
pub image_kept : (area bytes : List ℕ) (at : ℕ) (r : SegmentRecord) → end_of r ≤ at → segment_bytes (sets area at bytes) r ≡ segment_bytes area r
unfolding segment_bytes
image_kept area bytes at r h =
    let e : at ≡ r.start + (at - r.start) = omega arith in
    rw (e, drop-sets r.start area bytes (at - r.start)) (take-sets r.length (drop r.start area) bytes (at - r.start) (omega arith))

-- the last end is the highest
last_over : (n : ℕ) (last : Options.Option Last) (rs : List SegmentRecord) → rule_from n last rs ≡ true → end_before last ≤ end_before (last_of last rs)
unfolding rule_from last_of
last_over n last [] e = omega arith
last_over n last (r ∷ rs) e =
    let p = rule_parts n last r rs e in
    let f = follows_says n last r p.0 in
    omega (arith, last_over n (after_record r) rs p.1)

-- so a store at or after it leaves the bytes of every segment
images_kept : (n : ℕ) (last : Options.Option Last) (rs : List SegmentRecord) (area bytes : List ℕ) (at : ℕ) → rule_from n last rs ≡ true → end_before (last_of last rs) ≤ at → map (segment_bytes (sets area at bytes)) rs ≡ map (segment_bytes area) rs
unfolding rule_from last_of
images_kept n last [] area bytes at e h = refl
images_kept n last (r ∷ rs) area bytes at e h =
    let p = rule_parts n last r rs e in
    let l : end_of r ≤ at = omega (arith, last_over n (after_record r) rs p.1) in
    rw (image_kept area bytes at r l, images_kept n (after_record r) rs area bytes at p.1 h)

-- one at its end makes it longer
image_grown : (area bytes : List ℕ) (start n : ℕ) → start + n + length bytes ≤ length area → take (n + length bytes) (drop start (sets area (start + n) bytes)) ≡ take n (drop start area) ++ bytes
image_grown area bytes start n h =
    let l = drop start area in
    let f : n + length bytes ≤ length l = rw length-drop (omega arith) in
    let g : length (take n l) ≡ n = length-take-le n l (omega arith) in
    rw (drop-sets start area bytes n, sets-eq bytes l n f)
    (take_at (take n l ++ bytes) (drop (n + length bytes) l) (n + length bytes) (rw (length-append, g)))

-- the segment that the entry goes to has its bytes and then the entry's
pub image_behind : (area payload : List ℕ) (s : SegmentRecord) (k : ℕ) (rotated : Bool) (w : Write) → IsBehind s k rotated (length area) (length payload) w → segment_bytes (sets area w.at (entry_bytes payload)) w.segment ≡ segment_bytes area s ++ entry_bytes payload
unfolding segment_bytes
image_behind area payload s k rotated w b =
    let e = entry_length payload in
    rw (b.write, ← e) (image_grown area (entry_bytes payload) s.start s.length (rw e (omega arith)))

module _ (bound : ℕ) (area d : List ℕ) (used : ℕ) (payload : List ℕ) (w : Write) (p : plan_of bound (length area) d used (length payload) ≡ accepted w) where
  pub image_active : w.rotated ≡ false → segment_bytes (sets area w.at (entry_bytes payload)) w.segment ≡ segment_bytes area (last_used d used) ++ entry_bytes payload
  image_active e =
      ⊎_elim (λ b. image_behind area payload _ _ _ w b) (λ r. let f : w.rotated ≡ true = rw r.behind.write in absurd (false≢true (sym e ∙ f)))
      (plan_says bound (length area) d used (length payload) w p)

  -- a new segment holds nothing before
  pub image_new : w.rotated ≡ true → segment_bytes (sets area w.at (entry_bytes payload)) w.segment ≡ entry_bytes payload
  unfolding segment_bytes new_segment
  image_new e =
      ⊎_elim (λ b. let f : w.rotated ≡ false = rw b.write in absurd (false≢true (sym f ∙ e))) (λ r. image_behind area payload _ _ _ w r.behind)
      (plan_says bound (length area) d used (length payload) w p)

  -- every segment that was there has the bytes that it had
  pub images_old : test_of (length area) d used ≡ sound → 0 < used → map (segment_bytes (sets area w.at (entry_bytes payload))) (records_of used d) ≡ map (segment_bytes area) (records_of used d)
  unfolding new_segment
  images_old e h =
      let at : w.at ≡ end_of (last_used d used) =
      ⊎_elim (λ b. rw b.write) (λ r. rw r.behind.write (omega arith)) (plan_says bound (length area) d used (length payload) w p) in
      images_kept (length area) None (records_of used d) area (entry_bytes payload) w.at (sound_says (length area) d used e).rule
      (rw (last_is d used h) (omega arith))

-- ---- accepted and refused

-- an accepted append did what a plan says
pub record Accepts (m : SegmentManager) (area d : List ℕ) (used lsn : ℕ) (payload : List ℕ) (w : Write) : Type 0 where
  pub sounds : test_of (length area) d used ≡ sound
  pub some : 0 < used
  pub plan : plan_of m.max_segment_size (length area) d used (length payload) ≡ accepted w
  pub log : append_entry_of m area d used lsn payload ≡ written_by w m area d lsn payload

module _ (m : SegmentManager) (area d : List ℕ) (used lsn : ℕ) where
  pub entry_accepted : (payload : List ℕ) (x : Appended) → (append_entry_of m area d used lsn payload).answer ≡ accepted x → (w : Write) × Accepts m area d used lsn payload w
  unfolding append_entry_of
  entry_accepted payload x e =
      by_cases (plan_append_of m.max_segment_size (length area) d used (length payload)) (λ n q. never_both (rw q at e)) (λ w q. did w q)
    where
      did : (w : Write) → plan_append_of m.max_segment_size (length area) d used (length payload) ≡ accepted w → (w : Write) × Accepts m area d used lsn payload w
      did w q =
          let p = append_says _ _ _ _ _ _ q in
          let s = test_says (length area) d used p.0 in
          (w, record { sounds = s.0; some = s.1; plan = p.1; log = rw q })

  -- "Every refusal leaves the directory, area, writer state .. unchanged."
  abbrev unchanged : Answer Appended → Log
  unchanged answer = record { answer = answer; manager = m; directory = d; area = area }

  pub entry_refused : (payload : List ℕ) (number : ℕ) → (append_entry_of m area d used lsn payload).answer ≡ refused number → append_entry_of m area d used lsn payload ≡ refused_with number m area d
  unfolding append_entry_of
  entry_refused payload number e =
      by_cases (plan_append_of m.max_segment_size (length area) d used (length payload)) (λ n q. rw q (ap unchanged (rw q at e))) (λ w q. never_both (sym (rw q at e)))

  pub append_refused : (tx time : ℕ) (content : Option Content) (number : ℕ) → (append_of m area d used lsn tx time content).answer ≡ refused number → append_of m area d used lsn tx time content ≡ refused_with number m area d
  unfolding append_of
  append_refused tx time content number e =
      by_cases (and_then (append_test_of (length area) d used) (λ _. encoded_of tx time content)) (λ n q. rw q (ap unchanged (rw q at e))) (λ payload q. rw q (entry_refused payload number (rw q at e)))

  -- the entry call is the raw call on the entry's encoding wherever it isn't refused with 3
  pub entry_not_3 : (tx time : ℕ) (content : Content) → ((append_of m area d used lsn tx time (some content)).answer ≡ refused 3 → ⊥) → append_of m area d used lsn tx time (some content) ≡ append_entry_of m area d used lsn (payload_of tx time content)
  unfolding append_of append_entry_of plan_append_of
  entry_not_3 tx time content n =
      case_b (well_formed content) (λ q. entry_is_raw m area d used lsn tx time content q)
      (λ q. by_cases (append_test_of (length area) d used) (λ k t. rw t) (λ x t. absurd (n (rw (t, q)))))

  -- what the entry call accepts is well-formed
  pub append_accepted : (tx time : ℕ) (content : Option Content) (x : Appended) → (append_of m area d used lsn tx time content).answer ≡ accepted x → is_well_formed content ≡ true
  unfolding append_of
  append_accepted tx time content x e =
      by_cases (and_then (append_test_of (length area) d used) (λ _. encoded_of tx time content)) (λ n q. never_both (rw q at e))
      (λ payload q. well content payload (then_says (append_test_of (length area) d used) (λ _. encoded_of tx time content) payload q).second)
    where
      well : (content : Option Content) (payload : List ℕ) → encoded_of tx time content ≡ accepted payload → is_well_formed content ≡ true
      well content payload e = case_b (is_well_formed content) (λ q. q) (λ q. never_both (rw q at e))

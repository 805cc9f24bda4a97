-- The laws of truncation: the last record stays, and a sound directory stays sound.
-- Assumes nothing.
use mathlib.Core.Path.{◌≡◌, refl, ap}
use mathlib.Core.Bool.{Bool, true}
use mathlib.Core.List.{List, [], ◌∷◌, ◌++◌, append_assoc}
use Prim.Native.Nat.{ℕ, zero, suc, ◌-◌, ◌*◌, ◌<◌, ◌≤◌}
use native.Mathlib.Omega.{arith}
use lib.ListN.{length, drop, replicate, length-append, length-replicate}
use lib.Seq.{drop_at, length-sets}
use Rattle.std.specs.declared.option.Option.{Option}
use Rattle.std.specs.declared.option.Option.TheVariants.{None}
use Rattle.fields.specs.Le.{Bytes}
use Rattle.fields.proofs.Cases.{case_b}
use Rattle.fields.proofs.Numbers.{bytes_drop}
use Rattle.fields.proofs.Stores.{sets_front}
use Rattle.refusal.specs.Answer.{Answer, refused, accepted, sound}
use Rattle.refusal.proofs.Answers.{never_both, by_cases}
use Rattle.records.specs.Dense.{bytes_of, All}
use Rattle.records.proofs.Dense as Dense
use Rattle.scan.specs.Highest.{highest_of}
use Rattle.directory.specs.Image.{segment_bytes}
use Rattle.directory.specs.Record.{records_of, record_bytes}
use Rattle.directory.specs.Rule.{after_record, rule_from, test_of}
use Rattle.directory.specs.declared.record.SegmentRecord.{SegmentRecord}
use Rattle.directory.specs.declared.rule.Last.{Last}
use Rattle.truncation.specs.declared.Truncated.{Truncated}
use Rattle.directory.proofs.Records.{Held, record_held, record_back, length_record, length_records}
use Rattle.directory.proofs.Rules.{last_of, rule_without, rule_keep}
use Rattle.directory.proofs.Sound.{sound_says, sound_so}
use Rattle.truncation.specs.Truncate.{is_below, kept_of, closed_up, truncate_of}

-- ---- the kept records

module _ (area : List ℕ) (checkpoint : ℕ) where
  abbrev below : SegmentRecord → Bool
  below r = is_below checkpoint (highest_of (segment_bytes area r))

  pub kept_most : (rs : List SegmentRecord) → length (kept_of area checkpoint rs) ≤ length rs
  unfolding kept_of
  kept_most [] = omega arith
  kept_most (r ∷ []) = omega arith
  kept_most (r ∷ q ∷ rs) =
      case_b (below r) (λ b. rw b (omega (arith, kept_most (q ∷ rs)))) (λ b. rw b (omega (arith, kept_most (q ∷ rs))))

  pub kept_least : (r : SegmentRecord) (rs : List SegmentRecord) → 0 < length (kept_of area checkpoint (r ∷ rs))
  unfolding kept_of
  kept_least r [] = omega arith
  kept_least r (q ∷ rs) = case_b (below r) (λ b. rw b (kept_least q rs)) (λ b. rw b (omega arith))

  -- the last one: what a new segment or an entry comes behind is what it was
  pub kept_last : (last : Option Last) (rs : List SegmentRecord) → last_of last (kept_of area checkpoint rs) ≡ last_of last rs
  unfolding kept_of last_of
  kept_last last [] = refl
  kept_last last (r ∷ []) = refl
  kept_last last (r ∷ q ∷ rs) =
      case_b (below r) (λ b. rw b (kept_last last (q ∷ rs))) (λ b. rw b (kept_last (after_record r) (q ∷ rs)))

  kept_rule : (a : ℕ) (last : Option Last) (rs : List SegmentRecord) → rule_from a last rs ≡ true → rule_from a last (kept_of area checkpoint rs) ≡ true
  unfolding kept_of
  kept_rule a last [] e = e
  kept_rule a last (r ∷ []) e = e
  kept_rule a last (r ∷ q ∷ rs) e =
      case_b (below r) (λ b. rw b (kept_rule a last (q ∷ rs) (rule_without a last r (q ∷ rs) e)))
      (λ b. rw b (rule_keep a last r (q ∷ rs) (kept_of area checkpoint (q ∷ rs)) (kept_rule a (after_record r) (q ∷ rs)) e))

-- ---- the closed-up directory

records_held : (n : ℕ) (s : List ℕ) → Bytes s → All Held (records_of n s)
unfolding records_of
records_held zero s b = tt
records_held (suc n) s b = (record_held s b, records_held n (drop 24 s) (bytes_drop 24 s b))

kept_held : (area : List ℕ) (checkpoint : ℕ) (rs : List SegmentRecord) → All Held rs → All Held (kept_of area checkpoint rs)
unfolding kept_of
kept_held area checkpoint [] h = tt
kept_held area checkpoint (r ∷ []) h = h
kept_held area checkpoint (r ∷ q ∷ rs) h =
    case_b (below area checkpoint r) (λ b. rw b (kept_held area checkpoint (q ∷ rs) h.1))
    (λ b. rw b (h.0, kept_held area checkpoint (q ∷ rs) h.1))

-- records that were written are read back, whatever stands after them
records_back : (rs : List SegmentRecord) (rest : List ℕ) → All Held rs → records_of (length rs) (bytes_of record_bytes rs ++ rest) ≡ rs
unfolding records_of bytes_of
records_back [] rest h = refl
records_back (r ∷ rs) rest h =
    let s = bytes_of record_bytes rs ++ rest in
    rw (append_assoc (record_bytes r) (bytes_of record_bytes rs) rest, record_back r s h.0, drop_at (record_bytes r) s 24 (length_record r), records_back rs rest h.1)

closed_length : (d : List ℕ) (used : ℕ) (rs : List SegmentRecord) → length (closed_up d used rs) ≡ length d
unfolding closed_up
closed_length d used rs = simp length-sets

closed_reads : (d : List ℕ) (used : ℕ) (rs : List SegmentRecord) → length rs ≤ used → 24 * used ≤ length d → All Held rs → records_of (length rs) (closed_up d used rs) ≡ rs
unfolding closed_up
closed_reads d used rs m l h =
    let b = bytes_of record_bytes rs in
    let z = replicate {A = ℕ} (24 * (used - length rs)) 0 in
    let n : length (b ++ z) ≤ length d = simp (length-append, length-replicate) (omega (arith, Dense.length_records record_bytes 24 length_record rs)) in
    rw (sets_front d (b ++ z) n, append_assoc b z (drop (length (b ++ z)) d)) (records_back rs _ h)

module _ (area d : List ℕ) (used checkpoint : ℕ) (bytes : Bytes d) (s : test_of (length area) d used ≡ sound) where
  most : length (kept_of area checkpoint (records_of used d)) ≤ used
  most = omega (arith, kept_most area checkpoint (records_of used d), length_records used d)

  -- they are what is read after the call
  pub kept_reads : (let ks = kept_of area checkpoint (records_of used d) in records_of (length ks) (closed_up d used ks) ≡ ks)
  kept_reads =
      closed_reads d used (kept_of area checkpoint (records_of used d)) most (sound_says (length area) d used s).used
      (kept_held area checkpoint (records_of used d) (records_held used d bytes))

  closed_sound : (let ks = kept_of area checkpoint (records_of used d) in test_of (length area) (closed_up d used ks) (length ks) ≡ sound)
  closed_sound =
      let ks = kept_of area checkpoint (records_of used d) in
      let t = sound_says (length area) d used s in
      let n : length (closed_up d used ks) ≡ length d = closed_length d used ks in
      sound_so (length area) (closed_up d used ks) (length ks)
      (record {
        area = t.area;
        directory = omega arith;
        whole = rw n t.whole;
        used = omega (arith, most);
        rule = rw kept_reads (kept_rule area checkpoint (length area) None (records_of used d) t.rule);
      })

-- after a truncation that isn't refused, the directory passes the test with the used count that was answered
pub truncate_sound : (area d : List ℕ) (used checkpoint : ℕ) (f : Truncated) → Bytes d → (truncate_of area d used checkpoint).answer ≡ accepted f → test_of (length area) (truncate_of area d used checkpoint).directory f.used ≡ sound
unfolding truncate_of
truncate_sound area d used checkpoint f bytes e =
    by_cases (test_of (length area) d used) (λ n q. never_both (rw q at e))
    (λ x q.
    let n : length (kept_of area checkpoint (records_of used d)) ≡ f.used = ap (λ (a : Answer Truncated). used_of a) (rw q at e) in
    rw (q, ← n) (closed_sound area d used checkpoint bytes q))
  where
    used_of : Answer Truncated → ℕ
    used_of (refused number) = 0
    used_of (accepted f) = f.used

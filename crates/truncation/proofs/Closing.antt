-- The loop that closes the kept records up: where it begins, a turn for each outcome of the test, and its end.
-- Assumes nothing.
use mathlib.Core.Path.{◌≡◌, refl, ap, ◌∙◌}
use mathlib.Core.Bool.{Bool, true, false, cond}
use mathlib.Core.List.{List, ◌∷◌, ◌++◌, append_assoc}
use Prim.Native.Nat.{ℕ, zero, suc, ◌+◌, ◌-◌, ◌*◌, ◌<◌, ◌≤◌}
use native.Mathlib.Omega.{arith}
use borrow.Author.Tests.{eq-eqb, ne_eqb}
use lib.Dec.{eqb}
use lib.ListN.{length, drop, replicate}
use lib.Seq.{sets, length-sets, drop-drop}
use Rattle.fields.proofs.Stores.{sets_join, behind_sets}
use Rattle.records.specs.Dense.{bytes_of}
use Rattle.scan.specs.Highest.{highest_of}
use Rattle.directory.specs.Image.{segment_bytes}
use Rattle.directory.specs.Record.{record_at, records_of, record_bytes}
use Rattle.directory.specs.declared.record.SegmentRecord.{SegmentRecord}
use Rattle.directory.proofs.Records.{length_record, records_turn}
use Rattle.truncation.specs.Truncate.{is_below, kept_of, closed_up}

-- the records stored from a place on, and zeros behind them, n records in all
abbrev stored : List ℕ → (place n : ℕ) → List SegmentRecord → List ℕ
stored d place n ks = sets d (24 * place) (bytes_of record_bytes ks ++ replicate (24 * (n - length ks)) 0)

-- one of them first
stored_one : (d : List ℕ) (place n : ℕ) (r : SegmentRecord) (ks : List SegmentRecord) → stored (sets d (24 * place) (record_bytes r)) (place + 1) (n - (place + 1)) ks ≡ stored d place (n - place) (r ∷ ks)
unfolding bytes_of
stored_one d place n r ks =
    let e : n - place - suc (length ks) ≡ n - (place + 1) - length ks = omega arith in
    rw (e, append_assoc) (sets_join d (record_bytes r) _ (24 * place) (24 * (place + 1)) (rw length_record (omega arith)))

-- ---- the loop: `kept` records stand at the front, those from k on are as they were

module _ (area d₀ : List ℕ) (used checkpoint : ℕ) where
  abbrev kept_from : ℕ → List SegmentRecord
  kept_from k = kept_of area checkpoint (records_of (used - k) (drop (24 * k) d₀))

  -- whether record k is dropped
  abbrev goes : ℕ → SegmentRecord → Bool
  goes k r = cond (eqb (k + 1) used) false (is_below checkpoint (highest_of (segment_bytes area r)))

  pub record Closing (d : List ℕ) (kept k : ℕ) : Type 0 where
    pub place : kept ≤ k
    pub on : k ≤ used
    pub size : length d ≡ length d₀
    pub unread : drop (24 * k) d ≡ drop (24 * k) d₀
    pub number : kept + length (kept_from k) ≡ length (kept_of area checkpoint (records_of used d₀))
    pub bytes : stored d kept (used - kept) (kept_from k) ≡ closed_up d₀ used (kept_of area checkpoint (records_of used d₀))

  pub closing_start : Closing d₀ 0 0
  unfolding closed_up
  closing_start =
      let e : used - 0 ≡ used = omega arith in
      record { place = omega arith; on = omega arith; size = refl; unread = refl; number = rw e (omega arith); bytes = rw e }

  kept_turn : (k : ℕ) (r : SegmentRecord) → k < used → r ≡ record_at (drop (24 * k) d₀) → kept_from k ≡ cond (goes k r) (kept_from (k + 1)) (r ∷ kept_from (k + 1))
  unfolding kept_of records_of
  kept_turn k r h e = rw (records_turn used k d₀ h, ← e) (told (used - (k + 1)) refl)
    where
      behind : List ℕ
      behind = drop (24 * (k + 1)) d₀

      told : (n : ℕ) → used - (k + 1) ≡ n → kept_of area checkpoint (r ∷ records_of n behind) ≡ cond (goes k r) (kept_of area checkpoint (records_of n behind)) (r ∷ kept_of area checkpoint (records_of n behind))
      told zero q = let l : k + 1 ≡ used = omega arith in rw (eq-eqb _ _ l)
      told (suc n) q = let l : k + 1 ≡ used → ⊥ = λ f. omega arith in rw (ne_eqb _ _ l)

  module _ (d : List ℕ) (kept k : ℕ) (r : SegmentRecord) (c : Closing d kept k) (h : k < used) (e : r ≡ record_at (drop (24 * k) d)) where
    next : kept_from k ≡ cond (goes k r) (kept_from (k + 1)) (r ∷ kept_from (k + 1))
    next = kept_turn k r h (e ∙ ap record_at c.unread)

    unread_next : drop (24 * (k + 1)) d ≡ drop (24 * (k + 1)) d₀
    unread_next =
        let n : 24 * (k + 1) ≡ 24 * k + 24 = omega arith in
        rw (n, ← drop-drop 24 (24 * k) d, ← drop-drop 24 (24 * k) d₀, c.unread)

    pub closing_dropped : goes k r ≡ true → Closing d kept (k + 1)
    closing_dropped q =
        let f : kept_from k ≡ kept_from (k + 1) = rw q at next in
        record {
          place = omega arith;
          on = omega arith;
          size = c.size;
          unread = unread_next;
          number = rw (← f) c.number;
          bytes = rw (← f) c.bytes;
        }

    pub closing_kept : goes k r ≡ false → Closing (sets d (24 * kept) (record_bytes r)) (kept + 1) (k + 1)
    closing_kept q =
        let f : kept_from k ≡ r ∷ kept_from (k + 1) = rw q at next in
        record {
          place = omega arith;
          on = omega arith;
          size = length-sets d (24 * kept) (record_bytes r) ∙ c.size;
          unread = behind_sets (24 * (k + 1)) d (record_bytes r) (24 * kept) (rw length_record (omega arith)) ∙ unread_next;
          number = omega (arith, rw f at c.number);
          bytes = stored_one d kept used r (kept_from (k + 1)) ∙ rw f at c.bytes;
        }

  pub record Closed (d : List ℕ) (kept : ℕ) : Type 0 where
    pub number : kept ≡ length (kept_of area checkpoint (records_of used d₀))
    pub bytes : sets d (24 * kept) (replicate (24 * (used - kept)) 0) ≡ closed_up d₀ used (kept_of area checkpoint (records_of used d₀))

  pub closing_end : (d : List ℕ) (kept k : ℕ) → Closing d kept k → used ≤ k → Closed d kept
  unfolding kept_of records_of bytes_of
  closing_end d kept k c h =
      let e : used - k ≡ 0 = omega arith in
      let f : used - kept - 0 ≡ used - kept = omega arith in
      record { number = omega (arith, rw e at c.number); bytes = rw (e, f) at c.bytes }

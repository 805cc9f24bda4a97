-- The laws of admitting: lengths are kept, and the lists hold what is admitted to them, or tell which of them is full.
-- Assumes nothing.
use Rattle.std.proofs.Common.{◌≡◌, ℕ, ◌+◌, ◌/◌, ◌^◌, ◌<◌, ◌≤◌, max, Bool, true, false, cond, leb, List, [], ◌∷◌, ◌++◌, length, sym, refl, ap, ◌∙◌, append-nil, arith, length-append, le-leb}
use borrow.Author.Tests.{lt-leb}
use lib.Seq.{length-sets, append_snoc}
use Rattle.fields.proofs.Cases.{case_b, tests}
use Rattle.records.specs.Dense.{dense, records_of, All}
use Rattle.records.specs.Halving.{found_in}
use Rattle.std.specs.declared.result.Result.{Result}
use Rattle.std.specs.declared.result.Result.TheVariants.{Ok, Err}
use Rattle.records.proofs.Dense.{all_append, dense_none, dense_length, dense_added, records_back}
use Rattle.lists.specs.Entries.{entry_record_at, entry_record_bytes, highest_in, EntryFits}
use Rattle.lists.specs.Transactions.{transaction_at, transaction_bytes, note, note_all, transactions_of}
use Rattle.lists.specs.Admit.{Ledger, order_in, begin_of, note_by, note_of, note_if, Book, with_entry, admit_of, admit_all, emptied, filled, full_of}
use Rattle.lists.specs.declared.admit.Full.{Full}
use Rattle.lists.specs.declared.admit.Full.TheVariants.{Room, Transactions, Entries}
use Rattle.lists.specs.declared.entries.EntryRecord.{EntryRecord}
use Rattle.lists.specs.declared.transactions.TransactionRecord.{TransactionRecord}
use Rattle.lists.proofs.EntryRecords.{length-entry, entry_back}
use Rattle.lists.proofs.TransactionRecords.{TransactionFits, length-transaction, transaction_back}
use Rattle.lists.proofs.Noting.{roomy, full, note_to, note_dense}
use Rattle.lists.proofs.Numbers.{note_length, transactions_ascend, transactions_fit}

-- ---- the lists keep their lengths

length_as : (f : Result ℕ ℕ) (s : List ℕ) (n : ℕ) (e : EntryRecord) → length (note_by f s n e).transactions ≡ length s
unfolding begin_of
length_as (Ok k) s n e = simp length-sets
length_as (Err k) s n e = case_b (leb (length s / 24) n) (λ p. rw p) (λ p. rw p (simp length-sets))

length_if : (f : Full) (s : List ℕ) (n : ℕ) (e : EntryRecord) → length (note_if f s n e).transactions ≡ length s
unfolding note_of
length_if Room s n e = length_as (found_in (order_in s e.tx_id) n) s n e
length_if Transactions s n e = refl
length_if Entries s n e = refl

pub record SameLengths (b c : Book) : Type 0 where
  pub entries : length b.entries ≡ length c.entries
  pub transactions : length b.transactions ≡ length c.transactions

pub admit_lengths : (b : Book) (e : EntryRecord) → SameLengths (admit_of b e) b
unfolding admit_of
admit_lengths b e =
    case_b (leb (length b.entries / 32) b.lists.entries)
    (λ p. rw p (record { entries = refl; transactions = refl }))
    (λ p.
    rw p
    (record { entries = simp length-sets; transactions = length_if b.lists.full b.transactions b.lists.transactions e }))

pub admit_all_lengths : (b : Book) (es : List EntryRecord) → SameLengths (admit_all b es) b
unfolding admit_all
admit_all_lengths b [] = record { entries = refl; transactions = refl }
admit_all_lengths b (e ∷ es) =
    let a = admit_lengths b e in
    let r = admit_all_lengths (admit_of b e) es in
    record { entries = r.entries ∙ a.entries; transactions = r.transactions ∙ a.transactions }

-- ---- one more entry behind those that were

abbrev snoc : List EntryRecord → EntryRecord → List EntryRecord
snoc done e = done ++ (e ∷ [])

length_snoc : (done : List EntryRecord) (e : EntryRecord) → length (snoc done e) ≡ length done + 1
length_snoc done e = simp length-append

note_snoc : (ts : List TransactionRecord) (done : List EntryRecord) (e : EntryRecord) → note_all ts (snoc done e) ≡ note e (note_all ts done)
unfolding note_all
note_snoc ts [] e = refl
note_snoc ts (d ∷ done) e = note_snoc (note d ts) done e

transactions_snoc : (done : List EntryRecord) (e : EntryRecord) → transactions_of (snoc done e) ≡ note e (transactions_of done)
unfolding transactions_of
transactions_snoc done e = note_snoc [] done e

highest_snoc : (done : List EntryRecord) (e : EntryRecord) → highest_in (snoc done e) ≡ max (highest_in done) e.tx_id
unfolding highest_in
highest_snoc [] e = omega arith
highest_snoc (d ∷ done) e = rw (highest_snoc done e) (omega arith)

-- ---- what the lists are after some entries: by which of them is full

module _ (E T : ℕ) where
  -- the transactions are full, and entries are still counted
  record Counting (done : List EntryRecord) (b : Book) : Type 0 where
    full : b.lists.full ≡ Transactions
    count : b.lists.entries ≡ length done
    room : length b.entries ≡ E

  -- the entries are full
  record Overfull (b : Book) : Type 0 where
    full : b.lists.full ≡ Entries
    count : E / 32 ≤ b.lists.entries
    room : length b.entries ≡ E

  abbrev HoldsAs : Full → List EntryRecord → Book → Type 0
  HoldsAs Room done b = b ≡ filled E T done
  HoldsAs Transactions done b = Counting done b
  HoldsAs Entries done b = Overfull b

  abbrev Holds : List EntryRecord → Book → Type 0
  Holds done b = HoldsAs (full_of (E / 32) (T / 24) done) done b

  -- which list is full, by the two tests
  holds_entries : (done : List EntryRecord) (b : Book) → E / 32 < length done → Overfull b → Holds done b
  unfolding full_of
  holds_entries done b h o = rw (lt-leb (length done) (E / 32) h) o

  holds_counting : (done : List EntryRecord) (b : Book) → length done ≤ E / 32 → T / 24 < length (transactions_of done) → Counting done b → Holds done b
  unfolding full_of
  holds_counting done b h k o = rw (le-leb (length done) (E / 32) h, lt-leb (length (transactions_of done)) (T / 24) k) o

  holds_room : (done : List EntryRecord) (b : Book) → length done ≤ E / 32 → length (transactions_of done) ≤ T / 24 → b ≡ filled E T done → Holds done b
  unfolding full_of
  holds_room done b h k o = rw (le-leb (length done) (E / 32) h, le-leb (length (transactions_of done)) (T / 24) k) o

  -- an entry more, where the entries are full already, or get so
  overfull_step : (b : Book) (e : EntryRecord) → length b.entries ≡ E → E / 32 ≤ b.lists.entries → Overfull (admit_of b e)
  unfolding admit_of
  overfull_step b e r h = rw (r, le-leb (E / 32) b.lists.entries h) (record { full = refl; count = h; room = r })

  counting_step : (done : List EntryRecord) (b : Book) (e : EntryRecord) → length done < E / 32 → Counting done b → Counting (snoc done e) (admit_of b e)
  unfolding admit_of
  counting_step done b e h c =
      let n = c.count in
      rw (c.room, lt-leb (E / 32) b.lists.entries (omega arith), c.full)
      (record { full = refl; count = omega (arith, length_snoc done e); room = simp length-sets c.room })

  -- ---- from lists that hold all so far

  filled_room : (done : List EntryRecord) → length done ≤ E / 32 → length (filled E T done).entries ≡ E
  unfolding filled
  filled_room done h = dense_length entry_record_bytes 32 length-entry E done (omega arith)

  filled_count : (done : List EntryRecord) → (filled E T done).lists.entries ≡ length done
  unfolding filled
  filled_count done = refl

  filled_full : (done : List EntryRecord) → (filled E T done).lists.full ≡ Room
  unfolding filled
  filled_full done = refl

  -- where there is room for the entry, it is listed and noted
  listed_step : (done : List EntryRecord) (e : EntryRecord) → length done < E / 32 → length (transactions_of done) ≤ T / 24 → All TransactionFits (transactions_of done) → admit_of (filled E T done) e ≡ with_entry (filled E T done) e (note_to T (transactions_of done) (note e (transactions_of done)))
  unfolding admit_of filled
  listed_step done e h k fs =
      rw (filled_room done (omega arith), lt-leb (E / 32) (length done) h, note_dense T (transactions_of done) e (transactions_ascend done) fs k)

  filled_step : (done : List EntryRecord) (e : EntryRecord) → length done < E / 32 → with_entry (filled E T done) e (roomy T (note e (transactions_of done))) ≡ filled E T (snoc done e)
  unfolding filled
  filled_step done e h =
      rw (transactions_snoc done e, length_snoc done e, highest_snoc done e, dense_added entry_record_bytes 32 length-entry E done e (omega arith))

  counting_first : (done : List EntryRecord) (e : EntryRecord) (n : Ledger) → length done < E / 32 → n.full ≡ Transactions → Counting (snoc done e) (with_entry (filled E T done) e n)
  unfolding filled
  counting_first done e n h f =
      record { full = f; count = sym (length_snoc done e); room = simp length-sets (filled_room done (omega arith)) }

  room_step : (done : List EntryRecord) (e : EntryRecord) → length done < E / 32 → length (transactions_of done) ≤ T / 24 → All TransactionFits (transactions_of done) → Holds (snoc done e) (admit_of (filled E T done) e)
  room_step done e h k fs =
      let ts = transactions_of done in
      let l : length (snoc done e) ≤ E / 32 = rw (length_snoc done e) (omega arith) in
      rw (listed_step done e h k fs)
      (case_b (leb (length (note e ts)) (T / 24))
      (λ p. rw p (holds_room (snoc done e) _ l (rw (transactions_snoc done e) (omega (arith, tests))) (filled_step done e h)))
      (λ p. rw p (holds_counting (snoc done e) _ l (rw (transactions_snoc done e) (omega (arith, tests))) (counting_first done e (full T ts) h refl))))

  -- ---- one entry, and all

  step : (done : List EntryRecord) (b : Book) (e : EntryRecord) → All TransactionFits (transactions_of done) → Holds done b → Holds (snoc done e) (admit_of b e)
  unfolding full_of
  step done b e fs o = told (leb (length done) (E / 32)) refl (leb (length (transactions_of done)) (T / 24)) refl o
    where
      ended : E / 32 ≤ length done → Overfull (admit_of b e) → Holds (snoc done e) (admit_of b e)
      ended h = holds_entries (snoc done e) (admit_of b e) (rw (length_snoc done e) (omega arith))

      told : (p : Bool) → leb (length done) (E / 32) ≡ p → (q : Bool) → leb (length (transactions_of done)) (T / 24) ≡ q → HoldsAs (cond p (cond q Room Transactions) Entries) done b → Holds (snoc done e) (admit_of b e)
      told false p q r o = ended (omega (arith, tests)) (overfull_step b e o.room o.count)
      told true p false r o =
          let n = o.count in
          case_b (leb (E / 32) (length done))
          (λ s. ended (omega (arith, tests)) (overfull_step b e o.room (omega (arith, tests))))
          (λ s.
          holds_counting (snoc done e) (admit_of b e) (rw (length_snoc done e) (omega (arith, tests)))
          (rw (transactions_snoc done e) (omega (arith, tests, note_length e (transactions_of done))))
          (counting_step done b e (omega (arith, tests)) o))
      told true p true r o =
          case_b (leb (E / 32) (length done))
          (λ s.
          let n : b.lists.entries ≡ length done = ap (λ (b : Book). b.lists.entries) o ∙ filled_count done in
          let m : length b.entries ≡ E = ap (λ (b : Book). length b.entries) o ∙ filled_room done (omega (arith, tests)) in
          ended (omega (arith, tests)) (overfull_step b e m (omega (arith, tests))))
          (λ s. rw o (room_step done e (omega (arith, tests)) (omega (arith, tests)) fs))

  steps : (done : List EntryRecord) (b : Book) (es : List EntryRecord) → All EntryFits done → All EntryFits es → length done + length es < 2 ^ 64 → Holds done b → Holds (done ++ es) (admit_all b es)
  unfolding admit_all
  steps done b [] fs gs h o = rw append-nil o
  steps done b (e ∷ es) fs gs h o =
      rw (← append_snoc done e es)
      (steps (snoc done e) (admit_of b e) es (all_append EntryFits done (e ∷ []) fs (gs.0, tt)) gs.1 (rw (length_snoc done e) (omega arith))
      (step done b e (transactions_fit done fs (omega arith)) o))

-- ---- all the entries of a log

-- which list is full; and where none is, the lists hold the entries and their transactions
pub record Admitted (E T : ℕ) (es : List EntryRecord) (b : Book) : Type 0 where
  pub full : b.lists.full ≡ full_of (E / 32) (T / 24) es
  pub book : full_of (E / 32) (T / 24) es ≡ Room → b ≡ filled E T es

empty_holds : (E T : ℕ) → Holds E T [] (emptied E T)
unfolding emptied filled transactions_of note_all highest_in
empty_holds E T = holds_room E T [] (emptied E T) (omega arith) (omega arith) (rw (dense_none entry_record_bytes E, dense_none transaction_bytes T))

holds_admitted : (E T : ℕ) (es : List EntryRecord) (b : Book) → Holds E T es b → Admitted E T es b
holds_admitted E T es b o = told (full_of (E / 32) (T / 24) es) refl o
  where
    told : (f : Full) → full_of (E / 32) (T / 24) es ≡ f → HoldsAs E T f es b → Admitted E T es b
    told Room q o = record { full = rw (q, o) (filled_full E T es); book = λ _. o }
    told Transactions q o = record { full = rw q o.full; book = λ r. let z : ◌≡◌ {A = ℕ} 0 1 = cc in absurd (omega arith) }
    told Entries q o = record { full = rw q o.full; book = λ r. let z : ◌≡◌ {A = ℕ} 0 1 = cc in absurd (omega arith) }

pub admit_all_lem : (E T : ℕ) (es : List EntryRecord) → All EntryFits es → length es < 2 ^ 64 → Admitted E T es (admit_all (emptied E T) es)
admit_all_lem E T es fs h = holds_admitted E T es (admit_all (emptied E T) es) (steps E T [] (emptied E T) es tt fs (omega arith) (empty_holds E T))

-- ---- what the lists hold is read back

pub entries_back : (E : ℕ) (es : List EntryRecord) → All EntryFits es → records_of 32 entry_record_at (length es) (dense entry_record_bytes E es) ≡ es
entries_back E es fs = records_back entry_record_bytes 32 length-entry entry_record_at EntryFits entry_back E es fs

pub transactions_back : (T : ℕ) (es : List EntryRecord) → All EntryFits es → length es < 2 ^ 64 → records_of 24 transaction_at (length (transactions_of es)) (dense transaction_bytes T (transactions_of es)) ≡ transactions_of es
transactions_back T es fs h =
    records_back transaction_bytes 24 length-transaction transaction_at TransactionFits transaction_back T (transactions_of es) (transactions_fit es fs h)

-- Reading step by step into the lists comes to the log's reading.
-- Assumes nothing.
use mathlib.Core.Path.{◌≡◌, refl, sym, ap, ◌∙◌}
use mathlib.Core.Bool.{Bool, true, false}
use mathlib.Core.List.{List, [], ◌∷◌, ◌++◌}
use Prim.Native.Nat.{ℕ, zero, suc, ◌+◌, ◌-◌, ◌*◌, ◌<◌, ◌≤◌}
use native.Mathlib.Nat.{add-zero, add_assoc}
use native.Mathlib.Omega.{arith}
use lib.ListN.{length, drop}
use Rattle.directory.specs.Image.{segment_bytes}
use Rattle.directory.specs.Record.{record_at, records_of}
use Rattle.directory.proofs.Records.{records_turn}
use Rattle.directory.specs.declared.record.SegmentRecord.{SegmentRecord}
use Rattle.entry.specs.Decode.{end_of}
use Rattle.entry.specs.declared.Place.{Place}
use Rattle.entry.specs.declared.WalEntry.{WalEntry}
use Rattle.scan.specs.Step.{step_at}
use Rattle.scan.specs.Read.{Reading, nothing, on_read, read_from, read_segment}
use Rattle.scan.specs.declared.Step.{Step}
use Rattle.scan.specs.declared.Step.TheVariants.{Entry, End, Torn, WrongChecksum, Undecodable}
use Rattle.scan.proofs.Steps.{step_end, step_entry}
use Rattle.scan.proofs.Walks.{read_entry, read_undecodable, read_wrong, read_partial, read_end}
use Rattle.lists.specs.Entries.{listed}
use Rattle.lists.specs.Admit.{Book, book, admit_of, admit_all}
use Rattle.lists.proofs.Books.{SameLengths, admit_lengths, admit_all_lengths}
use Rattle.lists.specs.declared.admit.Lists.{Lists}
use Rattle.lists.specs.declared.entries.EntryRecord.{EntryRecord}
use Rattle.recovery.specs.Log.{LogRead, listed_from, and_then, read_log}
use Rattle.recovery.specs.Reach.{Reached, reached, ended_by, reach_segment, reach_log}
use Rattle.recovery.specs.declared.read.Progress.{Progress}

-- ---- one segment

abbrev pub with_lists : Progress → Lists → Progress
with_lists p lists = record { lists = lists; partial_writes = p.partial_writes; checksum_failures = p.checksum_failures }

-- an entry admitted
abbrev pub admitted : Reached → EntryRecord → Reached
admitted at e = record { book = admit_of at.book e; partial = at.partial; checksum = at.checksum }

pub reach_entry : (at : Reached) (base : ℕ) (s : List ℕ) (i : ℕ) (e : WalEntry) (p : Place) → step_at s i ≡ Entry e p → reach_segment at base (read_from s i) ≡ reach_segment (admitted at (listed base e p)) base (read_from s (end_of p))
unfolding reach_segment admit_all
reach_entry at base s i e p h = rw (read_entry s i e p h)

abbrev pub is_entry : Step → Bool
is_entry (Entry e p) = true
is_entry End = false
is_entry Torn = false
is_entry WrongChecksum = false
is_entry (Undecodable p) = false

-- what is no entry ends the segment
read_ended : (s : List ℕ) (i : ℕ) (step : Step) → step_at s i ≡ step → is_entry step ≡ false → read_from s i ≡ on_read step nothing
read_ended s i (Entry e p) q f = let z : ◌≡◌ {A = ℕ} 0 1 = cc in absurd (omega arith)
read_ended s i End q f = read_end s i q
read_ended s i Torn q f = read_partial s i q
read_ended s i WrongChecksum q f = read_wrong s i q
read_ended s i (Undecodable p) q f = read_undecodable s i p q

none_good : (step : Step) → is_entry step ≡ false → (on_read step nothing).good ≡ []
none_good (Entry e p) f = let z : ◌≡◌ {A = ℕ} 0 1 = cc in absurd (omega arith)
none_good End f = refl
none_good Torn f = refl
none_good WrongChecksum f = refl
none_good (Undecodable p) f = refl

pub reach_ended : (es ts : List ℕ) (progress : Progress) (lists : Lists) (base : ℕ) (s : List ℕ) (i : ℕ) (step : Step) → step_at s i ≡ step → is_entry step ≡ false → reach_segment (reached es ts (with_lists progress lists)) base (read_from s i) ≡ reached es ts (ended_by progress lists step)
unfolding reach_segment admit_all
reach_ended es ts progress lists base s i step q f = rw (read_ended s i step q f, none_good step f)

-- what is left of a segment, read into the lists as they stand, comes to the whole read into the lists at the start
pub record Going (start : Reached) (at : Reached) (base : ℕ) (s : List ℕ) (i : ℕ) : Type 0 where
  pub same : reach_segment at base (read_from s i) ≡ reach_segment start base (read_from s 0)
  pub entries : length at.book.entries ≡ length start.book.entries
  pub transactions : length at.book.transactions ≡ length start.book.transactions

pub going_on : (start : Reached) (es ts es' ts' : List ℕ) (p : Progress) (lists lists' : Lists) (base : ℕ) (s : List ℕ) (i : ℕ) (e : WalEntry) (payload : Place) (r : EntryRecord) → Going start (reached es ts (with_lists p lists)) base s i → step_at s i ≡ Entry e payload → r ≡ listed base e payload → book es' ts' lists' ≡ admit_of (book es ts lists) r → Going start (reached es' ts' (with_lists p lists')) base s (end_of payload)
going_on start es ts es' ts' p lists lists' base s i e payload r g q l a =
    let n = admit_lengths (book es ts lists) r in
    let b : Book → Reached = λ b. record { book = b; partial = p.partial_writes; checksum = p.checksum_failures } in
    record {
      same = ap (λ (x : Book). reach_segment (b x) base (read_from s (end_of payload))) a ∙ rw l (sym (reach_entry (reached es ts (with_lists p lists)) base s i e payload q)) ∙ g.same;
      entries = ap (λ (x : Book). length x.entries) a ∙ n.entries ∙ g.entries;
      transactions = ap (λ (x : Book). length x.transactions) a ∙ n.transactions ∙ g.transactions;
    }

-- a segment ends with at most one damage
pub damage_once : (s : List ℕ) (at : ℕ) → (read_from s at).partial + (read_from s at).checksum ≤ 1
damage_once s at = far (length s) at (omega arith)
  where
    step : (n at : ℕ) → length s - at ≤ suc n → ((at : ℕ) → length s - at ≤ n → (read_from s at).partial + (read_from s at).checksum ≤ 1) → (x : Step) → step_at s at ≡ x → (read_from s at).partial + (read_from s at).checksum ≤ 1
    step n at h next (Entry e p) q =
        let t = step_entry s at e p q in
        rw (read_entry s at e p q) (next (end_of p) (omega arith))
    step n at h next (Undecodable p) q = rw (read_undecodable s at p q) (omega arith)
    step n at h next End q = rw (read_end s at q) (omega arith)
    step n at h next Torn q = rw (read_partial s at q) (omega arith)
    step n at h next WrongChecksum q = rw (read_wrong s at q) (omega arith)

    far : (n at : ℕ) → length s - at ≤ n → (read_from s at).partial + (read_from s at).checksum ≤ 1
    far zero at h = rw (read_end s at (step_end s at (omega arith))) (omega arith)
    far (suc n) at h = step n at h (far n) (step_at s at) refl

-- ---- the log

admit_append : (b : Book) (xs ys : List EntryRecord) → admit_all b (xs ++ ys) ≡ admit_all (admit_all b xs) ys
unfolding admit_all
admit_append b [] ys = refl
admit_append b (x ∷ xs) ys = admit_append (admit_of b x) xs ys

-- what a log's reading makes of the state before it
abbrev pub with_log : Reached → LogRead → Reached
with_log at log =
    record {
      book = admit_all at.book log.entries;
      partial = at.partial + log.partial;
      checksum = at.checksum + log.checksum;
    }

then_log : (at : Reached) (base : ℕ) (s : Reading) (rest : LogRead) → with_log (reach_segment at base s) rest ≡ with_log at (and_then base s rest)
unfolding reach_segment
then_log at base s rest = rw (admit_append at.book (listed_from base s.good) rest.entries, add_assoc at.partial s.partial rest.partial, add_assoc at.checksum s.checksum rest.checksum)

pub reach_log_lem : (at : Reached) (area : List ℕ) (rs : List SegmentRecord) → reach_log at area rs ≡ with_log at (read_log area rs)
unfolding reach_log read_log admit_all
reach_log_lem at area [] = rw (add-zero at.partial, add-zero at.checksum)
reach_log_lem at area (r ∷ rs) =
    reach_log_lem (reach_segment at r.start (read_segment (segment_bytes area r))) area rs
    ∙ then_log at r.start (read_segment (segment_bytes area r)) (read_log area rs)

-- what is left of a log, read into the lists as they stand, comes to the whole read into the lists at the start
pub record ReadingOn (start : Reached) (at : Reached) (area directory : List ℕ) (used k : ℕ) : Type 0 where
  pub same : reach_log at area (records_of (used - k) (drop (24 * k) directory)) ≡ reach_log start area (records_of used directory)
  pub entries : length at.book.entries ≡ length start.book.entries
  pub transactions : length at.book.transactions ≡ length start.book.transactions
  pub partial : at.partial ≤ k
  pub checksum : at.checksum ≤ k

pub segment_lengths : (at : Reached) (base : ℕ) (s : Reading) → SameLengths (reach_segment at base s).book at.book
unfolding reach_segment
segment_lengths at base s = admit_all_lengths at.book (listed_from base s.good)

pub reading_goes : (start at : Reached) (area directory : List ℕ) (used k : ℕ) → k < used → (let r = record_at (drop (24 * k) directory) in ReadingOn start at area directory used k → (next : Reached) → next ≡ reach_segment at r.start (read_segment (segment_bytes area r)) → ReadingOn start next area directory used (k + 1))
unfolding reach_segment read_segment reach_log
reading_goes start at area directory used k h g next e =
    let r = record_at (drop (24 * k) directory) in
    let s = read_segment (segment_bytes area r) in
    let n = segment_lengths at r.start s in
    let d = damage_once (segment_bytes area r) 0 in
    record {
      same = ap (λ (x : Reached). reach_log x area (records_of (used - (k + 1)) (drop (24 * (k + 1)) directory))) e ∙ (rw (records_turn used k directory h) at g.same);
      entries = ap (λ (x : Reached). length x.book.entries) e ∙ n.entries ∙ g.entries;
      transactions = ap (λ (x : Reached). length x.book.transactions) e ∙ n.transactions ∙ g.transactions;
      partial = rw e (omega (arith, d, g.partial));
      checksum = rw e (omega (arith, d, g.checksum));
    }

pub reading_ends : (start at : Reached) (area directory : List ℕ) (used k : ℕ) → used ≤ k → ReadingOn start at area directory used k → at ≡ reach_log start area (records_of used directory)
unfolding reach_log records_of
reading_ends start at area directory used k h g = let z : used - k ≡ 0 = omega arith in rw z at g.same

-- A log read into emptied lists, concluded, is what recovery is to answer and to leave.
-- Assumes nothing.
use mathlib.Core.Path.{◌≡◌, refl, ap, ◌∙◌}
use mathlib.Core.Bool.{Bool, true, false, cond, ◌&&◌}
use mathlib.Core.List.{List, [], ◌∷◌}
use Prim.Native.Nat.{ℕ, suc, ◌+◌, ◌*◌, ◌/◌, ◌^◌, ◌<◌, ◌≤◌}
use native.Mathlib.Nat.{zero-add}
use native.Mathlib.Omega.{arith}
use lib.Dec.{leb}
use Rattle.fields.proofs.Cases.{case_b}
use Rattle.lists.specs.Transactions.{transactions_of}
use lib.ListN.{length, drop, replicate, length-append, length-take, length-drop, length-replicate}
use Rattle.fields.specs.Le.{Bytes}
use Rattle.fields.proofs.Numbers.{bytes_take, bytes_drop}
use Rattle.directory.specs.Image.{segment_bytes}
use Rattle.directory.specs.Record.{records_of}
use Rattle.directory.specs.Rule.{rule_from, test_of, after_record}
use Rattle.directory.specs.declared.record.SegmentRecord.{SegmentRecord}
use Rattle.std.specs.declared.option.Option.{Option}
use Rattle.directory.specs.declared.rule.Last.{Last}
use Rattle.std.specs.declared.option.Option.TheVariants.{None}
use Rattle.refusal.specs.Answer.{refused, sound}
use Rattle.refusal.proofs.Answers.{never_both}
use Rattle.directory.specs.Lent.{fits_of}
use Rattle.directory.specs.declared.lent.Lent.TheVariants as Lends
use Rattle.directory.proofs.Records.{length_records}
use Rattle.directory.proofs.Rules.{follows_says, rule_parts}
use Rattle.directory.proofs.Sound.{sound_says}
use Rattle.entry.specs.Parts.{kind_of}
use Rattle.entry.specs.declared.WalEntry.{WalEntry}
use Rattle.entry.specs.declared.WalEntry.TheVariants.{Insert, Update, Delete, Commit, Abort}
use Rattle.scan.specs.Read.{Good, read_from, read_segment}
use Rattle.scan.proofs.Goods.{GoodIn, read_each, read_count}
use Rattle.records.specs.Dense.{All}
use Rattle.records.proofs.Dense.{all_append}
use Rattle.lists.specs.Entries.{listed, EntryFits}
use Rattle.lists.specs.Admit.{Book, book, emptied, filled, admit_all, full_of}
use Rattle.lists.specs.declared.admit.Full.{Full}
use Rattle.lists.specs.declared.admit.Full.TheVariants.{Room, Transactions, Entries}
use Rattle.lists.proofs.Books.{admit_all_lem, admit_all_lengths, transactions_back}
use Rattle.recovery.specs.Log.{LogRead, listed_from, read_log}
use Rattle.recovery.specs.Recover.{Recovering, lists_test_of, listing, refused_empty, read_into, recovered_of}
use Rattle.recovery.specs.Reach.{Reached, reached, reach_log, unread, told_by, concluded_of}
use Rattle.recovery.specs.declared.read.Progress.{Progress}
use Rattle.recovery.proofs.Reaches.{with_log, reach_log_lem}

kind_most : (e : WalEntry) → kind_of e < 256
kind_most (Insert tx time key value) = omega arith
kind_most (Update tx time key old new) = omega arith
kind_most (Delete tx time key old) = omega arith
kind_most (Commit tx time) = omega arith
kind_most (Abort tx time) = omega arith

-- a good entry of a segment that lies in the area fits its record
listed_fits : (base : ℕ) (s : List ℕ) (g : Good) → base + length s ≤ 1_073_741_824 → Bytes s → GoodIn s g → EntryFits (listed base g.entry g.payload)
listed_fits base s g h b i =
    record { tx_id = i.tx b; place = omega (arith, i.end); len = omega (arith, i.end); kind = kind_most g.entry }

all_listed : (base : ℕ) (s : List ℕ) → base + length s ≤ 1_073_741_824 → Bytes s → (gs : List Good) → All (GoodIn s) gs → All EntryFits (listed_from base gs)
all_listed base s h b [] e = tt
all_listed base s h b (g ∷ gs) e = (listed_fits base s g h b e.0, all_listed base s h b gs e.1)

-- a segment's image is not longer than its record says
image_most : (area : List ℕ) (r : SegmentRecord) → length (segment_bytes area r) ≤ r.length
unfolding segment_bytes
image_most area r = rw (length-take r.length (drop r.start area)) (omega arith)

segment_bytes_lem : (area : List ℕ) (r : SegmentRecord) → Bytes area → Bytes (segment_bytes area r)
unfolding segment_bytes
segment_bytes_lem area r b = bytes_take r.length (drop r.start area) (bytes_drop r.start area b)

length-listed : (base : ℕ) (gs : List Good) → length (listed_from base gs) ≡ length gs
length-listed base [] = refl
length-listed base (g ∷ gs) = ap suc (length-listed base gs)

pub log_fits : (area : List ℕ) (last : Option Last) (rs : List SegmentRecord) → Bytes area → length area ≤ 1_073_741_824 → rule_from (length area) last rs ≡ true → All EntryFits (read_log area rs).entries
unfolding read_log read_segment
log_fits area last [] b h e = tt
log_fits area last (r ∷ rs) b h e =
    let p = rule_parts (length area) last r rs e in
    let f = follows_says (length area) last r p.0 in
    let s = segment_bytes area r in
    let fits : r.start + length s ≤ 1_073_741_824 = omega (arith, f.end, image_most area r) in
    all_append EntryFits (listed_from r.start (read_from s 0).good) (read_log area rs).entries
    (all_listed r.start s fits (segment_bytes_lem area r b) (read_from s 0).good (read_each s 0))
    (log_fits area (after_record r) rs b h p.1)

-- an entry takes bytes of the area
image_in : (area : List ℕ) (r : SegmentRecord) → length (segment_bytes area r) ≤ length area
unfolding segment_bytes
image_in area r = rw (length-take r.length (drop r.start area), length-drop r.start area) (omega arith)

pub log_length : (area : List ℕ) (most : ℕ) (rs : List SegmentRecord) → length area ≤ most → 33 * length (read_log area rs).entries ≤ length rs * most
unfolding read_log
log_length area most [] h = omega arith
log_length area most (r ∷ rs) h =
    let s = segment_bytes area r in
    rw (length-append (listed_from r.start (read_segment s).good) (read_log area rs).entries, length-listed r.start (read_segment s).good)
    (omega (arith, read_count s, image_in area r, log_length area most rs h))

-- ---- the end of a call

-- nothing read, lists of so many zeros
abbrev pub empty_start : (entries transactions : ℕ) → Reached
empty_start entries transactions = reached (replicate entries 0) (replicate transactions 0) unread

-- what comes of a log, by the list that is full, if any
abbrev into_by : Full → LogRead → (E T : ℕ) → Recovering
into_by Room log E T = listing log E T
into_by Entries log E T = refused_empty 6 E T
into_by Transactions log E T = refused_empty 7 E T

into_is : (log : LogRead) (E T : ℕ) → into_by (full_of (E / 32) (T / 24) log.entries) log E T ≡ read_into log E T
unfolding read_into full_of
into_is log E T =
    case_b (leb (length log.entries) (E / 32))
    (λ q. rw q (case_b (leb (length (transactions_of log.entries)) (T / 24)) (λ r. rw r) (λ r. rw r)))
    (λ q. rw q)

concluded_full : (E T : ℕ) (log : LogRead) (p : Progress) (es ts : List ℕ) → length es ≡ E → length ts ≡ T → (f : Full) → p.lists.full ≡ f → (f ≡ Room → concluded_of es ts p ≡ listing log E T) → concluded_of es ts p ≡ into_by f log E T
unfolding concluded_of
concluded_full E T log p es ts m n Room q k = k refl
concluded_full E T log p es ts m n Entries q k = rw (q, m, n)
concluded_full E T log p es ts m n Transactions q k = rw (q, m, n)

-- where both lists have room
concluded_room : (E T : ℕ) (log : LogRead) (p : Progress) (es ts : List ℕ) → All EntryFits log.entries → length log.entries < 2 ^ 64 → book es ts p.lists ≡ filled E T log.entries → p.partial_writes ≡ log.partial → p.checksum_failures ≡ log.checksum → concluded_of es ts p ≡ listing log E T
unfolding concluded_of told_by recovered_of filled
concluded_room E T log p es ts a l b q c =
    rw (ap (λ (x : Book). x.lists) b, ap (λ (x : Book). x.entries) b, ap (λ (x : Book). x.transactions) b, q, c, transactions_back T log.entries a l)

pub conclude : (E T : ℕ) (log : LogRead) (p : Progress) (es ts : List ℕ) → All EntryFits log.entries → length log.entries < 2 ^ 64 → reached es ts p ≡ with_log (empty_start E T) log → concluded_of es ts p ≡ read_into log E T
unfolding emptied
conclude E T log p es ts a l e =
    let b : book es ts p.lists ≡ admit_all (emptied E T) log.entries = ap (λ (x : Reached). x.book) e in
    let m = admit_all_lem E T log.entries a l in
    let n = admit_all_lengths (emptied E T) log.entries in
    rw (← into_is log E T)
    (concluded_full E T log p es ts
    (ap (λ (x : Book). length x.entries) b ∙ n.entries ∙ length-replicate E 0)
    (ap (λ (x : Book). length x.transactions) b ∙ n.transactions ∙ length-replicate T 0)
    (full_of (E / 32) (T / 24) log.entries)
    (ap (λ (x : Book). x.lists.full) b ∙ m.full)
    (λ r. concluded_room E T log p es ts a l (b ∙ m.book r) (ap (λ (x : Reached). x.partial) e ∙ zero-add log.partial) (ap (λ (x : Reached). x.checksum) e ∙ zero-add log.checksum)))

-- what `recover_tested` is to answer and to leave
pub recovers : (area directory : List ℕ) (used E T : ℕ) (es ts es₀ ts₀ : List ℕ) (p : Progress) → Bytes area → test_of (length area) directory used ≡ sound → es₀ ≡ replicate E 0 → ts₀ ≡ replicate T 0 → reached es ts p ≡ reach_log (reached es₀ ts₀ unread) area (records_of used directory) → concluded_of es ts p ≡ read_into (read_log area (records_of used directory)) E T
recovers area directory used E T es ts es₀ ts₀ p b t m n e =
    let s = sound_says (length area) directory used t in
    let rs = records_of used directory in
    let l : length (read_log area rs).entries < 2 ^ 64 = omega (arith, log_length area 1_073_741_824 rs s.area, length_records used directory, s.used, s.directory) in
    conclude E T (read_log area rs) p es ts (log_fits area None rs b s.area s.rule) l
    (rw (m, n) at e ∙ reach_log_lem (empty_start E T) area rs)

pub lists_sound : (area : ℕ) (directory : List ℕ) (used E T : ℕ) → lists_test_of area directory used E T ≡ sound → test_of area directory used ≡ sound
unfolding lists_test_of
lists_sound area directory used E T e = told (fits_of Lends.EntryList E && fits_of Lends.Transactions T) e
  where
    told : (b : Bool) → cond b (test_of area directory used) (refused 1) ≡ sound → test_of area directory used ≡ sound
    told true e = e
    told false e = never_both e

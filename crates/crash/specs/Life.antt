-- A log's life: openings, entries, rotations and power cuts, each through the calls' own definitions. Beside what is in the
-- caller's hands it says which entries are there, and which segments end inside an entry.
-- Assumes nothing.
use Rattle.std.specs.Prelude.{ℕ, ◌+◌, ◌*◌, ◌/◌, ◌<◌, ◌≤◌, ◌≡◌, true, List, [], ◌∷◌, ◌++◌, length, take, drop}
use Rattle.std.proofs.Math.Option.{Option, none, some}
use Rattle.refusal.specs.Answer.{by_answer}
use Rattle.directory.specs.Lent.{fits_of}
use Rattle.directory.specs.Record.{record_at, records_of, end_of}
use Rattle.directory.specs.declared.lent.Lent.TheVariants as Lends
use Rattle.directory.specs.declared.record.SegmentRecord.{SegmentRecord}
use Rattle.plan.specs.Plan.{last_used}
use Rattle.segment.specs.Writing.{fresh, OpenedLog, open_of, rotate_of, Log, append_of}
use Rattle.segment.specs.declared.SegmentManager.{SegmentManager}
use Rattle.crash.specs.Request.{Request, Typed, asked_by, Written}
use Rattle.crash.specs.Kept.{kept_by, torn_by, still_torn}

-- the log as it is lent to a call
pub record Held : Type 0 where
  pub used : ℕ
  pub directory : List ℕ
  pub area : List ℕ

pub record Life : Type 0 where
  -- the writer's state; none before the first opening and after a cut
  pub writer : Option SegmentManager
  pub held : Held
  -- the entries that are there, in log order
  pub entries : List Written
  -- for each segment that ends inside an entry, that entry's first byte
  pub torn : List ℕ

-- "an empty directory": any area, any directory buffer, no record used
abbrev pub empty : (area directory : List ℕ) → Life
empty area directory =
    record { writer = none; held = record { used = 0; directory = directory; area = area }; entries = []; torn = [] }

-- ---- the writer's calls: what is then in the caller's hands, or none if the call is refused

abbrev pub by_writer : Option SegmentManager → (SegmentManager → Option Life) → Option Life
by_writer none call = none
by_writer (some m) call = call m

abbrev pub after_opening : OpenedLog → Life → Option Life
after_opening o l =
    by_answer o.answer (λ _. none)
    (λ used. some (record {
      writer = some o.manager;
      held = record { used = used; directory = o.directory; area = l.held.area };
      entries = l.entries;
      torn = l.torn;
    }))

-- "Open the writer"
unfoldable pub opening : (bound : ℕ) → Life → Option Life
opening bound l =
    let h = l.held in
    after_opening (open_of (fresh bound) (length h.area) h.directory h.used) l

unfoldable pub rotating : Life → Option Life
rotating l =
    let h = l.held in
    by_writer l.writer (λ m. after_opening (rotate_of m (length h.area) h.directory h.used) l)

-- right after its append an entry is the last of the last segment
abbrev pub last_written : Request → Held → Written
last_written r h = record { request = r; end = end_of (last_used h.directory h.used) }

abbrev pub with_last : Request → SegmentManager → Held → Life → Life
with_last r m h l =
    record { writer = some m; held = h; entries = l.entries ++ (last_written r h ∷ []); torn = l.torn }

abbrev pub after_append : Request → Log → Life → Option Life
after_append r log l =
    by_answer log.answer (λ _. none)
    (λ added. some (with_last r log.manager (record { used = added.used; directory = log.directory; area = log.area }) l))

-- through the "entry call"
unfoldable pub appending : Request → Life → Option Life
appending r l =
    let h = l.held in
    by_writer l.writer
    (λ m. after_append r (append_of m h.area h.directory h.used r.lsn r.tx r.time (asked_by r)) l)

-- ---- a power cut

-- of segment k the first n bytes are kept; area and directory buffer are what the host then lends
pub record Cut : Type 0 where
  pub k : ℕ
  pub n : ℕ
  pub area : List ℕ
  pub directory : List ℕ

-- record k of the directory
abbrev pub segment_in : Held → (k : ℕ) → SegmentRecord
segment_in h k = record_at (drop (24 * k) h.directory)

-- the area's first byte that is not kept
abbrev pub cut_place : Held → Cut → ℕ
cut_place h c = (segment_in h c.k).start + c.n

-- "the segments before some one whole, that one up to any byte, and none after"
abbrev pub cut_records : Held → Cut → List SegmentRecord
cut_records h c =
    let s = segment_in h c.k in
    records_of c.k h.directory ++ (record { id = s.id; start = s.start; length = c.n } ∷ [])

pub record IsCut (h : Held) (c : Cut) : Type 0 where
  pub segment : c.k < h.used
  pub byte : c.n ≤ (segment_in h c.k).length
  -- the area has the bytes before the cut, and any others behind it
  pub area_fits : fits_of Lends.Area (length c.area) ≡ true
  pub area_kept : take (cut_place h c) c.area ≡ take (cut_place h c) h.area
  -- the directory has these records, and any others behind them
  pub directory_fits : fits_of Lends.Directory (length c.directory) ≡ true
  pub directory_size : c.k + 1 ≤ length c.directory / 24
  pub directory_kept : records_of (c.k + 1) c.directory ≡ cut_records h c

abbrev pub cut_by : Cut → Life → Life
cut_by c l =
    let place = cut_place l.held c in
    record {
      writer = none;
      held = record { used = c.k + 1; directory = c.directory; area = c.area };
      entries = kept_by place l.entries;
      torn = still_torn place l.torn ++ torn_by place l.entries;
    }

-- ---- a history

pub data Step : Type 0 where
  opens : (bound : ℕ) → Step
  rotates : Step
  appends : Request → Step
  power_cut : Cut → Step

-- a step leads from one to the other: each call is accepted
abbrev pub Leads : Step → Life → Life → Type 0
Leads (opens bound) before after = opening bound before ≡ some after
Leads rotates before after = rotating before ≡ some after
Leads (appends r) before after = Typed r × (appending r before ≡ some after)
Leads (power_cut c) before after = IsCut before.held c × (after ≡ cut_by c before)

-- "every buffer handed back untouched": each step begins with what the one before it left
abbrev pub Lives : List Step → Life → Life → Type 0
Lives [] before after = before ≡ after
Lives (step ∷ steps) before after = (next : Life) × (Leads step before next × Lives steps next after)

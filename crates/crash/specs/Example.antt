-- One run and one cut that meet all that `demand_3` is given, by computation: three segments, and a cut inside an entry of the
-- middle one.
-- Assumes nothing.
use Rattle.std.specs.Prelude.{ℕ, ◌≡◌, true, false, cond, List, [], ◌∷◌, ◌++◌, map, length, replicate, take, drop}
use Rattle.refusal.specs.Answer.{accepted}
use Rattle.directory.specs.Record.{records_of}
use Rattle.recovery.specs.Recover.{recovered_of}
use Rattle.recovery.specs.declared.Next.TheVariants.{Number}
use Rattle.table.specs.Row.{row_of}
use Rattle.store.specs.Order.{replay_order}
use Rattle.crash.specs.Request.{Request, Written}
use Rattle.crash.specs.Kept.{kept_by, is_inside, listed_all}
use Rattle.crash.specs.Life.{Life, empty, Cut, IsCut, Step, opens, appends}
use Rattle.crash.specs.Settings.{run_numbers, is_committed}
use Rattle.crash.specs.Crash.{Enough, read_as, Story, cut_of}
use Rattle.crash.specs.Words.{inserts, updates, deletes, commits, aborts, at, numbers}
use Rattle.crash.specs.Runs.{after_all, accepts_all}

-- the keys a, b and c
abbrev pub a : List ℕ
a = 97 ∷ []

abbrev pub b : List ℕ
b = 98 ∷ []

abbrev pub c : List ℕ
c = 99 ∷ []

-- Each has its log number, its transaction, its key and its values. 1 and 2 overlap, and 2 commits first; 3 aborts; 4 commits
-- behind the cut.
abbrev pub asked_for : List Request
asked_for =
    inserts 1 1 a 1 ∷ updates 2 2 a 1 2 ∷ deletes 3 2 b 9 ∷ inserts 4 1 b 1 ∷ commits 5 2 ∷ inserts 6 1 c 1 ∷ inserts 7 3 c 3 ∷ commits 8 1 ∷ aborts 9 3 ∷ inserts 10 4 a 4 ∷ updates 11 4 b 1 4 ∷ commits 12 4 ∷ []

-- the bound is 230, the area has 600 bytes and the directory 5 records
abbrev pub steps : List Step
steps = opens 230 ∷ map appends asked_for

abbrev pub start : Life
start = empty (replicate 600 0) (replicate 120 0)

unfoldable pub written : Life
written = after_all steps start

-- The second segment is kept up to its byte 250. The area is then shorter, with other bytes behind the cut; the directory is
-- made anew, with 3 records.
abbrev pub cut : Cut
cut =
    record {
      k = 1;
      n = 250;
      area = take 496 written.held.area ++ replicate 16 255;
      directory = at 1 0 246 ++ (at 2 246 250 ++ replicate 24 255);
    }

abbrev pub story : Story
story =
    record {
      bound = 230;
      area = replicate 600 0;
      directory = replicate 120 0;
      requests = asked_for;
      log = written;
      cut = cut;
      lent = record { entries = replicate 384 1; transactions = replicate 96 1; table = replicate 960 1 };
    }

abbrev pub kept : List Written
kept = kept_by (cut_of story) written.entries

abbrev pub partial : ℕ
partial = cond (is_inside (cut_of story) written.entries) 1 0

-- all by computation
pub record Computed : Type 0 where
  pub is_written : accepts_all steps start ≡ true
  pub is_cut : IsCut written.held cut
  pub is_enough : Enough written.entries story.lent
  -- the writer has rotated twice
  pub segments : records_of written.held.used written.held.directory ≡ record { id = 1; start = 0; length = 246 } ∷ record { id = 2; start = 246; length = 279 } ∷ record { id = 3; start = 525; length = 33 } ∷ []
  -- the fifth entry's payload: the commit of 2 at the time 1,005
  pub stored : take 20 (drop 226 written.held.area) ≡ 3 ∷ 0 ∷ 0 ∷ 0 ∷ 2 ∷ 0 ∷ 0 ∷ 0 ∷ 0 ∷ 0 ∷ 0 ∷ 0 ∷ 237 ∷ 3 ∷ 0 ∷ 0 ∷ 0 ∷ 0 ∷ 0 ∷ 0 ∷ []
  -- the second one's: an update of a by 2 at the time 1,002, from 1 to 2
  pub stored_update : take 47 (drop 64 written.held.area) ≡ (1 ∷ 0 ∷ 0 ∷ 0 ∷ 2 ∷ 0 ∷ 0 ∷ 0 ∷ 0 ∷ 0 ∷ 0 ∷ 0 ∷ 234 ∷ 3 ∷ 0 ∷ 0 ∷ 0 ∷ 0 ∷ 0 ∷ 0 ∷ []) ++ ((1 ∷ 0 ∷ 0 ∷ 0 ∷ 0 ∷ 0 ∷ 0 ∷ 0 ∷ 97 ∷ []) ++ ((1 ∷ 0 ∷ 0 ∷ 0 ∷ 0 ∷ 0 ∷ 0 ∷ 0 ∷ 1 ∷ []) ++ (1 ∷ 0 ∷ 0 ∷ 0 ∷ 0 ∷ 0 ∷ 0 ∷ 0 ∷ 2 ∷ [])))
  -- the cut is inside the eleventh entry, which begins at 465
  pub inside : is_inside (cut_of story) written.entries ≡ true
  -- ten entries of four transactions, two of them committed, one aborted and one incomplete; one partial write
  pub answer : accepted (recovered_of (read_as kept partial)) ≡ numbers 10 4 2 1 1 1 0 (Number 5)
  -- why it is 1 and 2 that are run
  pub committed : map (λ n. is_committed n kept) (1 ∷ 2 ∷ 3 ∷ 4 ∷ []) ≡ true ∷ true ∷ false ∷ false ∷ []
  pub order : replay_order (listed_all kept) ≡ 1 ∷ 2 ∷ []
  -- a is from 2, though 1 committed later; b is deleted by 2, though 1 set it later; c is from 1
  pub rows : run_numbers (1 ∷ 2 ∷ []) kept [] ≡ row_of a (2 ∷ []) ∷ row_of c (1 ∷ []) ∷ []
  -- in the order of their commits it would be another table
  pub other_order : run_numbers (2 ∷ 1 ∷ []) kept [] ≡ row_of a (1 ∷ []) ∷ row_of b (1 ∷ []) ∷ row_of c (1 ∷ []) ∷ []
  -- and so it would be with the third segment, which has the commit of 4
  pub uncut : run_numbers (1 ∷ 2 ∷ 4 ∷ []) written.entries [] ≡ row_of a (4 ∷ []) ∷ row_of b (4 ∷ []) ∷ row_of c (1 ∷ []) ∷ []
  -- a cut at the tenth entry's end is inside none, and keeps it; a byte before, it is torn
  pub at_end : is_inside 465 written.entries ≡ false
  pub kept_at_end : length (kept_by 465 written.entries) ≡ 10
  pub torn : is_inside 464 written.entries ≡ true
  pub kept_torn : length (kept_by 464 written.entries) ≡ 9
  -- at the segment's start it is inside none, and keeps the first segment; a byte behind, it is inside the sixth entry
  pub at_start : is_inside 246 written.entries ≡ false
  pub kept_at_start : length (kept_by 246 written.entries) ≡ 5
  pub behind_start : is_inside 247 written.entries ≡ true
  -- at the first byte nothing is kept, and nothing torn
  pub at_first : is_inside 0 written.entries ≡ false
  pub kept_at_first : kept_by 0 written.entries ≡ []

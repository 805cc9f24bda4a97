-- Two histories of two runs and two cuts, lived by computation. The first cut tears a segment of the first run. In the one
-- history the second cut tears a segment of the second run; in the other it falls before the first tear, and a third run
-- follows.
-- Assumes nothing.
use Rattle.std.specs.Prelude.{ℕ, ◌≡◌, true, List, [], ◌∷◌, ◌++◌, length, replicate, take}
use Rattle.refusal.specs.Answer.{accepted}
use Rattle.directory.specs.Record.{records_of}
use Rattle.recovery.specs.Recover.{recovered_of}
use Rattle.recovery.specs.declared.Next.TheVariants.{Number}
use Rattle.table.specs.Row.{row_of}
use Rattle.store.specs.Order.{replay_order}
use Rattle.crash.specs.Kept.{still_torn, listed_all}
use Rattle.crash.specs.Life.{Life, empty, Cut, cut_place, IsCut, cut_by, Step, opens, rotates, appends, power_cut}
use Rattle.crash.specs.Settings.{run_numbers}
use Rattle.crash.specs.Crash.{Lent, Enough, recovering, read_as, History}
use Rattle.crash.specs.Words.{inserts, commits, at, numbers}
use Rattle.crash.specs.Runs.{accepts_all, after_all}

-- the keys a and b
abbrev pub a : List ℕ
a = 97 ∷ []

abbrev pub b : List ℕ
b = 98 ∷ []

abbrev pub lent : Lent
lent = record { entries = replicate 160 1; transactions = replicate 72 1; table = replicate 640 1 }

-- ---- the first run, and a cut inside its last entry, the commit of 2

abbrev pub start : Life
start = empty (replicate 180 0) (replicate 72 0)

abbrev pub first_steps : List Step
first_steps =
    appends (inserts 1 1 a 1) ∷ appends (commits 2 1) ∷ appends (inserts 3 2 a 2) ∷ appends (commits 4 2) ∷ []

unfoldable pub first : Life
first = after_all (opens 60 ∷ first_steps) start

-- the area is then longer, and so is the directory
abbrev pub first_cut : Cut
first_cut =
    record {
      k = 1;
      n = 70;
      area = take 154 first.held.area ++ replicate 146 255;
      directory = at 1 0 84 ++ (at 2 84 70 ++ replicate 72 255);
    }

-- ---- the second run, with another bound and a rotation that the host asks for

abbrev pub second_steps : List Step
second_steps =
    opens 100 ∷ appends (inserts 5 3 b 3) ∷ rotates ∷ appends (commits 6 3) ∷ appends (inserts 7 4 a 4) ∷ []

unfoldable pub second : Life
second = after_all second_steps (cut_by first_cut first)

-- ---- a cut inside the last entry of the second run, the insert of 4

abbrev pub later_cut : Cut
later_cut =
    record {
      k = 3;
      n = 55;
      area = take 260 second.held.area ++ replicate 20 7;
      directory = at 1 0 84 ++ (at 2 84 70 ++ (at 3 154 51 ++ (at 4 205 55 ++ replicate 24 0)));
    }

abbrev pub later : History
later =
    record {
      bound = 60;
      area = replicate 180 0;
      directory = replicate 72 0;
      steps = first_steps ++ (power_cut first_cut ∷ (second_steps ++ (power_cut later_cut ∷ [])));
      log = cut_by later_cut second;
      lent = lent;
    }

-- ---- or a cut inside the insert of 2, before the first tear; and a third run

abbrev pub earlier_cut : Cut
earlier_cut =
    record {
      k = 1;
      n = 30;
      area = take 114 second.held.area ++ replicate 90 7;
      directory = at 1 0 84 ++ (at 2 84 30 ++ replicate 24 0);
    }

abbrev pub third_steps : List Step
third_steps = opens 60 ∷ appends (inserts 3 2 b 5) ∷ appends (commits 4 2) ∷ []

unfoldable pub third : Life
third = after_all third_steps (cut_by earlier_cut second)

abbrev pub earlier : History
earlier =
    record {
      bound = 60;
      area = replicate 180 0;
      directory = replicate 72 0;
      steps = first_steps ++ (power_cut first_cut ∷ (second_steps ++ (power_cut earlier_cut ∷ third_steps)));
      log = third;
      lent = lent;
    }

-- ---- all by computation

-- the runs before the second cut
pub record Begun : Type 0 where
  pub first_run : accepts_all (opens 60 ∷ first_steps) start ≡ true
  pub is_cut : IsCut first.held first_cut
  -- the commit of 2 begins at 135
  pub torn : (cut_by first_cut first).torn ≡ 135 ∷ []
  pub second_run : accepts_all second_steps (cut_by first_cut first) ≡ true
  -- the second segment is the torn one; it stays as it is
  pub segments : records_of second.held.used second.held.directory ≡ record { id = 1; start = 0; length = 84 } ∷ record { id = 2; start = 84; length = 70 } ∷ record { id = 3; start = 154; length = 51 } ∷ record { id = 4; start = 205; length = 84 } ∷ []
  -- where the two second cuts fall
  pub later_place : cut_place second.held later_cut ≡ 260
  pub earlier_place : cut_place second.held earlier_cut ≡ 114

pub record Later : Type 0 where
  pub is_cut : IsCut second.held later_cut
  pub is_enough : Enough later.log.entries lent
  -- the first tear stays, and the insert of 4 is torn, which begins at 238
  pub torn : later.log.torn ≡ 135 ∷ 238 ∷ []
  -- recovery on the bytes themselves: five entries of three transactions, two of them committed and one incomplete; two
  -- partial writes
  pub answer : (recovering later.log.held lent).answer ≡ numbers 5 3 2 0 1 2 0 (Number 4)
  pub order : replay_order (listed_all later.log.entries) ≡ 1 ∷ 3 ∷ []
  -- a is from 1; b is from 3, whose entries stand behind the first tear
  pub rows : run_numbers (1 ∷ 3 ∷ []) later.log.entries [] ≡ row_of a (1 ∷ []) ∷ row_of b (3 ∷ []) ∷ []

pub record Earlier : Type 0 where
  pub is_cut : IsCut second.held earlier_cut
  pub third_run : accepts_all third_steps (cut_by earlier_cut second) ≡ true
  pub is_enough : Enough third.entries lent
  -- the first tear is gone, and the insert of 2 is torn, which begins at 84
  pub torn : third.torn ≡ 84 ∷ []
  -- four entries of two transactions, both committed; one partial write
  pub answer : accepted (recovered_of (read_as third.entries (length third.torn))) ≡ numbers 4 2 2 0 0 1 0 (Number 3)
  pub order : replay_order (listed_all third.entries) ≡ 1 ∷ 2 ∷ []
  pub rows : run_numbers (1 ∷ 2 ∷ []) third.entries [] ≡ row_of a (1 ∷ []) ∷ row_of b (5 ∷ []) ∷ []
  -- a tear is gone with a cut at its first byte, and stays with one a byte behind
  pub at_tear : still_torn 135 (135 ∷ []) ≡ []
  pub behind_tear : still_torn 136 (135 ∷ []) ≡ 135 ∷ []

-- How far recovery has come while it reads: the two lists in bytes, and the damage counted so far. Inner functions are stated
-- by it; no promise of a public call is.
-- Assumes nothing.
use Rattle.std.specs.Prelude.{ℕ, ◌+◌, List, [], ◌∷◌, length}
use Rattle.directory.specs.Image.{segment_bytes}
use Rattle.directory.specs.declared.record.SegmentRecord.{SegmentRecord}
use Rattle.scan.specs.Read.{Reading, nothing, on_read, read_segment}
use Rattle.scan.specs.declared.Step.{Step}
use Rattle.lists.specs.Admit.{Book, book, admit_all}
use Rattle.lists.specs.declared.admit.Lists.{Lists}
use Rattle.lists.specs.declared.admit.Full.{Full}
use Rattle.lists.specs.declared.admit.Full.TheVariants.{Room, Transactions, Entries}
use Rattle.lists.specs.Transactions.{transaction_at}
use Rattle.records.specs.Dense.{records_of}
use Rattle.recovery.specs.Log.{listed_from}
use Rattle.recovery.specs.Recover.{next_of, stats_of, Recovering, recovering, refused_empty}
use Rattle.recovery.specs.declared.Recovered.{Recovered}
use Rattle.std.specs.declared.result.Result.TheVariants.{Ok}
use Rattle.recovery.specs.declared.read.Progress.{Progress}

pub record Reached : Type 0 where
  pub book : Book
  pub partial : ℕ
  pub checksum : ℕ

-- what a call gave back, with the lists that it left
abbrev pub reached : (entries transactions : List ℕ) → Progress → Reached
reached entries transactions p =
    record {
      book = book entries transactions p.lists;
      partial = p.partial_writes;
      checksum = p.checksum_failures;
    }

-- a step that is no entry ends the segment: what it adds to the damage
abbrev pub ended_by : Progress → Lists → Step → Progress
ended_by p lists step =
    record {
      lists = lists;
      partial_writes = p.partial_writes + (on_read step nothing).partial;
      checksum_failures = p.checksum_failures + (on_read step nothing).checksum;
    }

-- one segment more, which starts at `base`
unfoldable pub reach_segment : Reached → (base : ℕ) → Reading → Reached
reach_segment at base segment =
    record {
      book = admit_all at.book (listed_from base segment.good);
      partial = at.partial + segment.partial;
      checksum = at.checksum + segment.checksum;
    }

-- the segments of a log, one after the other
unfoldable pub reach_log : Reached → (area : List ℕ) → List SegmentRecord → Reached
reach_log at area [] = at
reach_log at area (r ∷ rs) = reach_log (reach_segment at r.start (read_segment (segment_bytes area r))) area rs

-- ---- the end

-- nothing read yet
abbrev pub unread : Progress
unread =
    record {
      lists = record { entries = 0; transactions = 0; highest = 0; full = Room };
      partial_writes = 0;
      checksum_failures = 0;
    }

-- what recovery says of it: the counts are read off the transactions
unfoldable pub told_by : (transactions : List ℕ) → Progress → Recovered
told_by transactions p =
    record {
      stats = stats_of (records_of 24 transaction_at p.lists.transactions transactions) p.partial_writes p.checksum_failures;
      entries = p.lists.entries;
      next = next_of p.lists.highest;
    }

-- 6 and 7 empty both lists
abbrev pub concluded_by : Full → (entries transactions : List ℕ) → Progress → Recovering
concluded_by Room entries transactions p = recovering (Ok (told_by transactions p)) entries transactions
concluded_by Entries entries transactions p = refused_empty 6 (length entries) (length transactions)
concluded_by Transactions entries transactions p = refused_empty 7 (length entries) (length transactions)

unfoldable pub concluded_of : (entries transactions : List ℕ) → Progress → Recovering
concluded_of entries transactions p = concluded_by p.lists.full entries transactions p

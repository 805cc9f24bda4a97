-- Worked examples, by computation.
-- Assumes nothing.
use Rattle.std.specs.Prelude.{◌≡◌, refl, [], ℕ, replicate}
use Rattle.scan.specs.Walk.{walk, walk_from}
use Rattle.scan.specs.Read.{read_from, read_segment}
use Rattle.directory.specs.Image.{segment_bytes}
use Rattle.lists.specs.Entries.{highest_in}
use Rattle.lists.specs.Tally.{tally_of}
use Rattle.lists.specs.Transactions.{note_all, transactions_of}
use Rattle.recovery.specs.Log.{read_log}
use Rattle.refusal.specs.Answer.{refused, accepted}
use Rattle.recovery.specs.Recover.{next_of, stats_of, recovered_of}
use Rattle.recovery.specs.declared.Next.TheVariants.{Unchanged}
use Rattle.report.specs.Report.{report_of}

-- "For empty input it prints exactly .. `total 0`, `committed 0`, `aborted 0`, `incomplete 0`, `partial 0`, `checksum 0`,
-- `next unchanged`."
empty : report_of [] ≡ accepted (record { stats = record { total_transactions = 0; committed = 0; aborted = 0; incomplete = 0; partial_writes = 0; checksum_failures = 0 }; entries = 0; next = Unchanged })
unfolding report_of recovered_of stats_of next_of read_log segment_bytes read_segment read_from walk_from walk transactions_of note_all tally_of highest_in
empty = refl

one_too_many : report_of (replicate {A = ℕ} 65_537 0) ≡ refused 1
unfolding report_of
one_too_many = refl

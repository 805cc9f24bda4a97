-- Document 01, "Recovery": what recovery answers, and what the two lists then hold.
-- Assumes nothing.
use Rattle.std.specs.Prelude.{ℕ, ◌+◌, ◌-◌, ◌/◌, ◌^◌, cond, ◌&&◌, List, eqb, leb, length, replicate}
use Rattle.std.specs.declared.result.Result.{Result}
use Rattle.refusal.specs.declared.Refusal.{Refusal}
use Rattle.refusal.specs.Answer.{Answer, refused, accepted, by_answer, answer_of}
use Rattle.records.specs.Dense.{dense}
use Rattle.directory.specs.Lent.{fits_of}
use Rattle.directory.specs.Record.{records_of}
use Rattle.directory.specs.Rule.{test_of}
use Rattle.directory.specs.declared.lent.Lent.TheVariants as Lends
use Rattle.lists.specs.Entries.{entry_record_bytes, highest_in}
use Rattle.lists.specs.Transactions.{transaction_bytes, transactions_of}
use Rattle.lists.specs.Tally.{tally_of}
use Rattle.lists.specs.declared.transactions.TransactionRecord.{TransactionRecord}
use Rattle.recovery.specs.Log.{LogRead, read_log}
use Rattle.recovery.specs.declared.Next.{Next}
use Rattle.recovery.specs.declared.Next.TheVariants.{Unchanged, Number, Exhausted}
use Rattle.recovery.specs.declared.RecoveryStats.{RecoveryStats}
use Rattle.recovery.specs.declared.Recovered.{Recovered}

-- "The next number is unchanged if the highest is 0, the highest number plus one otherwise, and "exhausted" at 2^64 - 1."
unfoldable pub next_of : (highest : ℕ) → Next
next_of highest =
    cond (eqb highest 0) Unchanged
    (cond (eqb highest (2 ^ 64 - 1)) Exhausted (Number (highest + 1)))

-- "Total is the number of distinct numbers; committed, aborted and incomplete add up to it."
unfoldable pub stats_of : List TransactionRecord → (partial checksum : ℕ) → RecoveryStats
stats_of ts partial checksum =
    record {
      total_transactions = length ts;
      committed = (tally_of ts).committed;
      aborted = (tally_of ts).aborted;
      incomplete = (tally_of ts).incomplete;
      partial_writes = partial;
      checksum_failures = checksum;
    }

-- what recovery says of a log
unfoldable pub recovered_of : LogRead → Recovered
recovered_of log =
    record {
      stats = stats_of (transactions_of log.entries) log.partial log.checksum;
      entries = length log.entries;
      next = next_of (highest_in log.entries);
    }

pub record Recovering : Type 0 where
  pub answer : Answer Recovered
  pub entries : List ℕ
  pub transactions : List ℕ

-- what a call gave back, with the lists that it left
abbrev pub recovering : Result Recovered Refusal → List ℕ → List ℕ → Recovering
recovering r entries transactions = record { answer = answer_of r; entries = entries; transactions = transactions }

-- "The entry list holds every good entry, markers too, in reading order. Both, and the entry list, are dense from the front."
abbrev pub listing : LogRead → (entries transactions : ℕ) → Recovering
listing log entries transactions =
    record {
      answer = accepted (recovered_of log);
      entries = dense entry_record_bytes entries log.entries;
      transactions = dense transaction_bytes transactions (transactions_of log.entries);
    }

-- "6 to 9 leave entry list, transactions .. zero throughout"
abbrev pub refused_empty : (number entries transactions : ℕ) → Recovering
refused_empty number entries transactions =
    record { answer = refused number; entries = replicate entries 0; transactions = replicate transactions 0 }

-- a log read into lists of so many bytes. 6: "more accepted entries than entry records"; 7: "more distinct numbers than
-- transaction records"
unfoldable pub read_into : LogRead → (entries transactions : ℕ) → Recovering
read_into log entries transactions =
    cond (leb (length log.entries) (entries / 32))
    (cond (leb (length (transactions_of log.entries)) (transactions / 24)) (listing log entries transactions)
    (refused_empty 7 entries transactions))
    (refused_empty 6 entries transactions)

-- 1 of every buffer goes before 2
unfoldable pub lists_test_of : (area : ℕ) → List ℕ → (used entries transactions : ℕ) → Answer (Unit {0})
lists_test_of area directory used entries transactions =
    cond (fits_of Lends.EntryList entries && fits_of Lends.Transactions transactions) (test_of area directory used) (refused 1)

-- "1 and 2 change nothing"
unfoldable pub recover_of : (area directory : List ℕ) → (used : ℕ) → (entries transactions : List ℕ) → Recovering
recover_of area directory used entries transactions =
    by_answer (lists_test_of (length area) directory used (length entries) (length transactions))
    (λ number. record { answer = refused number; entries = entries; transactions = transactions })
    (λ _. read_into (read_log area (records_of used directory)) (length entries) (length transactions))

-- Recovery and replay as a C host has them.
-- Assumes nothing.
use Rattle.std.specs.Prelude.{List, ℕ}
use Rattle.refusal.specs.Answer.{Answer, by_answer}
use Rattle.recovery.specs.Recover.{Recovering}
use Rattle.recovery.specs.declared.Recovered as Below
use Rattle.recovery.specs.declared.Next.{Next}
use Rattle.recovery.specs.declared.Next.TheVariants.{Unchanged, Number, Exhausted}
use Rattle.store.specs.Replay.{Replaying}
use Rattle.ringwal_c.specs.declared.recovering.RecoverAnswer.{RecoverAnswer}

-- the next number: 0 unchanged, 1 a number, 2 exhausted
abbrev pub next_state : Next → ℕ
next_state Unchanged = 0
next_state (Number number) = 1
next_state Exhausted = 2

abbrev pub next_number : Next → ℕ
next_number Unchanged = 0
next_number (Number number) = number
next_number Exhausted = 0

-- "A refused answer's counts are all 0."
abbrev pub refused_answer : (number : ℕ) → RecoverAnswer
refused_answer number =
    record {
      refusal = number;
      total_transactions = 0;
      committed = 0;
      aborted = 0;
      incomplete = 0;
      partial_writes = 0;
      checksum_failures = 0;
      entries = 0;
      next = 0;
      next_number = 0;
    }

abbrev pub accepted_answer : Below.Recovered → RecoverAnswer
accepted_answer values =
    record {
      refusal = 0;
      total_transactions = values.stats.total_transactions;
      committed = values.stats.committed;
      aborted = values.stats.aborted;
      incomplete = values.stats.incomplete;
      partial_writes = values.stats.partial_writes;
      checksum_failures = values.stats.checksum_failures;
      entries = values.entries;
      next = next_state values.next;
      next_number = next_number values.next;
    }

abbrev pub recover_answer : Answer Below.Recovered → RecoverAnswer
recover_answer answer = by_answer answer refused_answer accepted_answer

-- what a host has afterwards
pub record Recovered : Type 0 where
  pub answer : RecoverAnswer
  pub entries : List ℕ
  pub transactions : List ℕ

abbrev pub recovered : RecoverAnswer → (entries transactions : List ℕ) → Recovered
recovered answer entries transactions = record { answer = answer; entries = entries; transactions = transactions }

-- what the call below answers and leaves, for a host
abbrev pub recover_for : Recovering → Recovered
recover_for r = recovered (recover_answer r.answer) r.entries r.transactions

pub record Replayed : Type 0 where
  pub answer : RecoverAnswer
  pub entries : List ℕ
  pub transactions : List ℕ
  pub table : List ℕ

abbrev pub replayed : RecoverAnswer → (entries transactions table : List ℕ) → Replayed
replayed answer entries transactions table =
    record { answer = answer; entries = entries; transactions = transactions; table = table }

abbrev pub replay_for : Replaying → Replayed
replay_for r = replayed (recover_answer r.answer) r.entries r.transactions r.table

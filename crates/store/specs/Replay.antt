-- Document 01, "Recovery": replay. It runs the recovery itself, empties the table, and applies the committed transactions.
-- Assumes nothing.
use Rattle.std.specs.Prelude.{ℕ, ◌/◌, cond, List, [], leb, length, replicate}
use Rattle.std.specs.declared.result.Result.{Result}
use Rattle.refusal.specs.declared.Refusal.{Refusal}
use Rattle.refusal.specs.Answer.{Answer, refused, by_answer, answer_of}
use Rattle.directory.specs.Lent.{fits_of}
use Rattle.directory.specs.Record.{records_of}
use Rattle.directory.specs.declared.lent.Lent.TheVariants as Lends
use Rattle.table.specs.Row.{Row}
use Rattle.table.specs.Table.{table_of}
use Rattle.recovery.specs.Log.{LogRead, read_log}
use Rattle.recovery.specs.Recover.{Recovering, recover_of}
use Rattle.recovery.specs.declared.Recovered.{Recovered}
use Rattle.store.specs.Order.{replayed}
use Rattle.store.specs.Change.{run_of}

pub record Replaying : Type 0 where
  pub answer : Answer Recovered
  pub entries : List ℕ
  pub transactions : List ℕ
  pub table : List ℕ

-- what a call gave back, with the buffers that it left
abbrev pub replaying : Result Recovered Refusal → (entries transactions table : List ℕ) → Replaying
replaying r entries transactions table =
    record { answer = answer_of r; entries = entries; transactions = transactions; table = table }

-- 8 and 9: "6 to 9 leave entry list, transactions and table, where lent, zero throughout."
abbrev pub refused_empty : (number entries transactions table : ℕ) → Replaying
refused_empty number entries transactions table =
    record {
      answer = refused number;
      entries = replicate entries 0;
      transactions = replicate transactions 0;
      table = replicate table 0;
    }

-- what the run of the committed transactions comes to; an accepted replay answers as recovery does
abbrev pub replay_after : Answer (List Row) → Recovering → (table : ℕ) → Replaying
replay_after run r table =
    by_answer run (λ number. refused_empty number (length r.entries) (length r.transactions) table)
    (λ rs. record { answer = r.answer; entries = r.entries; transactions = r.transactions; table = table_of table rs })

-- "1 and 2 change nothing", 6 and 7 leave the table zero too
unfoldable pub table_after : (number : ℕ) → List ℕ → List ℕ
table_after number table = cond (leb number 2) table (replicate (length table) 0)

abbrev pub replay_by : Recovering → LogRead → (area table : List ℕ) → Replaying
replay_by r log area table =
    by_answer r.answer
    (λ number. record { answer = refused number; entries = r.entries; transactions = r.transactions; table = table_after number table })
    (λ _. replay_after (run_of (length table / 320) area (replayed log.entries) []) r (length table))

-- 1 of every buffer goes before 2
unfoldable pub replay_of : (area directory : List ℕ) → (used : ℕ) → (entries transactions table : List ℕ) → Replaying
replay_of area directory used entries transactions table =
    cond (fits_of Lends.Table (length table))
    (replay_by (recover_of area directory used entries transactions) (read_log area (records_of used directory)) area table)
    (record { answer = refused 1; entries = entries; transactions = transactions; table = table })

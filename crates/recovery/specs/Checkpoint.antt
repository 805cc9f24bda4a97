-- Document 01, "Recovery": the checkpoint.
-- Assumes nothing.
use Rattle.std.specs.Prelude.{ℕ, cond, List, eqb, leb, ltb, length}
use Rattle.std.proofs.lemmas.List.Edits.{sets}
use Rattle.fields.specs.Le.{le_bytes, num_at}
use Rattle.std.specs.declared.result.Result.{Result}
use Rattle.refusal.specs.declared.Refusal.{Refusal}
use Rattle.refusal.specs.Answer.{Answer, refused, accepted, by_answer, and_then, answer_of}
use Rattle.directory.specs.Record.{records_of}
use Rattle.lists.specs.Transactions.{transactions_of}
use Rattle.lists.specs.Tally.{highest_committed}
use Rattle.recovery.specs.Log.{LogRead, read_log}
use Rattle.recovery.specs.Recover.{recover_of, Recovering}

-- "A checkpoint image not exactly 8 bytes reads as 0."
unfoldable pub checkpoint_at : List ℕ → ℕ
checkpoint_at image = cond (eqb (length image) 8) (num_at 0 8 image) 0

pub record Checkpointing : Type 0 where
  pub answer : Answer ℕ
  pub entries : List ℕ
  pub transactions : List ℕ
  pub target : List ℕ

-- what a call gave back, with the buffers that it left
abbrev pub checkpointing : Result ℕ Refusal → List ℕ → List ℕ → List ℕ → Checkpointing
checkpointing r entries transactions target =
    record { answer = answer_of r; entries = entries; transactions = transactions; target = target }

-- "the highest committed number if above the stored one"; 10: "no committed number exceeds the stored one"
unfoldable pub advance_of : (highest stored : ℕ) → Answer ℕ
advance_of highest stored = cond (ltb stored highest) (accepted highest) (refused 10)

-- "writes its 8 bytes at the target's start, the rest unchanged"; a refusal leaves the target
abbrev pub target_after : Answer ℕ → List ℕ → List ℕ
target_after answer target = by_answer answer (λ _. target) (λ highest. sets target 0 (le_bytes 8 highest))

-- "With 10, the lists hold the recovery's results."
abbrev pub after_recovery : Answer ℕ → Recovering → (target : List ℕ) → Checkpointing
after_recovery answer r target =
    record { answer = answer; entries = r.entries; transactions = r.transactions; target = target_after answer target }

abbrev pub checkpoint_by : Recovering → LogRead → (stored target : List ℕ) → Checkpointing
checkpoint_by r log stored target =
    after_recovery (and_then r.answer (λ _. advance_of (highest_committed (transactions_of log.entries)) (checkpoint_at stored))) r target

-- 1: "a target for .. a checkpoint is too short for it"
unfoldable pub checkpoint_of : (area directory : List ℕ) → (used : ℕ) → (entries transactions stored target : List ℕ) → Checkpointing
checkpoint_of area directory used entries transactions stored target =
    cond (leb 8 (length target))
    (checkpoint_by (recover_of area directory used entries transactions) (read_log area (records_of used directory)) stored target)
    (record { answer = refused 1; entries = entries; transactions = transactions; target = target })

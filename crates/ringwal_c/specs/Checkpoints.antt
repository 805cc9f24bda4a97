-- Checkpoint and truncation as a C host has them.
-- Assumes nothing.
use Rattle.std.specs.Prelude.{◌≡◌, List, ℕ}
use Rattle.refusal.specs.Answer.{Answer}
use Rattle.recovery.specs.Checkpoint.{Checkpointing}
use Rattle.truncation.specs.Truncate.{Truncating}
use Rattle.truncation.specs.declared.Truncated as Below
use Rattle.ringwal_c.specs.Answers.{refusal_in, value_in}
use Rattle.ringwal_c.specs.declared.checkpoints.CheckpointAnswer.{CheckpointAnswer}
use Rattle.ringwal_c.specs.declared.checkpoints.TruncateAnswer.{TruncateAnswer}

-- ---- checkpoint

abbrev pub checkpoint_answer : Answer ℕ → CheckpointAnswer
checkpoint_answer answer = record { refusal = refusal_in answer; number = value_in answer (λ number. number) 0 }

pub record Checkpointed : Type 0 where
  pub answer : CheckpointAnswer
  pub entries : List ℕ
  pub transactions : List ℕ
  pub target : List ℕ

abbrev pub checkpointed : CheckpointAnswer → (entries transactions target : List ℕ) → Checkpointed
checkpointed answer entries transactions target =
    record { answer = answer; entries = entries; transactions = transactions; target = target }

abbrev pub checkpoint_for : Checkpointing → Checkpointed
checkpoint_for r = checkpointed (checkpoint_answer r.answer) r.entries r.transactions r.target

-- ---- truncation

abbrev pub truncate_answer : Answer Below.Truncated → TruncateAnswer
truncate_answer answer = record { refusal = refusal_in answer; count = value_in answer (λ (t : Below.Truncated). t.count) 0 }

-- a refusal leaves the used count alone
abbrev pub used_after : Answer Below.Truncated → (before : ℕ) → ℕ
used_after answer before = value_in answer (λ (t : Below.Truncated). t.used) before

pub record Truncated : Type 0 where
  pub answer : TruncateAnswer
  pub used : ℕ
  pub directory : List ℕ

abbrev pub truncated : TruncateAnswer → (used : ℕ) → (directory : List ℕ) → Truncated
truncated answer used directory = record { answer = answer; used = used; directory = directory }

abbrev pub truncate_for : Truncating → (used : ℕ) → Truncated
truncate_for r used = truncated (truncate_answer r.answer) (used_after r.answer used) r.directory

-- of the function inside: what was given back, for a host
pub record TruncatesAs (below : Answer Below.Truncated) (before : ℕ) (r : TruncateAnswer) (after : ℕ) : Type 0 where
  pub answer : r ≡ truncate_answer below
  pub used : after ≡ used_after below before

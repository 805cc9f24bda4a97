-- An answer as a C host has it, in numbers.
-- Assumes nothing.
use Rattle.std.specs.Prelude.{ℕ}
use Rattle.refusal.specs.Answer.{Answer, by_answer}

-- a refusal's number, 0 where there is none
abbrev pub refusal_in : {A : Type 0} → Answer A → ℕ
refusal_in answer = by_answer answer (λ number. number) (λ _. 0)

-- a value of an accepted call, else what was there before
abbrev pub value_in : {A : Type 0} → Answer A → (A → ℕ) → (before : ℕ) → ℕ
value_in answer value before = by_answer answer (λ _. before) value

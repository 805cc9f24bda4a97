-- What a call answers: document 01's number of its refusal, or the values of an accepted call. "A refused answer's counts are
-- all 0": it has no values.
-- Assumes nothing.
use Rattle.std.specs.Prelude.{ℕ}
use Rattle.std.specs.declared.result.Result.{Result}
use Rattle.std.specs.declared.result.Result.TheVariants.{Ok, Err}
use Rattle.refusal.specs.declared.Refusal.{Refusal}
use Rattle.refusal.specs.Number.{number_of}

pub data Answer (A : Type 0) : Type 0 where
  refused : (number : ℕ) → Answer A
  accepted : (values : A) → Answer A

-- what goes with a refusal, and what with an accepted call
abbrev pub by_answer : {A B : Type 0} → Answer A → (ℕ → B) → (A → B) → B
by_answer (refused number) refuse accept = refuse number
by_answer (accepted values) refuse accept = accept values

-- one answer after another: "The lowest number that applies is given", so the first refusal stands
abbrev pub and_then : {A B : Type 0} → Answer A → (A → Answer B) → Answer B
and_then (refused number) go = refused number
and_then (accepted values) go = go values

-- the answer of a test: nothing is refused
abbrev pub sound : Answer (Unit {0})
sound = accepted tt

-- a call's result in document 01's numbers
abbrev pub answer_of : {A : Type 0} → Result A Refusal → Answer A
answer_of (Ok values) = accepted values
answer_of (Err refusal) = refused (number_of refusal)

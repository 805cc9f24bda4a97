-- Laws of answers: what is accepted after another answer was accepted, and what `?` hands on.
-- Assumes nothing.
use mathlib.Core.Path.{◌≡◌, refl, ap}
use Prim.Native.Nat.{ℕ}
use native.Mathlib.Omega.{arith}
use Rattle.std.specs.Prelude.{IsErrAnd}
use Rattle.std.specs.declared.result.Result.{Result}
use Rattle.std.specs.declared.result.Result.TheVariants.{Ok, Err}
use Rattle.refusal.specs.Answer.{Answer, refused, accepted, by_answer, and_then}
use Rattle.refusal.specs.declared.Refusal.{Refusal}

-- a refusal is not an accepted call
pub never_both : {A B : Type 0} {n : ℕ} {x : A} → refused n ≡ accepted x → B
never_both e = let z : ◌≡◌ {A = ℕ} 0 1 = cc in absurd (omega arith)

-- the same answer, the same values
pub same_values : {A : Type 0} {x y : A} → accepted x ≡ accepted y → x ≡ y
same_values {A} {x} e = ap (λ (a : Answer A). by_answer a (λ _. x) (λ v. v)) e

pub same_number : {A : Type 0} {m n : ℕ} → ◌≡◌ {A = Answer A} (refused m) (refused n) → m ≡ n
same_number {A} {m} e = ap (λ (a : Answer A). by_answer a (λ k. k) (λ _. m)) e

pub record Both {A B : Type 0} (t : Answer A) (go : A → Answer B) (x : B) : Type 0 where
  pub values : A
  pub first : t ≡ accepted values
  pub second : go values ≡ accepted x

pub then_says : {A B : Type 0} (t : Answer A) (go : A → Answer B) (x : B) → and_then t go ≡ accepted x → Both t go x
then_says (refused n) go x e = never_both e
then_says (accepted values) go x e = record { values = values; first = refl; second = e }

-- by cases, with what the case says
pub by_cases : {A B : Type 0} (t : Answer A) → ((n : ℕ) → t ≡ refused n → B) → ((x : A) → t ≡ accepted x → B) → B
by_cases (refused n) f g = f n refl
by_cases (accepted x) f g = g x refl

-- what `?` hands on is the refusal itself
pub handed_on : {T : Type 0} {refusal : Refusal} (r : Result T Refusal) → IsErrAnd r (λ handed. handed ≡ refusal) → r ≡ Err refusal
handed_on (Ok value) h = absurd h
handed_on (Err handed) h = ap Err h

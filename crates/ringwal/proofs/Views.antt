-- Document 01's numbers and values lose nothing of an answer: two answers with the same number and values are equal.
-- Assumes nothing.
use mathlib.Core.Path.{◌≡◌, refl, sym, ap, ◌∙◌}
use mathlib.Core.Bool.{cond}
use mathlib.Core.List.{List}
use Prim.Native.Nat.{ℕ}
use lib.Dec.{eqb}
use Rattle.std.specs.declared.result.Result.{Result}
use Rattle.std.specs.declared.result.Result.TheVariants.{Ok, Err}
use Rattle.refusal.specs.Number.{number_of}
use Rattle.refusal.specs.Answer.{Answer, by_answer, answer_of}
use Rattle.refusal.specs.declared.Refusal.{Refusal}
use Rattle.refusal.specs.declared.Refusal.TheVariants.{InvalidBuffer, InvalidDirectory, InvalidEntry, NoNextSegmentId, NoRoom, EntryListFull, TransactionsFull, ExceedsTableRecord, TableFull, NoNewCheckpoints}
use Rattle.segment.specs.Writing as Writing
use Rattle.segment.specs.Writing.{OpenedLog, Log}
use Rattle.segment.specs.declared.Opening.{Opening}
use Rattle.segment.specs.declared.Appending.{Appending}

-- the refusal of a number
abbrev refusal_of : ℕ → Refusal
refusal_of n =
    cond (eqb n 1) InvalidBuffer
    (cond (eqb n 2) InvalidDirectory
    (cond (eqb n 3) InvalidEntry
    (cond (eqb n 4) NoNextSegmentId
    (cond (eqb n 5) NoRoom
    (cond (eqb n 6) EntryListFull
    (cond (eqb n 7) TransactionsFull
    (cond (eqb n 8) ExceedsTableRecord
    (cond (eqb n 9) TableFull NoNewCheckpoints))))))))

refusal_is : (r : Refusal) → refusal_of (number_of r) ≡ r
refusal_is InvalidBuffer = refl
refusal_is InvalidDirectory = refl
refusal_is InvalidEntry = refl
refusal_is NoNextSegmentId = refl
refusal_is NoRoom = refl
refusal_is EntryListFull = refl
refusal_is TransactionsFull = refl
refusal_is ExceedsTableRecord = refl
refusal_is TableFull = refl
refusal_is NoNewCheckpoints = refl

-- an answer's view has a way back
abbrev result_of : {A : Type 0} → Answer A → Result A Refusal
result_of answer = by_answer answer (λ number. Err (refusal_of number)) Ok

result_is : {A : Type 0} (x : Result A Refusal) → result_of (answer_of x) ≡ x
result_is (Ok values) = refl
result_is (Err refusal) = ap Err (refusal_is refusal)

-- so it is one to one
pub answer_once : {A : Type 0} {x y : Result A Refusal} → answer_of x ≡ answer_of y → x ≡ y
answer_once {A} {x} {y} e = sym (result_is x) ∙ (ap result_of e ∙ result_is y)

-- ---- the writer

pub opening_once : (r s : Opening) {d e : List ℕ} → Writing.opened r d ≡ Writing.opened s e → r ≡ s
opening_once r s p =
    let answers : r.answer ≡ s.answer = answer_once (ap (λ (l : OpenedLog). l.answer) p) in
    λ i. record { manager = (p i).manager; answer = answers i }

pub appending_once : (r s : Appending) {a b d e : List ℕ} → Writing.appended r a d ≡ Writing.appended s b e → r ≡ s
appending_once r s p =
    let answers : r.answer ≡ s.answer = answer_once (ap (λ (l : Log). l.answer) p) in
    λ i. record { manager = (p i).manager; answer = answers i }

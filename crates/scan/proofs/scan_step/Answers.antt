-- `scan_step` meets its contract: each answer by the tests that led to it.
-- Assumes nothing.
use mathlib.Core.Path.{◌≡◌, sym, ap, ◌∙◌}
use Prim.Native.Nat.{ℕ, ◌-◌, ◌≤◌}
use mathlib.Core.List.{List}
use mathlib.Core.Bool.{Bool, true}
use Rattle.header.specs.declared.WalEntryHeader.{WalEntryHeader}
use native.Mathlib.Omega.{arith}
use borrow.Author.Tests.{leb-true, leb-false}
use lib.Dec.{leb}
use lib.ListN.{length, take, drop, length-drop}
use lib.Seq.{take_all}
use Rattle.header.specs.Header.{header_at}
use Rattle.scan.specs.Step.{step_at}
use Rattle.scan.proofs.Steps.{payload_at, from_end, from_short, from_beyond, from_whole}
use Rattle.scan.proofs.scan_step.Goals as goal

pub returns-then-segment-at : goal.returns-then-segment-at
unfolding step_at
returns-then-segment-at c = sym (from_end _ _ (omega arith))

pub returns-then-left-lt-SIZE : goal.returns-then-left-lt-SIZE
unfolding step_at
returns-then-left-lt-SIZE c = sym (from_short _ _ (omega arith) (omega arith))

-- the header that was read, and whether its payload lies in what is left
header : (s : List ℕ) (at : ℕ) (h : WalEntryHeader) → h ≡ header_at (take (length s - at) (drop at s)) → h ≡ header_at (drop at s)
header s at h e =
    let n : length (drop at s) ≤ length s - at = rw length-drop (omega arith) in
    e ∙ ap header_at (take_all (length s - at) (drop at s) n)

lies : (s : List ℕ) (at : ℕ) (h : WalEntryHeader) (t : Bool) → h ≡ header_at (take (length s - at) (drop at s)) → t ≡ leb h.length (length s - at - 13) → t ≡ leb (payload_at s at).len (length s - at - 13)
lies s at h t e l = rw (← header s at h e) l

pub returns-then-not-has : goal.returns-then-not-has
unfolding step_at
returns-then-not-has c =
    sym (from_beyond _ _ c.if-left-lt-SIZE.false (leb-false _ _ (sym (lies c.args.segment.now c.args.at _ _ c.read-header.ensures c.has.ensures) ∙ c.if-not-has.true)))

fits : (s : List ℕ) (at : ℕ) (h : WalEntryHeader) (t : Bool) → h ≡ header_at (take (length s - at) (drop at s)) → t ≡ leb h.length (length s - at - 13) → t ≡ true → (payload_at s at).len ≤ length s - at - 13
fits s at h t e l k = leb-true _ _ (sym (lies s at h t e l) ∙ k)

pub returns : goal.returns
unfolding step_at
returns c =
    let f = fits c.args.segment.now c.args.at _ _ c.read-header.ensures c.has.ensures c.if-not-has.false in
    rw (header c.args.segment.now c.args.at _ c.read-header.ensures) at c.judge_at.ensures ∙ sym (from_whole _ _ c.if-left-lt-SIZE.false f)

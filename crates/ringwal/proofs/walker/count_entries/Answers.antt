-- `count_entries` meets its contract. The invariant: the entries met so far and those that are left are the segment's.
use mathlib.Core.Path.{◌≡◌, sym, ap, ◌∙◌}
use native.Mathlib.Omega.{arith}
use Rattle.entry.specs.Decode.{end_of}
use Rattle.scan.specs.Step.{step_at}
use Rattle.scan.specs.declared.Step.{Step}
use Rattle.scan.specs.declared.Step.TheVariants.{Entry}
use Rattle.scan.proofs.Steps.{step_entry}
use Rattle.recovery.proofs.Ends.{not_entry}
use Rattle.ringwal.specs.Walker.{offset_after, stepped}
use Rattle.ringwal.specs.declared.walker.SegmentWalker.{SegmentWalker}
use Rattle.ringwal.proofs.Walks.{counting_starts, counting_on, counting_fits, counting_ends}
use borrow.Author.Rules.{rules}
use Rattle.ringwal.proofs.walker.count_entries.Goals as goal

pub loop-count-init : goal.loop-count-init
loop-count-init c = (rw c.new-walker.ensures.1 (counting_starts _), rw c.new-walker.ensures.0)

-- what stands at the offset, and where the walk goes on
stepping : (c : goal.In-Entry) → step_at c.args.segment.now c.loop-count.walker.at ≡ Entry c.in-Entry.entry c.in-Entry.payload
stepping c = rw c.loop-count.invariant.1 at (sym c.step.ensures.0 ∙ c.in-Entry.is)

going : (c : goal.In-Entry) → c.step.new.self.at ≡ end_of c.in-Entry.payload
unfolding stepped
going c =
    ap (λ (w : SegmentWalker). w.at) c.step.ensures.1
    ∙ ap (λ (s : Step). offset_after s c.loop-count.walker.at) (sym c.step.ensures.0 ∙ c.in-Entry.is)

pub overflow_add-count : goal.overflow_add-count
overflow_add-count c = record { fits = counting_fits _ _ _ c.loop-count.invariant.0 _ _ (stepping c) (search rules) }

pub loop-count-smaller : goal.loop-count-smaller
loop-count-smaller c = let t = step_entry _ _ _ _ (stepping c) in omega (arith, t.end, t.start, going c)

pub loop-count-preserved : goal.loop-count-preserved
unfolding stepped
loop-count-preserved c = (
  rw (going c) (counting_on _ _ _ c.loop-count.invariant.0 _ _ (stepping c)),
  ap (λ (w : SegmentWalker). w.segment.now) c.step.ensures.1 ∙ c.loop-count.invariant.1,
)

pub returns : goal.returns
returns c =
    let l = c.loop-count in
    let n = not_entry c.step.result c.in_default.not-Entry in
    counting_ends _ l.walker.at l.count l.invariant.0 (rw l.invariant.1 at (rw c.step.ensures.0 at n))

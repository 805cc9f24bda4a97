-- The theorems, applied to the worked instances of the specs; and by them what recovery answers there.
-- Assumes nothing.
use Prim.Native.Nat.{ℕ}
use mathlib.Core.Path.{◌≡◌, ap, ◌∙◌}
use mathlib.Core.List.{List, [], ◌∷◌}
use Rattle.refusal.specs.Answer.{accepted}
use Rattle.recovery.specs.Recover as Recovers
use Rattle.recovery.specs.Recover.{recovered_of}
use Rattle.recovery.specs.declared.Next.TheVariants.{Number}
use Rattle.table.specs.Row.{row_of}
use Rattle.table.specs.Table.{table_of}
use Rattle.crash.specs.Request.{Written}
use Rattle.crash.specs.Life.{Held, cut_by}
use Rattle.crash.specs.Crash.{Lent, recovering, replaying, read_as, Follows, cut_of, Demand3, AnyHistory}
use Rattle.crash.specs.Kept.{kept_by}
use Rattle.crash.specs.Operator.{Relies, NoTrace}
use Rattle.crash.specs.Words.{numbers}
use Rattle.crash.specs.Example.{story}
use Rattle.crash.proofs.Example.{computed, given}
use Rattle.crash.specs.TwoCuts.{later, earlier}
use Rattle.crash.proofs.TwoCuts.{later_so, later_lived, earlier_so, earlier_lived}
use Rattle.crash.proofs.Orders.{table_is}
use Rattle.crash.proofs.Crash.{demand_3, any_history}
use Rattle.crash.proofs.Operator.{cut_relies, no_trace}

-- one run and one cut
pub story_follows : Demand3 story
story_follows = demand_3 story given

-- two cuts, and both tears stay
pub later_follows : AnyHistory later
later_follows = any_history later later_lived

-- two cuts, and the first tear is gone
pub earlier_follows : AnyHistory earlier
earlier_follows = any_history earlier earlier_lived

-- what an operator relies on, of the cut one
pub story_relies : Relies (replaying (cut_by story.cut story.log).held story.lent).table (kept_by (cut_of story) story.log.entries) story_follows.order
story_relies = cut_relies story given story_follows

pub story_no_trace : NoTrace story
story_no_trace = no_trace story given

-- ---- the numbers and the tables

module _ (h : Held) (kept : List Written) (partial : ℕ) (lent : Lent) (f : Follows h kept partial lent) where
  answer_is : (recovering h lent).answer ≡ accepted (recovered_of (read_as kept partial))
  answer_is = ap (λ (r : Recovers.Recovering). r.answer) f.recovery ∙ ap accepted f.others

pub story_answer : (recovering (cut_by story.cut story.log).held story.lent).answer ≡ numbers 10 4 2 1 1 1 0 (Number 5)
story_answer = answer_is _ _ _ story.lent story_follows ∙ computed.answer

pub earlier_answer : (recovering earlier.log.held earlier.lent).answer ≡ numbers 4 2 2 0 0 1 0 (Number 3)
earlier_answer = answer_is _ _ _ earlier.lent earlier_follows ∙ earlier_so.answer

pub story_table : (replaying (cut_by story.cut story.log).held story.lent).table ≡ table_of 960 (row_of (97 ∷ []) (2 ∷ []) ∷ row_of (99 ∷ []) (1 ∷ []) ∷ [])
story_table = table_is _ _ _ story.lent story_follows ∙ ap (table_of 960) (rw computed.order computed.rows)

pub later_table : (replaying later.log.held later.lent).table ≡ table_of 640 (row_of (97 ∷ []) (1 ∷ []) ∷ row_of (98 ∷ []) (3 ∷ []) ∷ [])
later_table = table_is _ _ _ later.lent later_follows ∙ ap (table_of 640) (rw later_so.order later_so.rows)

pub earlier_table : (replaying earlier.log.held earlier.lent).table ≡ table_of 640 (row_of (97 ∷ []) (1 ∷ []) ∷ row_of (98 ∷ []) (5 ∷ []) ∷ [])
earlier_table = table_is _ _ _ earlier.lent earlier_follows ∙ ap (table_of 640) (rw earlier_so.order earlier_so.rows)

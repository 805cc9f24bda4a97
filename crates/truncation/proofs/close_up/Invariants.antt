-- `close_up` meets its contract. The invariant: the kept records that are left, stored behind those that stand closed up,
-- make what all of them make at the front.
-- Assumes nothing.
use Rattle.truncation.proofs.Closing.{Closing}
use Rattle.truncation.proofs.close_up.Given as goal

abbrev pub invariant-loop-k : goal.invariant-loop-k
invariant-loop-k l = Closing l.area l.initial.directory l.used l.checkpoint l.directory l.kept l.k

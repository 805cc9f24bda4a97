-- `read_log` meets its contract. The invariant: what is left of the log, read into the lists as they stand, comes to the whole
-- log read into the lists at entry.
-- Assumes nothing.
use Rattle.recovery.specs.Reach.{reached, unread}
use Rattle.recovery.proofs.Reaches.{ReadingOn}
use Rattle.recovery.proofs.read.read_log.Given as goal

abbrev pub invariant-loop-k : goal.invariant-loop-k
invariant-loop-k l =
    ReadingOn (reached l.initial.entries l.initial.transactions unread) (reached l.entries l.transactions l.progress) l.area l.directory l.used l.k

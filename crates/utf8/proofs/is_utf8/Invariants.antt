-- `utf8::is_utf8` meets its contract. The loop's invariant: testing the octets left, from the state now, is testing all.
use mathlib.Core.Path.{◌≡◌}
use lib.ListN.{length}
use Rattle.utf8.specs.Grammar.{completes, is_utf8}
use Rattle.utf8.specs.State.{ranges_of}
use Rattle.utf8.proofs.is_utf8.Given as goal

abbrev pub invariant-loop-b : goal.invariant-loop-b
invariant-loop-b l = completes (ranges_of l.s) l.rest ≡ is_utf8 l.bytes

abbrev pub decreases-loop-b : goal.decreases-loop-b
decreases-loop-b l = length l.rest

-- `bench_panel::command::read` is safe and ends: no more words are kept than there are places.
-- Assumes nothing.
use Rattle.std.proofs.Common.{◌≡◌, ◌≤◌, length}
use Rattle.bench_panel.proofs.command.read.Given as goal

abbrev pub invariant-loop-word : goal.invariant-loop-word
invariant-loop-word l = (length l.words ≡ 8) × (l.count ≤ 8)

-- `records::moves::move_bytes_down` meets its contract. The invariant: the bytes that are left, moved in the list as it stands,
-- are all of them moved in the list at entry.
-- Assumes nothing.
use Rattle.std.proofs.Common.{◌≡◌, ◌+◌, ◌-◌, take, drop}
use lib.Seq.{sets}
use Rattle.records.proofs.moves.move_bytes_down.Given as goal

abbrev pub invariant-loop-i : goal.invariant-loop-i
invariant-loop-i l =
    sets l.s (l.at + l.i) (take (l.len - l.i) (drop (l.at + l.by + l.i) l.s)) ≡ sets l.initial.s l.at (take l.len (drop (l.at + l.by) l.initial.s))

-- `last_used` meets its contract: the last used record, whose end lies in the area.
-- Assumes nothing.
use mathlib.Core.Path.{ap}
use native.Mathlib.Omega.{arith}
use Rattle.directory.specs.Record.{end_of}
use Rattle.directory.proofs.Sound.{sound_ends}
use Rattle.plan.specs.Plan.{last_in}
use Rattle.plan.proofs.last_used.Goals as goal

pub returns-in_err-checked_sub : goal.returns-in_err-checked_sub
unfolding last_in
returns-in_err-checked_sub c = grind arith

pub after-requires : goal.after-requires
after-requires c =
    let h = sound_ends c.args.area_len c.args.directory.now c.args.used c.requires c.in_ok-checked_sub.field-0 (grind arith) in
    omega (arith, ap end_of c.record_at-segment.ensures)

pub returns : goal.returns
unfolding last_in
returns c = grind arith

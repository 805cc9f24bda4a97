-- `chains::chain::link_one` meets its contract: by what was found.
-- Assumes nothing.
use Rattle.chains.specs.Link.{link_one}
use Rattle.chains.proofs.chain.link_one.Goals as goal

pub returns-in-Ok : goal.returns-in-Ok
unfolding link_one
returns-in-Ok c =
    rw (← c.entry_at-number.ensures, ← c.find.ensures, c.in-Ok.is, c.put_spare_of-in-Ok.ensures, c.put_spare_of.ensures, c.spare_of-first.ensures)

pub returns-in_default : goal.returns-in_default
unfolding link_one
returns-in_default c = rw (← c.entry_at-number.ensures, ← c.find.ensures, c.in_default.is)

-- `directory::lent::Lent::fits` meets its contract: the two tests are the two of the definition.
-- Assumes nothing.
use native.Mathlib.Omega.{arith}
use Rattle.directory.specs.Lent.{fits_of}
use Rattle.directory.proofs.lent.Lent.fits.Goals as goal

pub returns-then-len-size-eq0 : goal.returns-then-len-size-eq0
unfolding fits_of
returns-then-len-size-eq0 c = grind arith

pub returns-else-len-size-eq0 : goal.returns-else-len-size-eq0
unfolding fits_of
returns-else-len-size-eq0 c = grind arith

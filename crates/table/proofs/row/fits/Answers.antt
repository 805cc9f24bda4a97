-- `table::row::fits` meets its contract: both parts are short enough.
-- Assumes nothing.
use native.Mathlib.Omega.{arith}
use borrow.Author.Tests.{le-leb, lt-leb}
use lib.ListN.{length}
use Rattle.table.specs.Row.{fits}
use Rattle.table.proofs.row.fits.Goals as goal

pub returns-then-key-le-KEY_MOST : goal.returns-then-key-le-KEY_MOST
unfolding fits
returns-then-key-le-KEY_MOST c =
    let a = c.args in
    rw (le-leb (length a.key.now) 64 (omega arith))

pub returns-else-key-le-KEY_MOST : goal.returns-else-key-le-KEY_MOST
unfolding fits
returns-else-key-le-KEY_MOST c =
    let a = c.args in
    rw (lt-leb (length a.key.now) 64 (omega arith))

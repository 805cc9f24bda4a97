-- `table::change::set` meets its contract: by whether the row fits, and then by what was found.
-- Assumes nothing.
use mathlib.Core.Path.{sym, ◌∙◌}
use native.Mathlib.Omega.{arith}
use Rattle.table.specs.Change.{set_of}
use Rattle.table.proofs.Rows.{fits_true}
use Rattle.table.proofs.Within.{found_at, found_gap}
use Rattle.table.proofs.change.set.Goals as goal

pub returns-then-not-fits : goal.returns-then-not-fits
unfolding set_of
returns-then-not-fits c = rw (← c.fits.ensures, c.if-not-fits.true)

pub put_row-requires : goal.put_row-requires
put_row-requires c =
    let a = c.args in
    (omega (arith, found_at a.table.now a.n a.key.now _ (sym c.find.ensures ∙ c.in-Ok.is)), fits_true _ (sym c.fits.ensures ∙ c.if-not-fits.false))

pub insert_at-requires : goal.insert_at-requires
insert_at-requires c =
    let a = c.args in
    (omega (arith, found_gap a.table.now a.n a.key.now _ (sym c.find.ensures ∙ c.in-Err.is)), fits_true _ (sym c.fits.ensures ∙ c.if-not-fits.false))

pub returns-in-Ok : goal.returns-in-Ok
unfolding set_of
returns-in-Ok c = rw (← c.fits.ensures, c.if-not-fits.false, ← c.find.ensures, c.in-Ok.is, c.put_row.ensures, ← c.used_in-used.ensures)

pub returns-in-Err : goal.returns-in-Err
unfolding set_of
returns-in-Err c = rw (← c.fits.ensures, c.if-not-fits.false, ← c.find.ensures, c.in-Err.is, ← c.used_in-used.ensures) c.insert_at.ensures

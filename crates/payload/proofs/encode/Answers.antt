-- `encode` meets its contract: arm by arm, what the kind asks for.
-- Assumes nothing.
use mathlib.Core.Path.{◌≡◌}
use mathlib.Core.Logic.{⊎_elim}
use Rattle.std.proofs.lemmas.Result.{err_from_is_err_and}
use Rattle.payload.specs.declared.kind.Kind.TheVariants.{Insert, Update, Delete, Commit, Abort}
use Rattle.payload.proofs.Laws.{unknown, refused, put_answers, parts_fit}
use Rattle.payload.proofs.encode.Goals as goal

pub returns-in_err-kind : goal.returns-in_err-kind
returns-in_err-kind c =
    let a = c.args in
    let p = err_from_is_err_and c.from_residual.result c.from_residual.ensures.1 in
    rw (p.1, p.2)
    (refused _ _ _ _ (unknown a.kind a.key.now a.old_value.now a.new_value.now c.in_err-kind.ensures.1))

pub returns-then-not-fits : goal.returns-then-not-fits
returns-then-not-fits c =
    let f = c.fits in
    refused _ _ _ _ (rw (f.ensures, c.in_ok-kind.ensures) at c.if-not-fits.true)

pub put-requires : goal.put-requires
put-requires c =
    let f = c.fits in
    parts_fit Insert c.args.key c.args.old_value c.args.new_value (rw (f.ensures, c.in-Insert.is) at c.if-not-fits.false)

pub put-requires-in-Update : goal.put-requires-in-Update
put-requires-in-Update c =
    let f = c.fits in
    parts_fit Update c.args.key c.args.old_value c.args.new_value (rw (f.ensures, c.in-Update.is) at c.if-not-fits.false)

pub put-requires-in-Delete : goal.put-requires-in-Delete
put-requires-in-Delete c =
    let f = c.fits in
    parts_fit Delete c.args.key c.args.old_value c.args.new_value (rw (f.ensures, c.in-Delete.is) at c.if-not-fits.false)

pub returns-in-Insert : goal.returns-in-Insert
returns-in-Insert c =
    let a = c.args in
    let f = c.fits in
    let k = c.in-Insert.is in
    put_answers a.tx_id a.timestamp a.key a.old_value a.new_value _ _ _ Insert _ (rw k at c.in_ok-kind.ensures) (rw (f.ensures, k) at c.if-not-fits.false) (rw k at c.put.ensures)

pub returns-in-Update : goal.returns-in-Update
returns-in-Update c =
    let a = c.args in
    let f = c.fits in
    let k = c.in-Update.is in
    put_answers a.tx_id a.timestamp a.key a.old_value a.new_value _ _ _ Update _ (rw k at c.in_ok-kind.ensures) (rw (f.ensures, k) at c.if-not-fits.false) (rw k at c.put-in-Update.ensures)

pub returns-in-Delete : goal.returns-in-Delete
returns-in-Delete c =
    let a = c.args in
    let f = c.fits in
    let k = c.in-Delete.is in
    put_answers a.tx_id a.timestamp a.key a.old_value a.new_value _ _ _ Delete _ (rw k at c.in_ok-kind.ensures) (rw (f.ensures, k) at c.if-not-fits.false) (rw k at c.put-in-Delete.ensures)

pub returns-in-Commit : goal.returns-in-Commit
returns-in-Commit c =
    let a = c.args in
    let f = c.fits in
    ⊎_elim
    (λ (k : c.in_ok-kind.kind ≡ Commit). put_answers a.tx_id a.timestamp a.key a.old_value a.new_value _ _ _ Commit _ (rw k at c.in_ok-kind.ensures) (rw (f.ensures, k) at c.if-not-fits.false) (rw k at c.put-in-Commit.ensures))
    (λ (k : c.in_ok-kind.kind ≡ Abort). put_answers a.tx_id a.timestamp a.key a.old_value a.new_value _ _ _ Abort _ (rw k at c.in_ok-kind.ensures) (rw (f.ensures, k) at c.if-not-fits.false) (rw k at c.put-in-Commit.ensures))
    c.in-Commit.is

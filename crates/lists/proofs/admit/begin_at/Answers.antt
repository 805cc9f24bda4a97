-- `lists::admit::begin_at` meets its contract: the records behind make room, and the new one is written.
-- Assumes nothing.
use Rattle.std.proofs.Common.{◌∙◌, arith, le-leb}
use borrow.Author.Tests.{lt-leb}
use Rattle.records.proofs.Dense.{made_room}
use Rattle.lists.specs.Admit.{begin_of}
use Rattle.lists.proofs.admit.begin_at.Goals as goal

pub returns-then-transactions-n : goal.returns-then-transactions-n
unfolding begin_of
returns-then-transactions-n c = rw (le-leb _ _ c.if-transactions-n.true)

pub returns : goal.returns
unfolding begin_of
returns c =
    let a = c.args in
    let m = c.move_up.ensures ∙ made_room 24 a.transactions.now a.n a.k (omega arith) (omega arith) in
    rw (lt-leb _ _ c.if-transactions-n.false, c.put_transaction.ensures, c.begun.ensures, m)

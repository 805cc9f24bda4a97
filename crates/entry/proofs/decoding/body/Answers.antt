-- `body` meets its contract: the kind picks the case.
-- Assumes nothing.
use Rattle.std.proofs.Common.{rules}
use Rattle.payload.specs.Kind.{by_kind}
use Rattle.entry.specs.declared.WalEntry.TheVariants.{Insert, Delete}
use Rattle.entry.proofs.Places.{made}
use Rattle.entry.proofs.decoding.body.Goals as goal

pub returns-in-Insert : goal.returns-in-Insert
unfolding by_kind
returns-in-Insert c =
    let a = c.args in
    let k = c.key_and_part in
    rw c.in-Insert.is (made a.payload.now (Insert a.tx_id a.timestamp) k.result k.ensures (λ key part w m. search rules))

pub returns-in-Delete : goal.returns-in-Delete
unfolding by_kind
returns-in-Delete c =
    let a = c.args in
    let k = c.key_and_part-in-Delete in
    rw c.in-Delete.is (made a.payload.now (Delete a.tx_id a.timestamp) k.result k.ensures (λ key part w m. search rules))

pub returns-in-Update : goal.returns-in-Update
unfolding by_kind
returns-in-Update c = rw c.in-Update.is c.update.ensures

pub returns-in-Commit : goal.returns-in-Commit
unfolding by_kind
returns-in-Commit c = rw c.in-Commit.is

pub returns-in-Abort : goal.returns-in-Abort
unfolding by_kind
returns-in-Abort c = rw c.in-Abort.is

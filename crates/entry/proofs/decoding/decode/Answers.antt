-- `decode` meets its contract: the kind picks the case.
-- Assumes nothing.
use mathlib.Core.Path.{◌∙◌}
use borrow.Author.Tests.{le-leb, lt-leb}
use Rattle.entry.specs.Decode.{decode_of}
use Rattle.payload.proofs.Laws.{by_other}
use Rattle.entry.proofs.Places.{known_kind, unknown_kind}
use Rattle.entry.proofs.decoding.decode.Goals as goal

pub returns-then-payload-lt-FIXED : goal.returns-then-payload-lt-FIXED
unfolding decode_of
returns-then-payload-lt-FIXED c = rw (lt-leb _ _ c.if-payload-lt-FIXED.true)

pub returns-in_err-kind : goal.returns-in_err-kind
unfolding decode_of
returns-in_err-kind c =
    c.from_residual.ensures
    ∙ rw (le-leb _ _ c.if-payload-lt-FIXED.false, ← c.get_le.ensures, by_other _ _ _ _ _ _ _ (unknown_kind _ _ c.try_from.ensures c.in_err-kind.ensures.value))

pub returns : goal.returns
unfolding decode_of
returns c =
    rw (le-leb _ _ c.if-payload-lt-FIXED.false, ← c.get_le.ensures, ← c.get_u64-tx_id.ensures, ← c.get_u64-timestamp.ensures, ← known_kind _ _ c.try_from.ensures c.in_ok-kind.ensures.value)
    c.body.ensures

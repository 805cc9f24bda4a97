-- `key_at` meets its contract: a key is a part whose bytes are UTF-8.
-- Assumes nothing.
use mathlib.Core.Path.{sym, ◌∙◌}
use Rattle.entry.specs.Decode.{key_at}
use Rattle.entry.proofs.Places.{keyed}
use Rattle.entry.proofs.decoding.key_at.Goals as goal

pub returns-in_err-key : goal.returns-in_err-key
unfolding key_at
returns-in_err-key c = c.from_residual.ensures ∙ rw (← c.in_err-key.ensures)

pub returns : goal.returns
returns c =
    let u = rw c.part.ensures at c.is_utf8.ensures in
    c.then_some.ensures ∙ sym (keyed _ _ _ _ (sym c.in_ok-key.ensures) (sym u))

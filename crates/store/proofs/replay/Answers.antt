-- `replay` meets its contract: linked, run, and unlinked.
-- Assumes nothing.
use mathlib.Core.Path.{sym, ap, ◌∙◌}
use Prim.Native.Nat.{ℕ}
use native.Mathlib.Omega.{arith}
use lib.ListN.{replicate}
use lib.Seq.{length-take-le}
use Rattle.chains.specs.Link.{Lent}
use Rattle.store.proofs.Listings.{lent_linked, lent_ran, unlinked}
use Rattle.store.proofs.replay.Goals as goal

pub apply_transactions-set-requires : goal.apply_transactions-set-requires
apply_transactions-set-requires c = (lent_linked _ _ _ _ _ c.requires _ _ c.link.ensures, c.clear.ensures ∙ ap (λ (v : ℕ). replicate v 0) (sym c.clear.auto.s))

pub returns : goal.returns
returns c =
    let u = unlinked _ _ _ _ _ c.requires _ _ c.link.ensures _ _ c.unlink.ensures in
    record {
      entries_stay = ap (λ (v : Lent). v.entries) u;
      transactions_stay = ap (λ (v : Lent). v.transactions) u;
      runs = lent_ran _ _ _ _ _ c.requires _ _ c.link.ensures _ _ c.clear.auto.s _ c.apply_transactions-set.ensures;
    }

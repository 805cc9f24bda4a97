-- `recover_tested` meets its contract: the log is read into cleared lists.
-- Assumes nothing.
use mathlib.Core.Path.{◌∙◌}
use Rattle.recovery.proofs.Concludes.{recovers}
use Rattle.recovery.proofs.recover_tested.Goals as goal

pub returns : goal.returns
returns c =
    c.concluded.ensures
    ∙ recovers _ _ _ _ _ _ _ _ _ _ (λ i. (c.type_inv.area i).fits) c.requires c.clear.ensures c.clear-2.ensures c.read_log-progress.ensures

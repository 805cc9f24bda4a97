-- `names::unsigned` meets its contract.
-- Assumes nothing.
use mathlib.Core.Path.{refl, ap, ◌∙◌}
use denote.Ref.{Bor}
use mathlib.Core.List.{List}
use Prim.Native.Nat.{ℕ}
use Rattle.names.proofs.Numerals.{plus_says}
use Rattle.names.proofs.unsigned.Goals as goal

pub returns : goal.returns
returns c = ap (λ (x : Bor (List ℕ)). x.now) c.unwrap_or.ensures ∙ plus_says c.args.text c.args.text.now c.strip_prefix.result refl c.strip_prefix.ensures.cases

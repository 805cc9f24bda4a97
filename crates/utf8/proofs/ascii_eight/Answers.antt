-- `utf8::ascii_eight` meets its contract.
use native.Mathlib.Omega.{arith}
use Rattle.utf8.proofs.Ascii.{ascii_eight}
use Rattle.utf8.proofs.ascii_eight.Goals as goal

pub returns : goal.returns
returns c = ascii_eight c.args.s.now (omega arith)

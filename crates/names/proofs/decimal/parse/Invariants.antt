-- `names::decimal::parse` meets its contract. The invariant: the bytes that are left, read after v, are the whole text's number.
-- Assumes nothing.
use Rattle.std.specs.Prelude.{◌≡◌, ◌<◌, ◌^◌, drop}
use Rattle.names.specs.Decimal.{number_after, number_in}
use Rattle.names.proofs.decimal.parse.Given as goal

abbrev pub invariant-loop-byte : goal.invariant-loop-byte
invariant-loop-byte l = (l.v < 2 ^ 64) × (number_after l.v (drop l.byte-index l.text) ≡ number_in l.text)

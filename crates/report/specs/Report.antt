-- Document 01, "Names": what the program tells.
-- Assumes nothing.
use Rattle.std.specs.Prelude.{ℕ, cond, List, [], ◌∷◌, leb, length}
use Rattle.recovery.specs.Log.{read_log, whole}
use Rattle.recovery.specs.Recover.{recovered_of}
use Rattle.recovery.specs.declared.Recovered.{Recovered}
use Rattle.refusal.specs.Answer.{Answer, refused, accepted}

-- "The program reads one segment from standard input, up to 65,536 bytes, else prints `refused 1`."
unfoldable pub report_of : List ℕ → Answer Recovered
report_of segment =
    cond (leb (length segment) 65_536) (accepted (recovered_of (read_log segment (whole segment ∷ [])))) (refused 1)

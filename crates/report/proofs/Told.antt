-- A recovery with the program's buffers tells what the program is to tell.
-- Assumes nothing.
use mathlib.Core.Path.{◌≡◌, ap, ◌∙◌}
use mathlib.Core.List.{List, [], ◌∷◌}
use Prim.Native.Nat.{ℕ, ◌*◌, ◌≤◌}
use borrow.Author.Tests.{le-leb}
use Rattle.std.specs.declared.result.Result.{Result}
use lib.ListN.{length, replicate, length-replicate}
use lib.Seq.{sets}
use Rattle.fields.proofs.Stores.{sets_all}
use Rattle.directory.specs.Record.{record_bytes}
use Rattle.directory.proofs.Records.{length_record}
use Rattle.recovery.specs.Log.{read_log, whole}
use Rattle.recovery.specs.Recover.{Recovering, recovering, listing, recover_of}
use Rattle.recovery.specs.declared.Recovered.{Recovered}
use Rattle.recovery.proofs.Enough.{report_enough}
use Rattle.refusal.specs.declared.Refusal.{Refusal}
use Rattle.refusal.specs.Answer.{answer_of}
use Rattle.report.specs.Report.{report_of}

pub told : (segment directory es ts : List ℕ) (r : Result Recovered Refusal) → length segment ≤ 65_536 → directory ≡ sets (replicate 24 0) 0 (record_bytes (whole segment)) → recovering r es ts ≡ recover_of segment directory 1 (replicate (32 * 1_985) 0) (replicate (24 * 1_985) 0) → answer_of r ≡ report_of segment
unfolding report_of
told segment directory es ts r h d e =
    let E = replicate {A = ℕ} (32 * 1_985) 0 in
    let T = replicate {A = ℕ} (24 * 1_985) 0 in
    let only = d ∙ sets_all (replicate {A = ℕ} 24 0) (record_bytes (whole segment)) (length_record (whole segment)) in
    let a : recovering r es ts ≡ listing (read_log segment (whole segment ∷ [])) (length E) (length T) = e ∙ rw only (report_enough segment E T h (length-replicate {A = ℕ} (32 * 1_985) 0) (length-replicate {A = ℕ} (24 * 1_985) 0)) in
    rw (le-leb _ _ h) (ap (λ (x : Recovering). x.answer) a)

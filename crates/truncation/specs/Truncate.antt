-- Document 01, "Recovery": "Truncation drops every directory record but the last whose segment's highest number m has
-- 0 < m < checkpoint."
-- Assumes nothing.
use Rattle.std.specs.Prelude.{Bool, cond, ◌&&◌, List, [], ◌∷◌, ◌++◌, ℕ, ◌-◌, ◌*◌, ltb, length, replicate}
use Rattle.std.proofs.lemmas.List.Edits.{sets}
use Rattle.std.specs.declared.result.Result.{Result}
use Rattle.refusal.specs.Answer.{Answer, refused, accepted, by_answer, answer_of}
use Rattle.records.specs.Dense.{bytes_of}
use Rattle.scan.specs.Highest.{highest_of}
use Rattle.directory.specs.Image.{segment_bytes}
use Rattle.directory.specs.Record.{records_of, record_bytes}
use Rattle.directory.specs.Rule.{test_of}
use Rattle.directory.specs.declared.record.SegmentRecord.{SegmentRecord}
use Rattle.refusal.specs.declared.Refusal.{Refusal}
use Rattle.truncation.specs.declared.Truncated.{Truncated}

-- "0 < m < checkpoint"
abbrev pub is_below : (checkpoint m : ℕ) → Bool
is_below checkpoint m = ltb 0 m && ltb m checkpoint

-- the records that stay: "every directory record but the last" is looked at
unfoldable pub kept_of : List ℕ → (checkpoint : ℕ) → List SegmentRecord → List SegmentRecord
kept_of area checkpoint [] = []
kept_of area checkpoint (r ∷ []) = r ∷ []
kept_of area checkpoint (r ∷ q ∷ rs) =
    cond (is_below checkpoint (highest_of (segment_bytes area r)))
    (kept_of area checkpoint (q ∷ rs))
    (r ∷ kept_of area checkpoint (q ∷ rs))

-- "The kept records close up in order, the freed ones become zero"; what is behind the used records stays. "Area bytes stay":
-- the area is only lent for reading
unfoldable pub closed_up : List ℕ → (used : ℕ) → List SegmentRecord → List ℕ
closed_up directory used kept = sets directory 0 (bytes_of record_bytes kept ++ replicate (24 * (used - length kept)) 0)

pub record Truncating : Type 0 where
  pub answer : Answer Truncated
  pub directory : List ℕ

-- what a call gave back, with the directory that it left
abbrev pub truncating : Result Truncated Refusal → List ℕ → Truncating
truncating r directory = record { answer = answer_of r; directory = directory }

-- "and the answer is their number"
abbrev pub truncate_to : (kept : List SegmentRecord) → List ℕ → (used : ℕ) → Truncating
truncate_to kept directory used =
    record {
      answer = accepted (record { count = used - length kept; used = length kept });
      directory = closed_up directory used kept;
    }

-- "Every refusal leaves the directory .. unchanged."
unfoldable pub truncate_of : (area directory : List ℕ) → (used checkpoint : ℕ) → Truncating
truncate_of area directory used checkpoint =
    by_answer (test_of (length area) directory used) (λ number. record { answer = refused number; directory = directory })
    (λ _. truncate_to (kept_of area checkpoint (records_of used directory)) directory used)

-- Document 01, "Writing": what each call of the writer answers, and what state, directory and area it leaves.
-- Assumes nothing.
use Rattle.std.specs.Prelude.{ℕ, ◌+◌, ◌*◌, ◌%◌, ◌^◌, Bool, cond, List, length, ◌==◌}
use Rattle.std.proofs.Math.Option.{Option}
use Rattle.std.proofs.lemmas.List.Edits.{sets}
use Rattle.std.specs.declared.result.Result.TheVariants.{Err}
use Rattle.refusal.specs.Answer.{Answer, refused, accepted, by_answer, and_then, answer_of}
use Rattle.refusal.specs.declared.Refusal.{Refusal}
use Rattle.header.specs.Header.{entry_bytes}
use Rattle.payload.specs.Content.{Content}
use Rattle.payload.specs.Encode.{is_well_formed, payload_for}
use Rattle.directory.specs.Record.{record_bytes}
use Rattle.directory.specs.declared.record.SegmentRecord.{SegmentRecord}
use Rattle.plan.specs.Plan.{new_segment_of, append_test_of, plan_append_of}
use Rattle.plan.specs.declared.Write.{Write}
use Rattle.segment.specs.declared.SegmentManager.{SegmentManager}
use Rattle.segment.specs.declared.Opening.{Opening}
use Rattle.segment.specs.declared.Appended.{Appended}
use Rattle.segment.specs.declared.Appending.{Appending}

-- "A new segment sets all three to 0"
abbrev pub fresh : ℕ → SegmentManager
fresh bound = record { max_segment_size = bound; entry_count = 0; first_lsn = 0; last_lsn = 0 }

-- "our default is 49,152 bytes"
abbrev pub default_bound : ℕ
default_bound = 49_152

-- ---- opening and rotating

-- the used count after an opening or a rotation, or the refusal; the state, and the directory
pub record OpenedLog : Type 0 where
  pub answer : Answer ℕ
  pub manager : SegmentManager
  pub directory : List ℕ

-- what a call gave back, with the directory that it left
abbrev pub opened : Opening → List ℕ → OpenedLog
opened r directory = record { answer = answer_of r.answer; manager = r.manager; directory = directory }

-- "Every refusal leaves the directory, area, writer state .. unchanged."
abbrev pub open_by : Answer SegmentRecord → SegmentManager → List ℕ → (used : ℕ) → OpenedLog
open_by segment m directory used =
    by_answer segment (λ number. record { answer = refused number; manager = m; directory = directory })
    (λ s. record {
      answer = accepted (used + 1);
      manager = fresh m.max_segment_size;
      directory = sets directory (24 * used) (record_bytes s);
    })

-- "Opening adds an empty segment"
unfoldable pub open_of : SegmentManager → (area : ℕ) → List ℕ → (used : ℕ) → OpenedLog
open_of m area directory used = open_by (new_segment_of area directory used) m directory used

-- and so does rotating
unfoldable pub rotate_of : SegmentManager → (area : ℕ) → List ℕ → (used : ℕ) → OpenedLog
rotate_of m area directory used = open_by (new_segment_of area directory used) m directory used

-- ---- appending

-- the used count after an append and the bytes written, header included, or the refusal; the state, and both buffers
pub record Log : Type 0 where
  pub answer : Answer Appended
  pub manager : SegmentManager
  pub directory : List ℕ
  pub area : List ℕ

-- what a call gave back, with the area and the directory that it left
abbrev pub appended : Appending → List ℕ → List ℕ → Log
appended r area directory =
    record { answer = answer_of r.answer; manager = r.manager; directory = directory; area = area }

-- "Every refusal leaves the directory, area, writer state .. unchanged."
abbrev pub refusing : SegmentManager → Refusal → Appending
refusing m refusal = record { manager = m; answer = Err refusal }

abbrev pub refused_with : (number : ℕ) → SegmentManager → List ℕ → List ℕ → Log
refused_with number m area directory = record { answer = refused number; manager = m; directory = directory; area = area }

-- "State holds entry count and first and last log number of the active segment; a first number of 0 counts as unset";
-- "the count wraps at 2^64"
unfoldable pub counted : SegmentManager → (lsn : ℕ) → SegmentManager
counted m lsn =
    record {
      max_segment_size = m.max_segment_size;
      entry_count = (m.entry_count + 1) % 2 ^ 64;
      first_lsn = cond (m.first_lsn == 0) lsn m.first_lsn;
      last_lsn = lsn;
    }

-- the state that an entry is counted in
abbrev pub active_after : (rotated : Bool) → SegmentManager → SegmentManager
active_after rotated m = cond rotated (fresh m.max_segment_size) m

-- "Each append is all or nothing, rotation included."
abbrev pub written_by : Write → SegmentManager → List ℕ → List ℕ → (lsn : ℕ) → (payload : List ℕ) → Log
written_by w m area directory lsn payload =
    record {
      answer = accepted (record { used = w.k + 1; len = 13 + length payload });
      manager = counted (active_after w.rotated m) lsn;
      directory = sets directory (24 * w.k) (record_bytes w.segment);
      area = sets area w.at (entry_bytes payload);
    }

-- "The raw call takes any payload"
unfoldable pub append_entry_of : SegmentManager → List ℕ → List ℕ → (used lsn : ℕ) → (payload : List ℕ) → Log
append_entry_of m area directory used lsn payload =
    by_answer (plan_append_of m.max_segment_size (length area) directory used (length payload))
    (λ number. refused_with number m area directory)
    (λ w. written_by w m area directory lsn payload)

-- 3: "kind over 4, key not UTF-8 or over 64 bytes, or a value over 252"
abbrev pub encoded_of : (tx time : ℕ) → Option Content → Answer (List ℕ)
encoded_of tx time content = cond (is_well_formed content) (accepted (payload_for tx time content)) (refused 3)

-- "the entry call encodes, takes only well-formed entries, and looks only at the parts their kind has"; 1 and 2 go before 3
unfoldable pub append_of : SegmentManager → List ℕ → List ℕ → (used lsn tx time : ℕ) → Option Content → Log
append_of m area directory used lsn tx time content =
    by_answer (and_then (append_test_of (length area) directory used) (λ _. encoded_of tx time content))
    (λ number. refused_with number m area directory)
    (λ payload. append_entry_of m area directory used lsn payload)

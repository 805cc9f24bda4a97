-- The writer as a C host has it: its state a struct of numbers, a refusal by its number, 0 where there is none.
-- Assumes nothing.
use Rattle.std.specs.Prelude.{◌≡◌, List, ℕ}
use Rattle.refusal.specs.Answer.{Answer, answer_of}
use Rattle.segment.specs.Writing.{OpenedLog, Log}
use Rattle.segment.specs.declared.SegmentManager.{SegmentManager}
use Rattle.segment.specs.declared.Appended as Below
use Rattle.segment.specs.declared.Opening.{Opening}
use Rattle.segment.specs.declared.Appending.{Appending}
use Rattle.ringwal_c.specs.Answers.{refusal_in, value_in}
use Rattle.ringwal_c.specs.declared.in_place.WriteAnswer.{WriteAnswer}
use Rattle.ringwal_c.specs.declared.writing.Writer.{Writer}
use Rattle.ringwal_c.specs.declared.writing.OpenAnswer.{OpenAnswer}
use Rattle.ringwal_c.specs.declared.writing.AppendAnswer.{AppendAnswer}

abbrev pub writer_of : SegmentManager → Writer
writer_of m =
    record {
      max_segment_size = m.max_segment_size;
      entry_count = m.entry_count;
      first_lsn = m.first_lsn;
      last_lsn = m.last_lsn;
    }

abbrev pub manager_of : Writer → SegmentManager
manager_of w =
    record {
      max_segment_size = w.max_segment_size;
      entry_count = w.entry_count;
      first_lsn = w.first_lsn;
      last_lsn = w.last_lsn;
    }

-- ---- opening and rotating

-- what a host has afterwards
pub record Opened : Type 0 where
  pub answer : OpenAnswer
  pub used : ℕ
  pub directory : List ℕ

abbrev pub opened : OpenAnswer → (used : ℕ) → List ℕ → Opened
opened answer used directory = record { answer = answer; used = used; directory = directory }

abbrev pub open_answer : Answer ℕ → SegmentManager → OpenAnswer
open_answer answer m = record { refusal = refusal_in answer; writer = writer_of m }

-- the used count goes in and out; a refusal leaves it alone
abbrev pub used_opened : Answer ℕ → (before : ℕ) → ℕ
used_opened answer before = value_in answer (λ used. used) before

-- what the call below answers and leaves, for a host
abbrev pub open_for : OpenedLog → (used : ℕ) → Opened
open_for log used =
    record {
      answer = open_answer log.answer log.manager;
      used = used_opened log.answer used;
      directory = log.directory;
    }

-- ---- appending

pub record Appended : Type 0 where
  pub answer : AppendAnswer
  pub used : ℕ
  pub directory : List ℕ
  pub area : List ℕ

abbrev pub appended : AppendAnswer → (used : ℕ) → (directory area : List ℕ) → Appended
appended answer used directory area = record { answer = answer; used = used; directory = directory; area = area }

-- the bytes written; a refused call wrote none
abbrev pub append_answer : Answer Below.Appended → SegmentManager → AppendAnswer
append_answer answer m =
    record { refusal = refusal_in answer; len = value_in answer (λ (a : Below.Appended). a.len) 0; writer = writer_of m }

abbrev pub used_appended : Answer Below.Appended → (before : ℕ) → ℕ
used_appended answer before = value_in answer (λ (a : Below.Appended). a.used) before

abbrev pub append_for : Log → (used : ℕ) → Appended
append_for log used =
    record {
      answer = append_answer log.answer log.manager;
      used = used_appended log.answer used;
      directory = log.directory;
      area = log.area;
    }

-- ---- appending in place

pub record Written : Type 0 where
  pub answer : WriteAnswer
  pub writer : Writer
  pub used : ℕ
  pub directory : List ℕ
  pub area : List ℕ

abbrev pub written : WriteAnswer → Writer → (used : ℕ) → (directory area : List ℕ) → Written
written answer writer used directory area =
    record { answer = answer; writer = writer; used = used; directory = directory; area = area }

-- the answer's state goes where it came from
abbrev pub in_place_of : Appended → Written
in_place_of r =
    record {
      answer = record { refusal = r.answer.refusal; len = r.answer.len };
      writer = r.answer.writer;
      used = r.used;
      directory = r.directory;
      area = r.area;
    }

-- ---- of the functions inside: what was given back, for a host

pub record OpensAs (opening : Opening) (before : ℕ) (r : OpenAnswer) (after : ℕ) : Type 0 where
  pub answer : r ≡ open_answer (answer_of opening.answer) opening.manager
  pub used : after ≡ used_opened (answer_of opening.answer) before

pub record AppendsAs (appending : Appending) (before : ℕ) (r : AppendAnswer) (after : ℕ) : Type 0 where
  pub answer : r ≡ append_answer (answer_of appending.answer) appending.manager
  pub used : after ≡ used_appended (answer_of appending.answer) before

-- The names of segment files as a C host has them.
-- Assumes nothing.
use Rattle.std.specs.Prelude.{cond, List, ℕ}
use Rattle.std.specs.declared.option.Option.{Option}
use Rattle.std.specs.declared.option.Option.TheVariants.{None, Some}
use Rattle.refusal.specs.Answer.{Answer}
use Rattle.names.specs.Name.{Naming, name_into}
use Rattle.names.specs.declared.Parsed.{Parsed}
use Rattle.ringwal_c.specs.Answers.{refusal_in, value_in}
use Rattle.ringwal_c.specs.declared.naming.NameAnswer.{NameAnswer}
use Rattle.ringwal_c.specs.declared.naming.ParseAnswer.{ParseAnswer}

abbrev pub name_answer : Answer ℕ → NameAnswer
name_answer answer = record { refusal = refusal_in answer; len = value_in answer (λ len. len) 0 }

-- what a host has after writing a name
pub record Named : Type 0 where
  pub answer : NameAnswer
  pub target : List ℕ

abbrev pub named : NameAnswer → (target : List ℕ) → Named
named answer target = record { answer = answer; target = target }

-- what the call below answers and leaves, for a host
abbrev pub for_host : Naming → Named
for_host n = named (name_answer n.answer) n.target

abbrev pub name_for : (id : ℕ) → (target : List ℕ) → Named
name_for id target = for_host (name_into id target)

-- "Reading answers "no name", or the id and whether writing it gives the same name back"
abbrev pub parse_answer : Option Parsed → ParseAnswer
parse_answer None = record { is_name = 0; id = 0; kept = 0 }
parse_answer (Some parsed) = record { is_name = 1; id = parsed.id; kept = cond parsed.kept 1 0 }

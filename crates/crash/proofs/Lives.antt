-- Through every step of a history the log consists of segments of entries, some with a torn end.
-- Assumes nothing.
use Prim.Native.Nat.{ℕ}
use mathlib.Core.Path.{◌≡◌, refl, sym, ap, ◌∙◌}
use mathlib.Core.List.{List, [], ◌∷◌, map}
use Rattle.directory.specs.Record.{records_of}
use Rattle.crash.specs.Request.{Request}
use Rattle.crash.specs.Life.{Life, empty, Step, opens, rotates, appends, power_cut, Leads, Lives}
use Rattle.crash.proofs.Segments.{Segment, left_of, torn_of, Consists}
use Rattle.crash.proofs.Opens.{opening_sound, opening_torn, opening_consists, rotating_consists}
use Rattle.crash.proofs.Grows.{appended}
use Rattle.crash.proofs.Appends.{appending_consists}
use Rattle.crash.proofs.CutLogs.{cutting_consists}

abbrev pub HasSegments : Life → Type 0
HasSegments l = (ss : List Segment) × Consists l ss

pub leads_consists : (step : Step) (before after : Life) → HasSegments before → Leads step before after → HasSegments after
leads_consists (opens bound) before after h e = opening_consists before after h.0 h.1 bound e
leads_consists rotates before after h e = rotating_consists before after h.0 h.1 e
leads_consists (appends r) before after h e = appending_consists before after r h.0 e.0 h.1 e.1
leads_consists (power_cut c) before after h e = rw e.1 (cutting_consists before c h.0 h.1 e.0)

pub lives_consists : (steps : List Step) (before after : Life) → HasSegments before → Lives steps before after → HasSegments after
lives_consists [] before after h e = rw e at h
lives_consists (step ∷ steps) before after h e =
    lives_consists steps e.0 after (leads_consists step before e.0 h e.1.0) e.1.1

-- from an empty directory on
pub begun_consists : (bound : ℕ) (area directory : List ℕ) (steps : List Step) (after : Life) → Lives (opens bound ∷ steps) (empty area directory) after → HasSegments after
unfolding records_of left_of torn_of
begun_consists bound area directory steps after e =
    let start = empty area directory in
    let c : Consists start [] =
    record {
      holds = record { sound = opening_sound start e.0 bound e.1.0; records = refl; stand = tt };
      entries = refl;
      torn = refl;
      active = tt;
    } in
    lives_consists (opens bound ∷ steps) start after ([], c) e

-- ---- one run

-- appends tear nothing
appends_torn : (rs : List Request) (before after : Life) → Lives (map appends rs) before after → after.torn ≡ before.torn
appends_torn [] before after e = ap (λ (l : Life). l.torn) (sym e)
appends_torn (r ∷ rs) before after e =
    appends_torn rs e.0 after e.1.1
    ∙ ap (λ (l : Life). l.torn) (sym (appended before e.0 r e.1.0.1).is)

pub run_torn : (bound : ℕ) (rs : List Request) (before after : Life) → Lives (opens bound ∷ map appends rs) before after → after.torn ≡ before.torn
run_torn bound rs before after e =
    appends_torn rs e.0 after e.1.1 ∙ opening_torn before e.0 bound e.1.0

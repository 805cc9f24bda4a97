-- `demand_3` and `any_history`. What is given and what follows stands in specs/Crash.antt, clause by clause.
-- Assumes nothing.
use mathlib.Core.Path.{◌≡◌, refl}
use mathlib.Core.List.{List, [], ◌∷◌, ◌++◌, map}
use lib.ListN.{length}
use Rattle.crash.specs.Kept.{kept_by, still_torn}
use Rattle.crash.specs.Life.{Life, empty, IsCut, cut_by, Lives, opens, appends, power_cut}
use Rattle.crash.specs.Crash.{Lent, Enough, Follows, Story, Given, cut_of, Demand3, History, Lived, AnyHistory}
use Rattle.crash.specs.Runs.{lives_then}
use Rattle.crash.proofs.Lefts.{torn_inside}
use Rattle.crash.proofs.Segments.{Segment, Consists}
use Rattle.crash.proofs.Gives.{holds_follows}
use Rattle.crash.proofs.CutLogs.{cut_once}
use Rattle.crash.proofs.Lives.{begun_consists, run_torn}
use Rattle.crash.proofs.Rooms.{enough_kept}

consists_follows : (l : Life) (ss : List Segment) (lent : Lent) → Consists l ss → Enough l.entries lent → Follows l.held l.entries (length l.torn) lent
consists_follows l ss lent c enough =
    rw (c.entries, c.torn) (holds_follows l.held ss c.holds lent (rw c.entries at enough))

pub any_history : (s : History) → Lived s → AnyHistory s
any_history s g =
    let c = begun_consists s.bound s.area s.directory s.steps s.log g.lived in
    consists_follows s.log c.0 s.lent c.1 g.enough

-- lists and a table for what is kept are enough
pub demand_3_kept : (s : Story) → Lives (opens s.bound ∷ map appends s.requests) (empty s.area s.directory) s.log → IsCut s.log.held s.cut → Enough (kept_by (cut_of s) s.log.entries) s.lent → Demand3 s
unfolding still_torn
demand_3_kept s written is_cut enough =
    let steps = map appends s.requests in
    let start = empty s.area s.directory in
    let after = cut_by s.cut s.log in
    let lived = lives_then (opens s.bound ∷ steps) (power_cut s.cut ∷ []) start s.log after written (after, ((is_cut, refl), refl)) in
    let follows =
    any_history
    (record { bound = s.bound; area = s.area; directory = s.directory; steps = steps ++ (power_cut s.cut ∷ []); log = after; lent = s.lent })
    (record { lived = lived; enough = enough }) in
    let c = begun_consists s.bound s.area s.directory steps s.log written in
    let none : s.log.torn ≡ [] = run_torn s.bound s.requests start s.log written in
    let one = torn_inside (cut_of s) s.log.entries (cut_once s.log s.cut c.0 c.1 is_cut) in
    rw (← one) (rw none at follows)

pub demand_3 : (s : Story) → Given s → Demand3 s
demand_3 s g =
    demand_3_kept s g.written g.is_cut (enough_kept (cut_of s) s.log.entries s.lent g.enough)

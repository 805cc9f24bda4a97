-- What an operator relies on. The statements stand in specs/Operator.antt.
-- Assumes nothing.
use Prim.Native.Nat.{ℕ, ◌+◌, ◌/◌}
use mathlib.Core.Path.{◌≡◌, sym, ap, ◌∙◌}
use mathlib.Core.Bool.{cond}
use mathlib.Core.List.{List, [], ◌∷◌, ◌++◌, map}
use lib.ListN.{length}
use Rattle.records.specs.Dense.{All}
use Rattle.table.specs.Row.{Row}
use Rattle.table.specs.Table.{lookup, table_of, live_rows}
use Rattle.table.specs.Table as Tables
use Rattle.table.proofs.Tables.{table_length}
use Rattle.table.proofs.Live.{live_back}
use Rattle.recovery.specs.Recover.{Recovering}
use Rattle.store.specs.Replay.{Replaying}
use Rattle.crash.specs.Request.{Request, Written}
use Rattle.crash.specs.Kept.{kept_by, is_inside}
use Rattle.crash.specs.Life.{Life, empty, segment_in, cut_by, opens, appends, Lives}
use Rattle.crash.specs.Settings.{run_numbers}
use Rattle.crash.specs.Crash.{Lent, Enough, replaying, Follows, Story, Given, cut_of, Demand3, History, Lived, AnyHistory}
use Rattle.crash.specs.Operator.{rows_in, value_in, Relies, request_of, Everything, NothingLost, NoTrace}
use Rattle.crash.proofs.Holdings.{Kept}
use Rattle.crash.proofs.Lefts.{inside_torn}
use Rattle.crash.proofs.Segments.{Segment, Consists}
use Rattle.crash.proofs.Listings.{segments_kept}
use Rattle.crash.proofs.Settles.{settled_held}
use Rattle.crash.proofs.Orders.{table_is}
use Rattle.crash.proofs.Opens.{opening_entries}
use Rattle.crash.proofs.CutLogs.{cutting_consists, nothing_lost}
use Rattle.crash.proofs.Lives.{HasSegments, begun_consists, run_torn}
use Rattle.crash.proofs.Rooms.{keys_fit, enough_kept}
use Rattle.crash.proofs.Crash.{demand_3, any_history}
use Rattle.crash.proofs.Touches.{last_touches, one_decides, unnamed_absent}
use Rattle.crash.proofs.Sources.{rows_source}
use Rattle.crash.proofs.Beginnings.{entries_rise, appends_add, begins}

-- ---- the table of a log that consists of segments

module _ (l : Life) (ss : List Segment) (lent : Lent) (c : Consists l ss) (enough : Enough l.entries lent) where
  module _ (partial : ℕ) (f : Follows l.held l.entries partial lent) where
    abbrev rows : List Row
    rows = run_numbers f.order l.entries []

    rows_held : Tables.Held (length lent.table) rows
    rows_held =
        let kept : All (Kept l.held.area) l.entries = rw c.entries (segments_kept l.held.area ss c.holds.stand) in
        settled_held l.held.area l.entries kept (length lent.table) f.order (keys_fit l.entries lent enough)

    table_of_lem : (replaying l.held lent).table ≡ table_of (length lent.table) rows
    table_of_lem = ap (λ (r : Replaying). r.table) f.replay

    -- its rows are those that the transactions make
    rows_are : rows_in (replaying l.held lent).table ≡ rows
    rows_are =
        ap rows_in table_of_lem
        ∙ ap (λ n. live_rows (n / 320) (table_of (length lent.table) rows)) (table_length (length lent.table) rows rows_held.inside)
        ∙ live_back (length lent.table) rows rows_held

    value_is : (key : List ℕ) → value_in (replaying l.held lent).table key ≡ lookup key rows
    value_is key = ap (lookup key) rows_are

    consists_relies : Relies (replaying l.held lent).table l.entries f.order
    consists_relies =
        record {
          applied = λ before n after e key t. rw (value_is key) (one_decides key l.entries f.order before n after e t);
          last_decides = λ before n after e key t us. value_is key ∙ last_touches key l.entries f.order before n after e t us;
          nothing_else = rw rows_are (rows_source l.entries f.order);
          sorted = rw rows_are rows_held.sorted;
          absent = λ key us. value_is key ∙ unnamed_absent key f.order l.entries us;
        }

-- ---- of any history, and of a cut log

pub relies : (s : History) (g : Lived s) (f : AnyHistory s) → Relies (replaying s.log.held s.lent).table s.log.entries f.order
relies s g f =
    let c = begun_consists s.bound s.area s.directory s.steps s.log g.lived in
    consists_relies s.log c.0 s.lent c.1 g.enough (length s.log.torn) f

module _ (s : Story) (g : Given s) where
  written_segments : HasSegments s.log
  written_segments = begun_consists s.bound s.area s.directory (map appends s.requests) s.log g.written

  cut_segments : HasSegments (cut_by s.cut s.log)
  cut_segments = let c = written_segments in cutting_consists s.log s.cut c.0 c.1 g.is_cut

  enough_cut : Enough (kept_by (cut_of s) s.log.entries) s.lent
  enough_cut = enough_kept (cut_of s) s.log.entries s.lent g.enough

  pub cut_relies : (f : Demand3 s) → Relies (replaying (cut_by s.cut s.log).held s.lent).table (kept_by (cut_of s) s.log.entries) f.order
  cut_relies f =
      let c = cut_segments in
      consists_relies (cut_by s.cut s.log) c.0 s.lent c.1 enough_cut (cond (is_inside (cut_of s) s.log.entries) 1 0) f

-- ---- cutting nothing gives everything

pub nothing_cut : (bound : ℕ) (area directory : List ℕ) (requests : List Request) (log : Life) (lent : Lent) → Lives (opens bound ∷ map appends requests) (empty area directory) log → Enough log.entries lent → Everything requests log lent
nothing_cut bound area directory requests log lent e enough =
    let start = empty area directory in
    let a = appends_add requests e.0 log e.1.1 in
    let first : e.0.entries ≡ [] = opening_entries start e.0 bound e.1.0 in
    let none : log.torn ≡ [] = run_torn bound requests start log e in
    let follows : Follows log.held log.entries (length log.torn) lent =
    any_history
    (record { bound = bound; area = area; directory = directory; steps = map appends requests; log = log; lent = lent })
    (record { lived = e; enough = enough }) in
    record {
      asked = ap (map request_of) (a.entries ∙ ap (λ (ws : List Written). ws ++ a.more) first) ∙ a.asked;
      follows = rw none at follows;
    }

pub cut_nothing : (s : Story) → Given s → s.cut.k + 1 ≡ s.log.held.used → s.cut.n ≡ (segment_in s.log.held s.cut.k).length → NothingLost s
cut_nothing s g last end =
    let c = written_segments s g in
    let n = nothing_lost s.log s.cut c.0 c.1 g.is_cut last end in
    record { entries = n.0; whole = rw (inside_torn (cut_of s) s.log.entries, n.1) }

-- ---- an entry after the cut leaves no trace

pub no_trace : (s : Story) → Given s → NoTrace s
unfolding kept_by
no_trace s g =
    let c = written_segments s g in
    let e = g.written in
    let cut = cut_of s in
    let first : e.0.entries ≡ [] = opening_entries (empty s.area s.directory) e.0 s.bound e.1.0 in
    let b = begins cut s.requests e.0 s.log e.1.1 (entries_rise s.log c.0 c.1) (rw first) in
    let written : Lives (opens s.bound ∷ map appends b.before) (empty s.area s.directory) b.earlier = (e.0, (e.1.0, b.lives)) in
    let enough : Enough b.earlier.entries s.lent = rw b.entries (enough_cut s g) in
    let all = (nothing_cut s.bound s.area s.directory b.before b.earlier s.lent written enough).follows in
    let f = demand_3 s g in
    record {
      before = b.before;
      after = b.after;
      requests = b.parts;
      earlier = b.earlier;
      written = written;
      entries = b.entries;
      follows = all;
      entry_list =
          ap (λ (r : Recovering). r.entries) f.recovery
          ∙ sym (ap (λ (r : Recovering). r.entries) all.recovery ∙ rw b.entries);
      transactions =
          ap (λ (r : Recovering). r.transactions) f.recovery
          ∙ sym (ap (λ (r : Recovering). r.transactions) all.recovery ∙ rw b.entries);
      table =
          table_is (cut_by s.cut s.log).held (kept_by cut s.log.entries) _ s.lent f
          ∙ sym (table_is b.earlier.held b.earlier.entries _ s.lent all ∙ rw b.entries);
    }

-- A transaction applied along its chain: the invariant of the loop, and its turns.
-- Assumes nothing.
use mathlib.Core.Path.{◌≡◌, refl, sym, ap, ◌∙◌}
use mathlib.Core.List.{List, ◌∷◌}
use Prim.Native.Nat.{ℕ, suc, ◌-◌, ◌*◌, ◌/◌, ◌<◌, ◌≤◌}
use native.Mathlib.Omega.{arith}
use lib.ListN.{length, take, drop, get_or}
use lib.Seq.{split_at, length-take-le}
use Rattle.records.proofs.Dense.{all_at}
use Rattle.lists.specs.Entries.{entry_record_at}
use Rattle.lists.specs.Transactions.{transactions_of}
use Rattle.lists.specs.declared.entries.EntryRecord.{EntryRecord}
use Rattle.lists.specs.declared.transactions.TransactionRecord.{TransactionRecord}
use Rattle.chains.specs.Chain.{linked_entries, linked_transactions, entries_of, from_link}
use Rattle.chains.specs.Link.{spare_at}
use Rattle.chains.proofs.Walk.{Leads, Turn, walk_start, walk_turn, walk_end}
use Rattle.recovery.specs.Payload.{EntryIn}
use Rattle.refusal.specs.Answer.{Answer, accepted, and_then}
use Rattle.table.specs.Row.{Row}
use Rattle.table.specs.Table.{Held}
use Rattle.table.specs.Change.{changing}
use Rattle.std.specs.declared.result.Result.{Result}
use Rattle.std.specs.declared.result.Result.TheVariants.{Ok, Err}
use Rattle.refusal.specs.declared.Refusal.{Refusal}
use Rattle.store.specs.Change.{changed_by, run_of}
use Rattle.store.specs.Apply.{change_of}
use Rattle.store.specs.Effect.{effect_in}
use Rattle.store.specs.Running.{entries_in, rows_in, Linked, Tabled, ran_to, ran_in}
use Rattle.store.proofs.Applies.{change_held}
use Rattle.store.proofs.Orders.{transaction_in}
use Rattle.store.proofs.Tabling.{rows_ran, went, stopped, change_ran}

-- what the link leads to, applied to the rows as they stand, comes to the whole applied to the rows at the start
pub record Walking (area entries : List ℕ) (number : ℕ) (table₀ : List ℕ) (n₀ : ℕ) (link : ℕ) (table : List ℕ) (n : ℕ) : Type 0 where
  pub leads : Leads number link (entries_in entries)
  pub same : run_of (length table₀ / 320) area (from_link number link (entries_in entries)) (rows_in n table) ≡ run_of (length table₀ / 320) area (entries_of number (entries_in entries)) (rows_in n₀ table₀)
  pub tabled : Tabled table n
  pub room : length table ≡ length table₀

module _ (area entries transactions : List ℕ) (l : Linked area entries transactions) where
  -- ---- the start, at transaction k

  pub walking_starts : (k : ℕ) (table : List ℕ) (n link : ℕ) → k < length transactions / 24 → Tabled table n → link ≡ spare_at 24 9 transactions k → Walking area entries (transaction_in transactions k).tx_id table n link table n
  walking_starts k table n link h tabled e =
      let es = entries_in entries in
      let ts = transactions_of es in
      let t = get_or ts k (transaction_in transactions k) in
      let inside : k < length ts = omega (arith, l.count) in
      let place : length (take k ts) ≡ k = length-take-le k ts (omega arith) in
      let start = rw place at (walk_start (length transactions) es (take k ts) t (drop (suc k) ts) (split_at ts k (transaction_in transactions k) inside) l.fit l.few) in
      let number : (transaction_in transactions k).tx_id ≡ t.tx_id =
      ap (λ (s : List ℕ). (transaction_in s k).tx_id) l.transactions_are ∙ ap (λ (t : TransactionRecord). t.tx_id) start.read in
      let first : link ≡ spare_at 24 9 (linked_transactions (length transactions) es) k = e ∙ ap (λ (s : List ℕ). spare_at 24 9 s k) l.transactions_are in
      let walked : from_link (transaction_in transactions k).tx_id link es ≡ entries_of (transaction_in transactions k).tx_id es = rw (number, first) start.walked in
      record {
        leads = rw (number, first) start.leads;
        same = ap (λ (v : List EntryRecord). run_of (length table / 320) area v (rows_in n table)) walked;
        tabled = tabled;
        room = refl;
      }

  -- ---- a turn, at the entry that a link leads to

  module _ (number link : ℕ) (pos : 0 < link) (leads : Leads number link (entries_in entries)) where
    turn : Turn (length entries) (entries_in entries) number link
    turn = walk_turn (length entries) (entries_in entries) number link l.fit l.few pos leads

    abbrev read : EntryRecord
    read = entry_record_at (drop (32 * (link - 1)) entries)

    reads : read ≡ turn.stands.entry
    reads = ap (λ (s : List ℕ). entry_record_at (drop (32 * (link - 1)) s)) l.entries_are ∙ turn.read

    links : spare_at 32 25 entries (link - 1) ≡ spare_at 32 25 (linked_entries (length entries) (entries_in entries)) (link - 1)
    links = ap (λ (s : List ℕ). spare_at 32 25 s (link - 1)) l.entries_are

    pub turn_in : EntryIn area read
    turn_in = rw reads (all_at (EntryIn area) turn.stands.before turn.stands.entry turn.stands.after (rw turn.stands.whole at l.in_area))

    turn_leads : Leads number (spare_at 32 25 entries (link - 1)) (entries_in entries)
    turn_leads = rw links turn.leads

    turn_walks : from_link number link (entries_in entries) ≡ read ∷ from_link number (spare_at 32 25 entries (link - 1)) (entries_in entries)
    turn_walks = rw (reads, links) turn.walked

    -- the chain from there on is shorter
    pub turn_falls : (next : ℕ) → next ≡ spare_at 32 25 entries (link - 1) → length (from_link number next (entries_in entries)) < length (from_link number link (entries_in entries))
    turn_falls next e = rw (turn_walks, e) (omega arith)

    turn_runs : (records : ℕ) (rs : List Row) → run_of records area (from_link number link (entries_in entries)) rs ≡ and_then (changed_by records (effect_in area read) rs) (run_of records area (from_link number (spare_at 32 25 entries (link - 1)) (entries_in entries)))
    unfolding run_of
    turn_runs records rs = rw turn_walks

  module _ (number : ℕ) (table₀ : List ℕ) (n₀ link : ℕ) (table : List ℕ) (n : ℕ) (pos : 0 < link) (w : Walking area entries number table₀ n₀ link table n) (e : EntryRecord) (is : e ≡ entry_record_at (drop (32 * (link - 1)) entries)) (r : Result ℕ Refusal) (t : List ℕ) (a : changing r t ≡ change_of (effect_in area e) table n) where
    abbrev step : Answer (List Row)
    step = changed_by (length table₀ / 320) (effect_in area e) (rows_in n table)

    ran_step : ran_to r t ≡ ran_in (length table₀) step
    ran_step = change_ran (length table₀) table n (effect_in area e) r t w.tabled w.room a

    step_held : (new : List Row) → step ≡ accepted new → Held (length table₀) new
    step_held new q = change_held (length table₀) (rows_in n table) (rw w.room at w.tabled.held) (effect_in area e) new q

    runs : run_of (length table₀ / 320) area (from_link number link (entries_in entries)) (rows_in n table) ≡ and_then step (run_of (length table₀ / 320) area (from_link number (spare_at 32 25 entries (link - 1)) (entries_in entries)))
    runs = rw is (turn_runs number link pos w.leads (length table₀ / 320) (rows_in n table))

    pub walking_goes : (m : ℕ) → r ≡ Ok m → (next : ℕ) → next ≡ spare_at 32 25 entries (link - 1) → Walking area entries number table₀ n₀ next t m
    walking_goes m q next f =
        let g = went (length table₀) step step_held r m t q ran_step in
        record {
          leads = rw f (turn_leads number link pos w.leads);
          same = rw f (rw g.rows_are at (sym runs) ∙ w.same);
          tabled = g.tabled;
          room = g.room_is;
        }

    pub walking_stops : (refusal : Refusal) → r ≡ Err refusal → ran_to (Err refusal) t ≡ ran_in (length table₀) (run_of (length table₀ / 320) area (entries_of number (entries_in entries)) (rows_in n₀ table₀))
    walking_stops refusal q =
        stopped (length table₀) step _ refusal t (rw q at ran_step) ∙ ap (ran_in (length table₀)) (sym runs ∙ w.same)

-- ---- the end

pub walking_ends : (area entries : List ℕ) (number : ℕ) (table₀ : List ℕ) (n₀ link : ℕ) (table : List ℕ) (n : ℕ) → link ≤ 0 → Walking area entries number table₀ n₀ link table n → ran_to (Ok n) table ≡ ran_in (length table₀) (run_of (length table₀ / 320) area (entries_of number (entries_in entries)) (rows_in n₀ table₀))
unfolding run_of
walking_ends area entries number table₀ n₀ link table n h w =
    let z : link ≡ 0 = omega arith in
    rows_ran (length table₀) table n w.tabled w.room
    ∙ ap (ran_in (length table₀)) (rw (z, walk_end number (entries_in entries)) at w.same)

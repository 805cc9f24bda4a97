-- Replay: what an accepted recovery hands to the run, what the run comes to, and what an accepted replay says.
-- Assumes nothing.
use mathlib.Core.Path.{◌≡◌, refl, sym, ap, ◌∙◌}
use mathlib.Core.Bool.{true}
use mathlib.Core.List.{List, []}
use mathlib.Core.Option.{none}
use Prim.Native.Nat.{ℕ, ◌/◌, ◌^◌, ◌<◌, ◌≤◌}
use native.Mathlib.Omega.{arith}
use lib.ListN.{length}
use Rattle.fields.specs.Le.{Bytes}
use Rattle.fields.proofs.Cases.{case_b}
use Rattle.std.specs.declared.result.Result.{Result}
use Rattle.std.specs.declared.result.Result.TheVariants.{Ok}
use Rattle.refusal.specs.declared.Refusal.{Refusal}
use Rattle.refusal.specs.Answer.{Answer, refused, accepted, by_answer, answer_of}
use Rattle.refusal.proofs.Answers.{never_both, same_number, same_values}
use Rattle.directory.specs.Lent.{fits_of}
use Rattle.directory.specs.Record as Directory
use Rattle.directory.specs.declared.lent.Lent.TheVariants as Lends
use Rattle.records.specs.Dense.{dense, All}
use Rattle.records.specs.Sorted.{record_of}
use Rattle.records.proofs.Dense.{dense_length}
use Rattle.lists.specs.Entries.{entry_record_bytes, EntryFits}
use Rattle.lists.specs.Transactions.{transaction_bytes, transactions_of}
use Rattle.lists.specs.declared.entries.EntryRecord.{EntryRecord}
use Rattle.lists.proofs.EntryRecords.{length-entry}
use Rattle.lists.proofs.TransactionRecords.{length-transaction}
use Rattle.lists.proofs.Books.{entries_back}
use Rattle.recovery.specs.Log.{LogRead, read_log}
use Rattle.recovery.specs.Payload.{EntryIn}
use Rattle.recovery.specs.Recover.{Recovering, recovering, recover_of, stats_of, recovered_of}
use Rattle.recovery.specs.declared.Recovered.{Recovered}
use Rattle.recovery.proofs.Accepts.{Accepted, recover_accepted, sound_fits}
use Rattle.recovery.proofs.EntriesIn.{log_in}
use Rattle.table.specs.Row.{Row}
use Rattle.table.specs.Table.{lookup, table_of, Held}
use Rattle.table.proofs.Tables.{none_held}
use Rattle.store.specs.Order.{replayed}
use Rattle.store.specs.Change.{run_of}
use Rattle.store.specs.Left.{left_of}
use Rattle.store.specs.Replay.{Replaying, replaying, refused_empty, replay_after, table_after, replay_by, replay_of}
use Rattle.store.specs.Running.{Ran, ran, ran_in, listed_in_of, Listing, RanIs, concluded_by}
use Rattle.store.proofs.Runs.{run_held, run_left}

-- ---- the lists of an accepted recovery

module _ (area : List ℕ) (E T : ℕ) (xs : List EntryRecord) (fit : All EntryFits xs) (few : length xs < 2 ^ 56) (in_area : All (EntryIn area) xs) (entries_fit : length xs ≤ E / 32) (transactions_fit : length (transactions_of xs) ≤ T / 24) where
  listing_back : (es : List ℕ) (n : ℕ) → es ≡ dense entry_record_bytes E xs → n ≡ length xs → listed_in_of n es ≡ xs
  listing_back es n d c = rw (d, c) (entries_back E xs fit)

  listing_so : (es ts : List ℕ) (n m : ℕ) → es ≡ dense entry_record_bytes E xs → ts ≡ dense transaction_bytes T (transactions_of xs) → n ≡ length xs → m ≡ length (transactions_of xs) → Listing area es n ts m
  listing_so es ts n m d f c k =
      let b = listing_back es n d c in
      let x : length es ≡ E = ap (λ (l : List ℕ). length l) d ∙ dense_length entry_record_bytes 32 length-entry E xs (omega (arith, entries_fit)) in
      let y : length ts ≡ T = ap (λ (l : List ℕ). length l) f ∙ dense_length transaction_bytes 24 length-transaction T (transactions_of xs) (omega (arith, transactions_fit)) in
      record {
        entries_are = rw (b, x) d;
        transactions_are = rw (b, y) f;
        count = rw b k;
        entries_inside = omega (arith, entries_fit);
        transactions_inside = omega (arith, transactions_fit);
        fit = rw b fit;
        few = rw c few;
        in_area = rw b in_area;
      }

-- what recovery answered and left
module _ (area directory : List ℕ) (used : ℕ) (entries transactions es ts : List ℕ) (v : Recovered) (bytes : Bytes area) (e : recovering (Ok v) es ts ≡ recover_of area directory used entries transactions) where
  abbrev log : LogRead
  log = read_log area (Directory.records_of used directory)

  did : Accepted area directory used entries transactions v
  did = recover_accepted area directory used entries transactions v (ap (λ (r : Recovering). r.answer) (sym e))

  entries_are : es ≡ dense entry_record_bytes (length entries) log.entries
  entries_are = ap (λ (r : Recovering). r.entries) (e ∙ did.lists_are)

  transactions_are : ts ≡ dense transaction_bytes (length transactions) (transactions_of log.entries)
  transactions_are = ap (λ (r : Recovering). r.transactions) (e ∙ did.lists_are)

  counted : v.entries ≡ length log.entries
  unfolding recovered_of
  counted = ap (λ (v : Recovered). v.entries) did.values_are

  begun : v.stats.total_transactions ≡ length (transactions_of log.entries)
  unfolding recovered_of stats_of
  begun = ap (λ (v : Recovered). v.stats.total_transactions) did.values_are

  pub accepted_lists : Listing area es v.entries ts v.stats.total_transactions
  accepted_lists =
      let f = sound_fits area directory used bytes did.sounds in
      listing_so area (length entries) (length transactions) log.entries f.entries f.few (log_in area (Directory.records_of used directory)) did.entries_fit did.transactions_fit es ts v.entries v.stats.total_transactions entries_are transactions_are counted begun

  read_back : listed_in_of v.entries es ≡ log.entries
  read_back =
      let f = sound_fits area directory used bytes did.sounds in
      listing_back area (length entries) (length transactions) log.entries f.entries f.few (log_in area (Directory.records_of used directory)) did.entries_fit did.transactions_fit es v.entries entries_are counted

  -- ---- the end of a call

  concludes : (a : Answer ℕ) (x : Answer (List Row)) (es' ts' t : List ℕ) (room : ℕ) → length t ≡ room → by_answer a (λ number. refused number) (λ n. ran n t) ≡ ran_in room x → by_answer a (λ number. refused_empty number (length es') (length ts') (length t)) (λ _. replaying (Ok v) es' ts' t) ≡ replay_after x (recovering (Ok v) es' ts') room
  concludes (refused m) (refused n) es' ts' t room l r = rw (l, same_number r)
  concludes (refused m) (accepted rs) es' ts' t room l r = never_both r
  concludes (accepted n) (refused m) es' ts' t room l r = never_both (sym r)
  concludes (accepted n) (accepted rs) es' ts' t room l r =
      let f : t ≡ table_of room rs = ap (λ (x : Ran). x.table) (same_values r) in rw f

  pub replays : (table : List ℕ) (set : Result ℕ Refusal) (es' ts' t : List ℕ) → RanIs area es v.entries ts (length table) set es' ts' t → length t ≡ length table → concluded_by set v es' ts' t ≡ replay_by (recover_of area directory used entries transactions) log area table
  replays table set es' ts' t r l =
      rw (← e, r.entries_stay, r.transactions_stay)
      (concludes (answer_of set) (run_of (length table / 320) area (replayed log.entries) []) es ts t (length table) l (rw read_back at r.runs))

-- ---- an accepted replay

-- what a replay is that no buffer, no recovery and no entry refuses
abbrev pub accepted_as : LogRead → (entries transactions table : ℕ) → List Row → Replaying
accepted_as log entries transactions table new =
    record {
      answer = accepted (recovered_of log);
      entries = dense entry_record_bytes entries log.entries;
      transactions = dense transaction_bytes transactions (transactions_of log.entries);
      table = table_of table new;
    }

pub record Replayed (area directory : List ℕ) (used : ℕ) (entries transactions table : List ℕ) (values : Recovered) : Type 0 where
  pub fits : fits_of Lends.Table (length table) ≡ true
  pub recovery : Accepted area directory used entries transactions values
  pub new : List Row
  pub ran : run_of (length table / 320) area (replayed (read_log area (Directory.records_of used directory)).entries) [] ≡ accepted new
  pub held : Held (length table) new
  pub left : (key : List ℕ) → lookup key new ≡ left_of key area (replayed (read_log area (Directory.records_of used directory)).entries) none
  pub is : replay_of area directory used entries transactions table ≡ accepted_as (read_log area (Directory.records_of used directory)) (length entries) (length transactions) (length table) new

lookup_none : (key : List ℕ) → lookup key [] ≡ none
unfolding lookup record_of
lookup_none key = refl

module _ (area directory : List ℕ) (used : ℕ) (entries transactions table : List ℕ) (values : Recovered) where
  abbrev r : Recovering
  r = recover_of area directory used entries transactions

  abbrev run : Answer (List Row)
  run = run_of (length table / 320) area (replayed (read_log area (Directory.records_of used directory)).entries) []

  pub replay_is : fits_of Lends.Table (length table) ≡ true → Accepted area directory used entries transactions values → (new : List Row) → run ≡ accepted new → replay_of area directory used entries transactions table ≡ accepted_as (read_log area (Directory.records_of used directory)) (length entries) (length transactions) (length table) new
  unfolding replay_of
  replay_is f a new q = rw (f, a.lists_are, q)

  -- a run that gave rows, of a recovery that was accepted
  accepted_run : (x : Answer (List Row)) → run ≡ x → fits_of Lends.Table (length table) ≡ true → Accepted area directory used entries transactions values → (replay_after x r (length table)).answer ≡ accepted values → Replayed area directory used entries transactions table values
  accepted_run (refused number) p f a e = never_both e
  accepted_run (accepted new) p f a e =
      record {
        fits = f;
        recovery = a;
        new = new;
        ran = p;
        held = run_held (length table) area _ [] new (none_held (length table)) p;
        left = λ key. run_left (length table) key area _ [] new (none_held (length table)) p ∙ ap (left_of key area _) (lookup_none key);
        is = replay_is f a new p;
      }

  -- the run's answer is the recovery's
  ran_answer : (x : Answer (List Row)) → (replay_after x r (length table)).answer ≡ accepted values → r.answer ≡ accepted values
  ran_answer (refused number) e = never_both e
  ran_answer (accepted new) e = e

  pub replay_accepted : (replay_of area directory used entries transactions table).answer ≡ accepted values → Replayed area directory used entries transactions table values
  unfolding replay_of
  replay_accepted e =
      case_b (fits_of Lends.Table (length table))
      (λ f. told f r.answer (rw f at e))
      (λ f. never_both (rw f at e))
    where
      told : fits_of Lends.Table (length table) ≡ true → (a : Answer Recovered) → (by_answer a (λ number. record { answer = refused number; entries = r.entries; transactions = r.transactions; table = table_after number table }) (λ _. replay_after run r (length table))).answer ≡ accepted values → Replayed area directory used entries transactions table values
      told f (refused number) e = never_both e
      told f (accepted v) e =
          accepted_run run refl f (recover_accepted area directory used entries transactions values (ran_answer run e)) e

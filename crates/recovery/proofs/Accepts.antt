-- What an accepted recovery says: the log was read, and both lists have room for it.
-- Assumes nothing.
use mathlib.Core.Path.{◌≡◌, sym, ap, ◌∙◌}
use mathlib.Core.List.{List}
use Prim.Native.Nat.{ℕ, ◌/◌, ◌^◌, ◌<◌, ◌≤◌}
use native.Mathlib.Omega.{arith}
use borrow.Author.Tests.{leb-true}
use lib.Dec.{leb}
use lib.ListN.{length}
use Rattle.fields.specs.Le.{Bytes}
use Rattle.fields.proofs.Cases.{case_b}
use Rattle.std.specs.declared.result.Result.{Result}
use Rattle.std.specs.declared.result.Result.TheVariants.{Ok}
use Rattle.refusal.specs.declared.Refusal.{Refusal}
use Rattle.refusal.specs.Answer.{accepted, sound, answer_of}
use Rattle.refusal.proofs.Answers.{never_both, same_values, by_cases}
use Rattle.directory.specs.Record.{records_of}
use Rattle.directory.specs.Rule.{test_of}
use Rattle.std.specs.declared.option.Option.TheVariants.{None}
use Rattle.directory.proofs.Records.{length_records}
use Rattle.directory.proofs.Sound.{sound_says}
use Rattle.records.specs.Dense as Dense
use Rattle.records.specs.Dense.{All}
use Rattle.lists.specs.Tally.{highest_committed}
use Rattle.lists.specs.Transactions.{transaction_at, transactions_of}
use Rattle.lists.proofs.Books.{transactions_back}
use Rattle.lists.specs.Entries.{EntryFits}
use Rattle.recovery.specs.Log.{LogRead, read_log}
use Rattle.recovery.specs.Recover.{Recovering, recovering, listing, read_into, stats_of, recovered_of, lists_test_of, recover_of}
use Rattle.recovery.specs.Checkpoint.{checkpoint_at, advance_of, target_after, checkpointing, checkpoint_by}
use Rattle.recovery.specs.declared.Recovered.{Recovered}
use Rattle.recovery.proofs.Concludes.{log_fits, log_length, lists_sound}

-- the log of a directory that passes the test: its entries fit their records, and can be counted
pub record LogFits (log : LogRead) : Type 0 where
  pub entries : All EntryFits log.entries
  pub count : length log.entries < 2 ^ 64
  -- a place in the list fits seven bytes
  pub few : length log.entries < 2 ^ 56

pub sound_fits : (area directory : List ℕ) (used : ℕ) → Bytes area → test_of (length area) directory used ≡ sound → LogFits (read_log area (records_of used directory))
sound_fits area directory used b t =
    let s = sound_says (length area) directory used t in
    let rs = records_of used directory in
    let n : length (read_log area rs).entries < 2 ^ 56 = omega (arith, log_length area 1_073_741_824 rs s.area, length_records used directory, s.used, s.directory) in
    record { entries = log_fits area None rs b s.area s.rule; count = omega (arith, n); few = n }

-- an accepted recovery
pub record Accepted (area directory : List ℕ) (used : ℕ) (entries transactions : List ℕ) (values : Recovered) : Type 0 where
  pub sounds : test_of (length area) directory used ≡ sound
  pub entries_fit : length (read_log area (records_of used directory)).entries ≤ length entries / 32
  pub transactions_fit : length (transactions_of (read_log area (records_of used directory)).entries) ≤ length transactions / 24
  pub values_are : values ≡ recovered_of (read_log area (records_of used directory))
  pub lists_are : recover_of area directory used entries transactions ≡ listing (read_log area (records_of used directory)) (length entries) (length transactions)

-- a log that was read into lists had room there
record Into (log : LogRead) (E T : ℕ) (values : Recovered) : Type 0 where
  entries_fit : length log.entries ≤ E / 32
  transactions_fit : length (transactions_of log.entries) ≤ T / 24
  values_are : values ≡ recovered_of log
  is : read_into log E T ≡ listing log E T

into_says : (log : LogRead) (E T : ℕ) (values : Recovered) → (read_into log E T).answer ≡ accepted values → Into log E T values
unfolding read_into
into_says log E T values e =
    case_b (leb (length log.entries) (E / 32))
    (λ q. case_b (leb (length (transactions_of log.entries)) (T / 24))
    (λ r. record { entries_fit = leb-true _ _ q; transactions_fit = leb-true _ _ r; values_are = sym (same_values (rw (q, r) at e)); is = rw (q, r) })
    (λ r. never_both (rw (q, r) at e)))
    (λ q. never_both (rw q at e))

pub recover_accepted : (area directory : List ℕ) (used : ℕ) (entries transactions : List ℕ) (values : Recovered) → (recover_of area directory used entries transactions).answer ≡ accepted values → Accepted area directory used entries transactions values
unfolding recover_of
recover_accepted area directory used entries transactions values e =
    by_cases (lists_test_of (length area) directory used (length entries) (length transactions)) (λ n q. never_both (rw q at e))
    (λ x q.
    let i = into_says (read_log area (records_of used directory)) (length entries) (length transactions) values (rw q at e) in
    record {
      sounds = lists_sound _ _ _ _ _ q;
      entries_fit = i.entries_fit;
      transactions_fit = i.transactions_fit;
      values_are = i.values_are;
      lists_are = rw q i.is;
    })

-- ---- checkpoint

-- the highest committed number, read off the transactions that recovery left
committed_is : (area directory : List ℕ) (used : ℕ) (entries transactions es ts : List ℕ) (v : Recovered) → Bytes area → recovering (Ok v) es ts ≡ recover_of area directory used entries transactions → highest_committed (Dense.records_of 24 transaction_at v.stats.total_transactions ts) ≡ highest_committed (transactions_of (read_log area (records_of used directory)).entries)
unfolding recovered_of stats_of
committed_is area directory used entries transactions es ts v b e =
    let a = recover_accepted area directory used entries transactions v (ap (λ (r : Recovering). r.answer) (sym e)) in
    let f = sound_fits area directory used b a.sounds in
    rw (a.values_are, ap (λ (r : Recovering). r.transactions) (e ∙ a.lists_are), transactions_back (length transactions) (read_log area (records_of used directory)).entries f.entries f.count)

pub checkpoints : (area directory : List ℕ) (used : ℕ) (entries transactions stored target es ts : List ℕ) (v : Recovered) (highest was : ℕ) (r : Result ℕ Refusal) (target' : List ℕ) → Bytes area → recovering (Ok v) es ts ≡ recover_of area directory used entries transactions → highest ≡ highest_committed (Dense.records_of 24 transaction_at v.stats.total_transactions ts) → was ≡ checkpoint_at stored → answer_of r ≡ advance_of highest was → target' ≡ target_after (advance_of highest was) target → checkpointing r es ts target' ≡ checkpoint_by (recover_of area directory used entries transactions) (read_log area (records_of used directory)) stored target
checkpoints area directory used entries transactions stored target es ts v highest was r target' b e h w a t =
    let x = checkpoint_at stored in
    let y : highest ≡ highest_committed (transactions_of (read_log area (records_of used directory)).entries) = h ∙ committed_is area directory used entries transactions es ts v b e in
    rw (← e, ← y, ← w, a, t)

-- What recovery and replay give of a log that consists of segments.
-- Assumes nothing.
use Prim.Native.Nat.{ℕ, ◌/◌, ◌≤◌}
use mathlib.Core.Path.{◌≡◌, refl, ap, ◌∙◌}
use mathlib.Core.List.{List, [], ◌∷◌}
use borrow.Author.Tests.{le-leb}
use lib.ListN.{length, length-map}
use Rattle.refusal.specs.Answer.{accepted}
use Rattle.records.specs.Dense.{All}
use Rattle.directory.specs.Record.{records_of}
use Rattle.lists.specs.Transactions.{transactions_of}
use Rattle.table.specs.Table.{table_of}
use Rattle.recovery.specs.Log.{LogRead, read_log}
use Rattle.recovery.specs.Recover.{stats_of, recovered_of, listing, read_into, lists_test_of, recover_of}
use Rattle.recovery.proofs.Accepts.{Accepted}
use Rattle.store.specs.Order.{replay_order, replayed}
use Rattle.store.specs.Change.{run_of}
use Rattle.store.proofs.Replays.{replay_is}
use Rattle.crash.specs.Request.{Written}
use Rattle.crash.specs.Kept.{listed_as, listed_all}
use Rattle.crash.specs.Life.{Held}
use Rattle.crash.specs.Settings.{run_numbers}
use Rattle.crash.specs.Crash.{Lent, Enough, recovering, replaying, IsStored, read_as, Follows}
use Rattle.crash.proofs.Segments.{Segment, left_of, torn_of, Holds}
use Rattle.crash.proofs.Listings.{segments_read, segments_kept}
use Rattle.crash.proofs.Holdings.{Kept}
use Rattle.crash.proofs.Rooms.{transactions_fit, keys_fit}
use Rattle.crash.proofs.Orders.{order_committed, order_ascending}
use Rattle.crash.proofs.Settles.{settled}

stored_all : (area : List ℕ) (ws : List Written) → All (Kept area) ws → All (IsStored area) ws
stored_all area [] ks = tt
stored_all area (w ∷ ws) ks = (ks.0.payload, stored_all area ws ks.1)

module _ (h : Held) (ss : List Segment) (holds : Holds h ss) (lent : Lent) (enough : Enough (left_of ss) lent) where
  abbrev kept : List Written
  kept = left_of ss

  abbrev log : LogRead
  log = read_log h.area (records_of h.used h.directory)

  read_is : log ≡ read_as kept (length (torn_of ss))
  read_is = ap (read_log h.area) holds.records ∙ segments_read h.area ss holds.stand

  entries_fit : length log.entries ≤ length lent.entries / 32
  entries_fit = rw (read_is, length-map kept listed_as) enough.every_entry

  numbers_fit : length (transactions_of log.entries) ≤ length lent.transactions / 24
  numbers_fit = rw read_is (transactions_fit kept lent enough)

  recovers : recovering h lent ≡ listing log (length lent.entries) (length lent.transactions)
  unfolding recover_of read_into lists_test_of
  recovers =
      rw (enough.entry_list, enough.transaction_list, holds.sound, le-leb _ (length lent.entries / 32) entries_fit, le-leb _ (length lent.transactions / 24) numbers_fit)

  abbrev order : List ℕ
  order = replay_order (listed_all kept)

  ran : run_of (length lent.table / 320) h.area (replayed log.entries) [] ≡ accepted (run_numbers order kept [])
  ran =
      rw read_is
      (settled h.area kept (segments_kept h.area ss holds.stand) (length lent.table / 320) (keys_fit kept lent enough))

  replays : replaying h lent
      ≡ record {
        answer = (recovering h lent).answer;
        entries = (recovering h lent).entries;
        transactions = (recovering h lent).transactions;
        table = table_of (length lent.table) (run_numbers order kept []);
      }
  replays =
      let a : Accepted h.area h.directory h.used lent.entries lent.transactions (recovered_of log) =
      record { sounds = holds.sound; entries_fit = entries_fit; transactions_fit = numbers_fit; values_are = refl; lists_are = recovers } in
      replay_is h.area h.directory h.used lent.entries lent.transactions lent.table (recovered_of log) enough.table_fits a (run_numbers order kept []) ran
      ∙ rw recovers

  pub holds_follows : Follows h (left_of ss) (length (torn_of ss)) lent
  unfolding recovered_of stats_of
  holds_follows =
      record {
        values = recovered_of (read_as kept (length (torn_of ss)));
        recovery = recovers ∙ rw read_is;
        entry_count = length-map kept listed_as;
        payloads = stored_all h.area kept (segments_kept h.area ss holds.stand);
        no_checksum = refl;
        partials = refl;
        others = refl;
        order = order;
        committed = λ number. order_committed number kept;
        ascending = order_ascending (listed_all kept);
        replay = replays;
      }

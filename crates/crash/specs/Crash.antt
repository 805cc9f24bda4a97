-- Demand 3, clause by clause: `demand_3` for one run and one cut, `any_history` for any number of both.
-- Assumes nothing.
use Rattle.std.specs.Prelude.{ℕ, ◌/◌, ◌<◌, ◌≤◌, ◌≡◌, true, cond, ◌↔◌, length}
use mathlib.Core.List.{List, [], ◌∷◌, map, Memᴰ}
use Rattle.refusal.specs.Answer.{accepted}
use Rattle.records.specs.Dense.{dense, All}
use Rattle.directory.specs.Lent.{fits_of}
use Rattle.directory.specs.declared.lent.Lent.TheVariants as Lends
use Rattle.lists.specs.Entries.{entry_record_bytes}
use Rattle.lists.specs.Transactions.{transaction_bytes, transactions_of}
use Rattle.recovery.specs.Log.{LogRead}
use Rattle.recovery.specs.Payload.{payload_in}
use Rattle.recovery.specs.Recover.{recovered_of, Recovering, recover_of}
use Rattle.recovery.specs.declared.Recovered.{Recovered}
use Rattle.table.specs.Table.{table_of}
use Rattle.store.specs.Replay.{Replaying, replay_of}
use Rattle.crash.specs.Request.{Request, encoded, Written}
use Rattle.crash.specs.Kept.{kept_by, is_inside, listed_as, listed_all}
use Rattle.crash.specs.Life.{Held, Life, empty, Cut, cut_place, IsCut, cut_by, Step, opens, appends, Lives}
use Rattle.crash.specs.Settings.{run_numbers, is_committed, keys_of, number_of}

-- ---- what is lent to recovery and replay

pub record Lent : Type 0 where
  pub entries : List ℕ
  pub transactions : List ℕ
  pub table : List ℕ

-- "lists that hold every entry and number, and a table with a record for every key ever written, all of whole records and none
-- over its most", of these entries
pub record Enough (ws : List Written) (lent : Lent) : Type 0 where
  pub entry_list : fits_of Lends.EntryList (length lent.entries) ≡ true
  pub every_entry : length ws ≤ length lent.entries / 32
  pub transaction_list : fits_of Lends.Transactions (length lent.transactions) ≡ true
  pub numbers : List ℕ
  pub every_number : All (λ (n : ℕ). Memᴰ n numbers) (map number_of ws)
  pub number_records : length numbers ≤ length lent.transactions / 24
  pub table_fits : fits_of Lends.Table (length lent.table) ≡ true
  pub keys : List (List ℕ)
  pub every_key : All (λ (key : List ℕ). Memᴰ key keys) (keys_of ws)
  pub key_records : length keys ≤ length lent.table / 320

abbrev pub recovering : Held → Lent → Recovering
recovering h lent = recover_of h.area h.directory h.used lent.entries lent.transactions

abbrev pub replaying : Held → Lent → Replaying
replaying h lent = replay_of h.area h.directory h.used lent.entries lent.transactions lent.table

-- ---- what follows, of a log that holds these entries

-- an entry's own encoding stands at its listed place: its number, time, key and values, the old one too
abbrev pub IsStored : (area : List ℕ) → Written → Type 0
IsStored area w = payload_in area (listed_as w) ≡ encoded w.request

-- "by ascending number", each once
abbrev pub Ascending : List ℕ → Type 0
Ascending [] = Unit {0}
Ascending (n ∷ ns) = All (λ (m : ℕ). n < m) ns × Ascending ns

-- what is read of such a log
abbrev pub read_as : List Written → (partial : ℕ) → LogRead
read_as ws partial = record { entries = listed_all ws; partial = partial; checksum = 0 }

pub record Follows (h : Held) (kept : List Written) (partial : ℕ) (lent : Lent) : Type 0 where
  -- "recovery returns exactly the entries": it is accepted, both lists byte for byte are theirs, and so is what stands at each
  -- listed place
  pub values : Recovered
  pub recovery :
      recovering h lent
      ≡ record {
        answer = accepted values;
        entries = dense entry_record_bytes (length lent.entries) (listed_all kept);
        transactions = dense transaction_bytes (length lent.transactions) (transactions_of (listed_all kept));
      }
  pub entry_count : values.entries ≡ length kept
  pub payloads : All (IsStored h.area) kept
  -- "counts no checksum failure"
  pub no_checksum : values.stats.checksum_failures ≡ 0
  -- and so many partial writes
  pub partials : values.stats.partial_writes ≡ partial
  -- the other numbers are those of a log that reads so
  pub others : values ≡ recovered_of (read_as kept partial)
  -- "by ascending number, the transactions whose last kept marker is a commit"
  pub order : List ℕ
  pub committed : (number : ℕ) → Memᴰ number order ↔ (is_committed number kept ≡ true)
  pub ascending : Ascending order
  -- replay answers as recovery does, and "leaves the table made by running, one after another" these
  pub replay :
      replaying h lent
      ≡ record {
        answer = (recovering h lent).answer;
        entries = (recovering h lent).entries;
        transactions = (recovering h lent).transactions;
        table = table_of (length lent.table) (run_numbers order kept []);
      }

-- ---- demand 3

pub record Story : Type 0 where
  -- the writer's bound and buffers, what it is asked to append, and what it has then
  pub bound : ℕ
  pub area : List ℕ
  pub directory : List ℕ
  pub requests : List Request
  pub log : Life
  pub cut : Cut
  pub lent : Lent

pub record Given (s : Story) : Type 0 where
  -- "Open the writer once on an empty directory and append any list of entries its entry call accepts, with no other call
  -- between and every buffer handed back untouched."
  pub written : Lives (opens s.bound ∷ map appends s.requests) (empty s.area s.directory) s.log
  -- "Keep the segments before some one whole, that one up to any byte, and none after."
  pub is_cut : IsCut s.log.held s.cut
  -- "Given lists that hold every entry and number, and a table with a record for every key ever written"
  pub enough : Enough s.log.entries s.lent

abbrev pub cut_of : Story → ℕ
cut_of s = cut_place s.log.held s.cut

-- "the entries ending at or before the cut", and "one partial write exactly if the cut is inside an entry"
abbrev pub Demand3 : Story → Type 0
Demand3 s =
    Follows (cut_by s.cut s.log).held (kept_by (cut_of s) s.log.entries) (cond (is_inside (cut_of s) s.log.entries) 1 0) s.lent

-- ---- any history

pub record History : Type 0 where
  pub bound : ℕ
  pub area : List ℕ
  pub directory : List ℕ
  pub steps : List Step
  pub log : Life
  pub lent : Lent

pub record Lived (s : History) : Type 0 where
  -- opened on an empty directory, and then any steps
  pub lived : Lives (opens s.bound ∷ s.steps) (empty s.area s.directory) s.log
  -- lists and a table for what is there
  pub enough : Enough s.log.entries s.lent

-- the entries that every cut left, and as many partial writes as there are segments that end inside an entry
abbrev pub AnyHistory : History → Type 0
AnyHistory s = Follows s.log.held s.log.entries (length s.log.torn) s.lent

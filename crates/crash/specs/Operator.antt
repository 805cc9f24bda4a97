-- What an operator relies on, of the table that replay leaves.
-- Assumes nothing.
use Rattle.std.specs.Prelude.{ℕ, ◌/◌, ◌≡◌, true, false, length}
use mathlib.Core.List.{List, ◌∷◌, ◌++◌, map, Memᴰ}
use Rattle.std.proofs.Math.Option.{Option, none}
use Rattle.records.specs.Dense.{All}
use Rattle.table.specs.Row.{Row}
use Rattle.table.specs.Table.{Sorted, lookup, live_rows}
use Rattle.store.specs.Effect.{puts}
use Rattle.crash.specs.Request.{Request, Written}
use Rattle.crash.specs.Kept.{kept_by, is_inside}
use Rattle.crash.specs.Life.{Life, empty, cut_by, opens, appends, Lives}
use Rattle.crash.specs.Settings.{effect_by}
use Rattle.crash.specs.Touch.{names, touches, Untouched, leaves}
use Rattle.crash.specs.Crash.{Lent, recovering, replaying, Follows, Story, cut_of}

-- the rows of a table, and the value that it holds for a key
abbrev pub rows_in : (table : List ℕ) → List Row
rows_in table = live_rows (length table / 320) table

abbrev pub value_in : (table key : List ℕ) → Option (List ℕ)
value_in table key = lookup key (rows_in table)

-- an entry of one of these transactions, which set the key to the value
pub record Source (kept : List Written) (order : List ℕ) (row : Row) : Type 0 where
  pub entry : Written
  pub is_kept : Memᴰ entry kept
  pub is_run : Memᴰ entry.request.tx order
  pub sets : effect_by entry.request ≡ puts row.key row.value

-- one of these transactions touches the key, and what it leaves of it is what the key holds
pub record Decides (kept : List Written) (numbers : List ℕ) (key : List ℕ) (holds : Option (List ℕ)) : Type 0 where
  pub number : ℕ
  pub is_one : Memᴰ number numbers
  pub touching : touches key number kept ≡ true
  pub left : holds ≡ leaves key number kept

-- of a table that replay left, with the transactions that it ran, in their order
pub record Relies (table : List ℕ) (kept : List Written) (order : List ℕ) : Type 0 where
  -- a transaction whose last kept marker is a commit is applied with all its kept entries: a key that it touches holds what
  -- these leave of it, or what those of a later one leave
  pub applied : (before : List ℕ) (n : ℕ) (after : List ℕ) → order ≡ before ++ (n ∷ after)
      → (key : List ℕ) → touches key n kept ≡ true → Decides kept (n ∷ after) key (value_in table key)
  -- the last transaction that touches a key decides what it holds
  pub last_decides : (before : List ℕ) (n : ℕ) (after : List ℕ) → order ≡ before ++ (n ∷ after)
      → (key : List ℕ) → touches key n kept ≡ true → All (Untouched key kept) after → value_in table key ≡ leaves key n kept
  -- nothing of another transaction is in the table, and no key twice
  pub nothing_else : All (Source kept order) (rows_in table)
  pub sorted : Sorted (rows_in table)
  -- a key that no kept entry names is absent
  pub absent : (key : List ℕ) → All (λ (w : Written). names key (effect_by w.request) ≡ false) kept → value_in table key ≡ none

-- ---- cutting nothing gives everything

abbrev pub request_of : Written → Request
request_of w = w.request

-- of a log as its writer left it
pub record Everything (requests : List Request) (log : Life) (lent : Lent) : Type 0 where
  -- all that were asked for, in their order
  pub asked : map request_of log.entries ≡ requests
  -- recovery returns them all and counts no partial write, and replay runs all whose last marker is a commit
  pub follows : Follows log.held log.entries 0 lent

-- of a cut at the end of the last segment
pub record NothingLost (s : Story) : Type 0 where
  pub entries : kept_by (cut_of s) s.log.entries ≡ s.log.entries
  pub whole : is_inside (cut_of s) s.log.entries ≡ false

-- ---- an entry after the cut leaves no trace

-- The cut log is held against the log of a writer that was never asked for the entries after the cut. Recovery leaves the same
-- lists of both, and replay the same table. What is answered of each is told by `Follows`.
pub record NoTrace (s : Story) : Type 0 where
  pub before : List Request
  pub after : List Request
  pub requests : s.requests ≡ before ++ after
  pub earlier : Life
  pub written : Lives (opens s.bound ∷ map appends before) (empty s.area s.directory) earlier
  -- these are the entries that end at or before the cut
  pub entries : earlier.entries ≡ kept_by (cut_of s) s.log.entries
  pub follows : Follows earlier.held earlier.entries 0 s.lent
  pub entry_list : (recovering (cut_by s.cut s.log).held s.lent).entries ≡ (recovering earlier.held s.lent).entries
  pub transactions : (recovering (cut_by s.cut s.log).held s.lent).transactions ≡ (recovering earlier.held s.lent).transactions
  pub table : (replaying (cut_by s.cut s.log).held s.lent).table ≡ (replaying earlier.held s.lent).table

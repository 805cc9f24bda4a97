-- What the entries of a log say of a number, by the paper's sentences alone.
-- Assumes nothing.
use Rattle.std.specs.Prelude.{ℕ, ◌+◌, Bool, true, false, cond, ◌||◌, List, [], ◌∷◌, ◌==◌}
use Rattle.std.proofs.Math.Option.{Option, none, some}
use Rattle.payload.specs.Kind.{commit_kind, abort_kind}
use Rattle.lists.specs.declared.entries.EntryRecord.{EntryRecord}
use Rattle.lists.specs.declared.transactions.RecoveryAction.{RecoveryAction}
use Rattle.lists.specs.declared.transactions.RecoveryAction.TheVariants.{Incomplete, Commit, Rollback}
use Rattle.lists.specs.declared.transactions.TransactionRecord.{TransactionRecord}

-- whether an entry has the number
unfoldable pub has_number : ℕ → List EntryRecord → Bool
has_number number [] = false
has_number number (e ∷ es) = e.tx_id == number || has_number number es

abbrev pub marker_of : (kind : ℕ) → RecoveryAction
marker_of kind = cond (kind == commit_kind) Commit (cond (kind == abort_kind) Rollback Incomplete)

abbrev pub or_else : RecoveryAction → RecoveryAction → RecoveryAction
or_else Incomplete action = action
or_else Commit action = Commit
or_else Rollback action = Rollback

-- the one for a committed transaction, else the other
abbrev pub if_committed : {A : Type 0} → RecoveryAction → A → A → A
if_committed Commit a b = a
if_committed Rollback a b = b
if_committed Incomplete a b = b

-- "The last marker of a number decides."
unfoldable pub last_marker : ℕ → List EntryRecord → RecoveryAction
last_marker number [] = Incomplete
last_marker number (e ∷ es) =
    or_else (last_marker number es) (cond (e.tx_id == number) (marker_of e.kind) Incomplete)

-- one for an entry that is no marker
abbrev pub unmarked : RecoveryAction → ℕ
unmarked Incomplete = 1
unmarked Commit = 0
unmarked Rollback = 0

abbrev pub to_count : (kind : ℕ) → ℕ
to_count kind = unmarked (marker_of kind)

-- "All its non-marker entries belong to it, those after the marker too."
unfoldable pub count_of : ℕ → List EntryRecord → ℕ
count_of number [] = 0
count_of number (e ∷ es) = cond (e.tx_id == number) (to_count e.kind) 0 + count_of number es

-- what a log says of a number: its transaction, if an entry has the number
unfoldable pub said_of : ℕ → List EntryRecord → Option TransactionRecord
said_of number es =
    cond (has_number number es)
    (some (record { tx_id = number; action = last_marker number es; count = count_of number es }))
    none

abbrev pub is_there : {A : Type 0} → Option A → Bool
is_there none = false
is_there (some a) = true

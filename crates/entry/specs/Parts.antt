-- What the methods of `WalEntry` answer.
-- Assumes nothing.
use Rattle.std.specs.Prelude.{ℕ, Bool, eqb}
use Rattle.payload.specs.Kind.{insert_kind, update_kind, delete_kind, commit_kind, abort_kind}
use Rattle.entry.specs.declared.WalEntry.{WalEntry}
use Rattle.entry.specs.declared.WalEntry.TheVariants.{Insert, Update, Delete, Commit, Abort}

abbrev pub tx_of : WalEntry → ℕ
tx_of (Insert tx time key value) = tx
tx_of (Update tx time key old new) = tx
tx_of (Delete tx time key old) = tx
tx_of (Commit tx time) = tx
tx_of (Abort tx time) = tx

abbrev pub time_of : WalEntry → ℕ
time_of (Insert tx time key value) = time
time_of (Update tx time key old new) = time
time_of (Delete tx time key old) = time
time_of (Commit tx time) = time
time_of (Abort tx time) = time

abbrev pub kind_of : WalEntry → ℕ
kind_of (Insert tx time key value) = insert_kind
kind_of (Update tx time key old new) = update_kind
kind_of (Delete tx time key old) = delete_kind
kind_of (Commit tx time) = commit_kind
kind_of (Abort tx time) = abort_kind

abbrev pub is_commit : WalEntry → Bool
is_commit entry = eqb (kind_of entry) commit_kind

abbrev pub is_abort : WalEntry → Bool
is_abort entry = eqb (kind_of entry) abort_kind

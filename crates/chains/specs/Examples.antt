-- Worked examples, by computation.
-- Assumes nothing.
use Rattle.std.specs.Prelude.{◌≡◌, refl, List, [], ◌∷◌, ℕ}
use Rattle.fields.specs.Le.{le_of, le_bytes}
use Rattle.records.specs.Dense.{bytes_of, dense}
use Rattle.records.specs.Sorted.{compare_numbers, put}
use Rattle.records.specs.Halving.{halve, halved, found_in}
use Rattle.lists.specs.Entries.{entry_record_bytes, entry_record_at}
use Rattle.lists.specs.Transactions.{transaction_bytes, transaction_at, noted, begun, note, note_all, transactions_of}
use Rattle.lists.specs.Admit.{order_in}
use Rattle.lists.specs.declared.entries.EntryRecord.{EntryRecord}
use Rattle.lists.specs.declared.transactions.RecoveryAction.{RecoveryAction}
use Rattle.lists.specs.declared.transactions.RecoveryAction.TheVariants.{Incomplete, Commit, Rollback}
use Rattle.chains.specs.Chain.{LinkedEntry, LinkedTransaction, linked_entry_bytes, linked_transaction_bytes, first_from, linked_from, begun_by, linked_entries, linked_transactions, entries_of, from_link}
use Rattle.chains.specs.Link.{spare_at, with_spare, lent, link_one, link_all, unlink_all}

-- an entry of a number and a kind
abbrev entry : ℕ → ℕ → EntryRecord
entry number kind = record { tx_id = number; place = 13; len = 38; kind = kind }

abbrev leading : EntryRecord → ℕ → LinkedEntry
leading e link = record { entry = e; next = link }

abbrev beginning : (number : ℕ) → RecoveryAction → (count link : ℕ) → LinkedTransaction
beginning number action count link =
    record { transaction = record { tx_id = number; action = action; count = count }; first = link }

-- three transactions whose entries stand between one another's: 7 is rolled back, 3 committed, 5 incomplete
abbrev three : List EntryRecord
three = entry 7 0 ∷ entry 3 1 ∷ entry 7 2 ∷ entry 5 0 ∷ entry 3 3 ∷ entry 7 4 ∷ []

-- ---- on lists

-- a link is the place plus one, and the last entry of a number leads nowhere
three_linked : linked_from 0 three ≡ leading (entry 7 0) 3 ∷ leading (entry 3 1) 5 ∷ leading (entry 7 2) 6 ∷ leading (entry 5 0) 0 ∷ leading (entry 3 3) 0 ∷ leading (entry 7 4) 0 ∷ []
unfolding linked_from first_from
three_linked = refl

three_begun : begun_by three (transactions_of three) ≡ beginning 3 Commit 1 2 ∷ beginning 5 Incomplete 1 4 ∷ beginning 7 Rollback 2 1 ∷ []
unfolding begun_by first_from transactions_of note_all note put begun noted compare_numbers
three_begun = refl

-- following the links of 7: from its first entry, from the second, and at the end
from_first : from_link 7 1 three ≡ entry 7 0 ∷ entry 7 2 ∷ entry 7 4 ∷ []
unfolding from_link entries_of
from_first = refl

from_second : from_link 7 3 three ≡ entry 7 2 ∷ entry 7 4 ∷ []
unfolding from_link entries_of
from_second = refl

from_nowhere : from_link 7 0 three ≡ []
unfolding from_link
from_nowhere = refl

-- ---- in bytes

-- the link stands behind the kind byte, in seven bytes
an_entry : linked_entry_bytes (leading (entry 7 4) 258) ≡ 7 ∷ 0 ∷ 0 ∷ 0 ∷ 0 ∷ 0 ∷ 0 ∷ 0 ∷ 13 ∷ 0 ∷ 0 ∷ 0 ∷ 0 ∷ 0 ∷ 0 ∷ 0 ∷ 38 ∷ 0 ∷ 0 ∷ 0 ∷ 0 ∷ 0 ∷ 0 ∷ 0 ∷ 4 ∷ 2 ∷ 1 ∷ 0 ∷ 0 ∷ 0 ∷ 0 ∷ 0 ∷ []
unfolding linked_entry_bytes le_bytes
an_entry = refl

-- and behind the action byte
a_transaction : linked_transaction_bytes (beginning 7 Rollback 3 258) ≡ 7 ∷ 0 ∷ 0 ∷ 0 ∷ 0 ∷ 0 ∷ 0 ∷ 0 ∷ 2 ∷ 2 ∷ 1 ∷ 0 ∷ 0 ∷ 0 ∷ 0 ∷ 0 ∷ 3 ∷ 0 ∷ 0 ∷ 0 ∷ 0 ∷ 0 ∷ 0 ∷ 0 ∷ []
unfolding linked_transaction_bytes le_bytes
a_transaction = refl

-- with a record of room behind the used ones
linked_in_bytes : link_all (lent (dense entry_record_bytes 224 three) (dense transaction_bytes 96 (transactions_of three))) 3 6 ≡ lent (linked_entries 224 three) (linked_transactions 96 three)
unfolding link_all link_one found_in halved halve order_in spare_at with_spare dense bytes_of linked_entry_bytes linked_transaction_bytes linked_from begun_by first_from entry_record_bytes entry_record_at transaction_bytes transaction_at transactions_of note_all note put begun noted compare_numbers le_bytes le_of
linked_in_bytes = refl

entries_unlinked : unlink_all 32 25 (linked_entries 224 three) 6 ≡ dense entry_record_bytes 224 three
unfolding unlink_all with_spare dense bytes_of linked_entry_bytes linked_from first_from entry_record_bytes le_bytes
entries_unlinked = refl

transactions_unlinked : unlink_all 24 9 (linked_transactions 96 three) 3 ≡ dense transaction_bytes 96 (transactions_of three)
unfolding unlink_all with_spare dense bytes_of linked_transaction_bytes begun_by first_from transaction_bytes transactions_of note_all note put begun noted compare_numbers le_bytes
transactions_unlinked = refl

-- the transaction of 7 leads to entry 0, and that to entry 2
first_read : spare_at 24 9 (linked_transactions 96 three) 2 ≡ 1
unfolding spare_at dense bytes_of linked_transaction_bytes begun_by first_from transactions_of note_all note put begun noted compare_numbers le_bytes le_of
first_read = refl

next_read : spare_at 32 25 (linked_entries 224 three) 0 ≡ 3
unfolding spare_at dense bytes_of linked_entry_bytes linked_from first_from le_bytes le_of
next_read = refl

-- an entry whose number has no transaction is left alone, and past the end there is no link
no_transaction : link_all (lent (dense entry_record_bytes 32 (entry 7 0 ∷ [])) []) 0 1 ≡ lent (dense entry_record_bytes 32 (entry 7 0 ∷ [])) []
unfolding link_all link_one found_in halved halve
no_transaction = refl

past_the_end : spare_at 32 25 (dense entry_record_bytes 32 (entry 7 0 ∷ [])) 1 ≡ 0
unfolding spare_at dense bytes_of entry_record_bytes le_bytes le_of
past_the_end = refl

-- records of no bytes begin at the front, all of them
of_no_bytes : spare_at 0 1 (7 ∷ 2 ∷ 1 ∷ []) 5 ≡ 258
unfolding spare_at le_of
of_no_bytes = refl

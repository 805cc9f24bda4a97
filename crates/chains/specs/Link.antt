-- The links written into the lists and taken out again, in bytes, on any lists and any counts.
-- Assumes nothing.
use Rattle.std.specs.Prelude.{ℕ, zero, suc, ◌+◌, ◌*◌, List, drop}
use Rattle.std.proofs.lemmas.List.Edits.{sets}
use Rattle.fields.specs.Le.{le_bytes, num_at}
use Rattle.records.specs.Halving.{found_in}
use Rattle.std.specs.declared.result.Result.{Result}
use Rattle.std.specs.declared.result.Result.TheVariants.{Ok, Err}
use Rattle.lists.specs.Entries.{entry_record_at}
use Rattle.lists.specs.Admit.{order_in}

-- the seven spare bytes of record k, where each record has `size` bytes and they stand at `offset` in it: an entry's at 25 of
-- 32 bytes, a transaction's at 9 of 24
unfoldable pub spare_at : (size offset : ℕ) → List ℕ → (k : ℕ) → ℕ
spare_at size offset s k = num_at (size * k + offset) 7 s

unfoldable pub with_spare : (size offset : ℕ) → List ℕ → (k link : ℕ) → List ℕ
with_spare size offset s k link = sets s (size * k + offset) (le_bytes 7 link)

pub record Lent : Type 0 where
  pub entries : List ℕ
  pub transactions : List ℕ

abbrev pub lent : (entries transactions : List ℕ) → Lent
lent entries transactions = record { entries = entries; transactions = transactions }

-- entry k goes before the first entry of its transaction
abbrev pub link_at : Result ℕ ℕ → Lent → (k : ℕ) → Lent
link_at (Ok t) l k =
    lent (with_spare 32 25 l.entries k (spare_at 24 9 l.transactions t)) (with_spare 24 9 l.transactions t (k + 1))
link_at (Err t) l k = l

unfoldable pub link_one : Lent → (m k : ℕ) → Lent
link_one l m k = link_at (found_in (order_in l.transactions (entry_record_at (drop (32 * k) l.entries)).tx_id) m) l k

-- the first n entries, from the last to the first, among the first m transactions
unfoldable pub link_all : Lent → (m n : ℕ) → Lent
link_all l m zero = l
link_all l m (suc k) = link_all (link_one l m k) m k

-- the links of the first n records become 0, from the last to the first
unfoldable pub unlink_all : (size offset : ℕ) → List ℕ → (n : ℕ) → List ℕ
unlink_all size offset s zero = s
unlink_all size offset s (suc k) = unlink_all size offset (with_spare size offset s k 0) k

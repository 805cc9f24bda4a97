-- Links written, read and taken out where the linked records are dense.
-- Assumes nothing.
use mathlib.Core.Path.{◌≡◌, refl, sym, ap}
use mathlib.Core.List.{List, [], ◌∷◌, ◌++◌, append_assoc, append-nil, map, map-append}
use Prim.Native.Nat.{ℕ, suc, ◌+◌, ◌-◌, ◌*◌, ◌^◌, ◌<◌}
use lib.ListN.{length, drop, replicate, length-append}
use lib.Seq.{drop_at, append_snoc}
use Rattle.fields.specs.Le.{le_bytes}
use Rattle.fields.proofs.Numbers.{length_bytes, num_front}
use Rattle.records.specs.Dense.{bytes_of, dense}
use Rattle.records.proofs.Dense.{bytes_append, length_records, dense_from}
use Rattle.records.proofs.Stores.{sets_part}
use Rattle.lists.specs.Entries.{entry_record_at, EntryFits}
use Rattle.lists.specs.Transactions.{transaction_at}
use Rattle.lists.proofs.TransactionRecords.{TransactionFits}
use Rattle.chains.specs.Chain.{LinkedEntry, LinkedTransaction, linked_entry_bytes, linked_transaction_bytes}
use Rattle.chains.proofs.Records.{entry_to, transaction_to, entry_front, entry_front_lem, entry_parts, transaction_front, transaction_front_lem, transaction_parts, length_linked_entry, length_linked_transaction, linked_entry_back, linked_transaction_back}
use Rattle.chains.proofs.Last.{length_snoc, from_last}
use Rattle.chains.specs.Link.{spare_at, with_spare, unlink_all}

-- records of one size, each with a link of seven bytes at one place
pub record HasLink {R : Type 0} (bytes : R → List ℕ) (size offset : ℕ) : Type 0 where
  pub sized : (r : R) → length (bytes r) ≡ size
  pub front : R → List ℕ
  pub behind : R → List ℕ
  pub link : R → ℕ
  pub linked : R → ℕ → R
  pub place : (r : R) → length (front r) ≡ offset
  pub parts : (r : R) (v : ℕ) (rest : List ℕ) → bytes (linked r v) ++ rest ≡ front r ++ (le_bytes 7 v ++ (behind r ++ rest))
  pub itself : (r : R) → linked r (link r) ≡ r

abbrev pub entries_have : HasLink linked_entry_bytes 32 25
entries_have =
    record {
      sized = length_linked_entry;
      front = λ l. entry_front l.entry;
      behind = λ _. [];
      link = λ l. l.next;
      linked = λ l v. entry_to l.entry v;
      place = λ l. entry_front_lem l.entry;
      parts = λ l v rest. entry_parts l.entry v rest;
      itself = λ l. refl;
    }

abbrev pub transactions_have : HasLink linked_transaction_bytes 24 9
transactions_have =
    record {
      sized = length_linked_transaction;
      front = λ l. transaction_front l.transaction;
      behind = λ l. le_bytes 8 l.transaction.count;
      link = λ l. l.first;
      linked = λ l v. transaction_to l.transaction v;
      place = λ l. transaction_front_lem l.transaction;
      parts = λ l v rest. transaction_parts l.transaction v rest;
      itself = λ l. refl;
    }

module _ {R : Type 0} {bytes : R → List ℕ} {size offset : ℕ} (has : HasLink bytes size offset) where
  module _ (room : ℕ) (before : List R) (r : R) (after : List R) where
    -- the bytes up to a link, the link, and those behind it
    dense_parts : (v : ℕ) → dense bytes room (before ++ (has.linked r v ∷ after)) ≡ (bytes_of bytes before ++ has.front r) ++ (le_bytes 7 v ++ (has.behind r ++ (bytes_of bytes after ++ replicate (room - size * (length before + suc (length after))) 0)))
    unfolding bytes_of dense
    dense_parts v =
        rw (length_records bytes size has.sized (before ++ (has.linked r v ∷ after)), length-append before (has.linked r v ∷ after), bytes_append bytes before (has.linked r v ∷ after), append_assoc (bytes_of bytes before), append_assoc (bytes (has.linked r v)), has.parts r v, append_assoc (bytes_of bytes before))

    dense_front : length (bytes_of bytes before ++ has.front r) ≡ size * length before + offset
    dense_front = rw (length-append, length_records bytes size has.sized before, has.place r)

    -- a link is written
    pub link_written : (v : ℕ) → with_spare size offset (dense bytes room (before ++ (r ∷ after))) (length before) v ≡ dense bytes room (before ++ (has.linked r v ∷ after))
    unfolding with_spare
    link_written v =
        let e : dense bytes room (before ++ (r ∷ after)) ≡ dense bytes room (before ++ (has.linked r (has.link r) ∷ after)) = rw (has.itself r) in
        rw (e, dense_parts (has.link r), dense_parts v)
        (sets_part (bytes_of bytes before ++ has.front r) (le_bytes 7 (has.link r)) _ (le_bytes 7 v) (size * length before + offset) dense_front (rw (length_bytes 7 v, length_bytes 7 (has.link r))))

    -- a link of seven bytes is read
    pub link_read : has.link r < 2 ^ 56 → spare_at size offset (dense bytes room (before ++ (r ∷ after))) (length before) ≡ has.link r
    unfolding spare_at
    link_read h =
        let e : dense bytes room (before ++ (r ∷ after)) ≡ dense bytes room (before ++ (has.linked r (has.link r) ∷ after)) = rw (has.itself r) in
        rw (e, dense_parts (has.link r), drop_at (bytes_of bytes before ++ has.front r) _ (size * length before + offset) dense_front)
        (num_front 7 (has.link r) _ h)

  -- the links of some records become 0, from the last to the first
  module _ (room : ℕ) where
    abbrev Unlinks : List R → Type 0
    Unlinks rs = (after : List R) → unlink_all size offset (dense bytes room (rs ++ after)) (length rs) ≡ dense bytes room (map (λ (r : R). has.linked r 0) rs ++ after)

    unlinks_none : Unlinks []
    unfolding unlink_all
    unlinks_none after = refl

    unlinks_turn : (s : List ℕ) (k : ℕ) → unlink_all size offset s (suc k) ≡ unlink_all size offset (with_spare size offset s k 0) k
    unfolding unlink_all
    unlinks_turn s k = refl

    unlinks_one : (rs : List R) (r : R) → Unlinks rs → Unlinks (rs ++ (r ∷ []))
    unlinks_one rs r us after =
        rw (length_snoc rs r, append_snoc rs r after, unlinks_turn (dense bytes room (rs ++ (r ∷ after))) (length rs), link_written room rs r after 0, us (has.linked r 0 ∷ after), map-append)
        (ap (dense bytes room) (sym (append_snoc (map (λ (r : R). has.linked r 0) rs) (has.linked r 0) after)))

    pub unlinks : (rs : List R) → unlink_all size offset (dense bytes room rs) (length rs) ≡ dense bytes room (map (λ (r : R). has.linked r 0) rs)
    unlinks rs = rw (append-nil rs, append-nil (map (λ (r : R). has.linked r 0) rs)) at (from_last Unlinks unlinks_one unlinks_none rs [])

-- ---- the records of the two lists, whatever their links are

pub entry_there : (room : ℕ) (before : List LinkedEntry) (l : LinkedEntry) (after : List LinkedEntry) → EntryFits l.entry → entry_record_at (drop (32 * length before) (dense linked_entry_bytes room (before ++ (l ∷ after)))) ≡ l.entry
entry_there room before l after f = rw (dense_from linked_entry_bytes 32 length_linked_entry room before l after) (linked_entry_back l _ f)

pub transaction_there : (room : ℕ) (before : List LinkedTransaction) (l : LinkedTransaction) (after : List LinkedTransaction) → TransactionFits l.transaction → transaction_at (drop (24 * length before) (dense linked_transaction_bytes room (before ++ (l ∷ after)))) ≡ l.transaction
transaction_there room before l after f = rw (dense_from linked_transaction_bytes 24 length_linked_transaction room before l after) (linked_transaction_back l _ f)

-- Linking the lists of a log: each entry leads to the next of its number, and each transaction to its first.
-- Assumes nothing.
use mathlib.Core.Path.{◌≡◌, refl, sym, ap, ◌∙◌}
use mathlib.Core.Bool.{true}
use mathlib.Core.List.{List, [], ◌∷◌, ◌++◌, append-nil, map-append}
use Prim.Native.Nat.{ℕ, suc, ◌+◌, ◌*◌, ◌^◌, ◌<◌}
use native.Mathlib.Numerals.{add-one}
use native.Mathlib.Omega.{arith}
use lib.ListN.{length, drop, length-append, length-map}
use lib.Seq.{append_snoc}
use Rattle.records.specs.Dense.{dense, All}
use Rattle.records.specs.Sorted.{compare_numbers, place_of, put, Ascends}
use Rattle.records.specs.Halving.{found_in}
use Rattle.std.specs.declared.result.Result.{Result}
use Rattle.std.specs.declared.result.Result.TheVariants.{Ok, Err}
use Rattle.records.proofs.Dense.{all_at}
use Rattle.records.proofs.Sorted.{numbers_order, place_at, place_gap}
use Rattle.records.proofs.Halving.{halve_place}
use Rattle.lists.specs.Entries.{entry_record_at, entry_record_bytes, EntryFits}
use Rattle.lists.specs.Transactions.{transaction_at, transaction_bytes, begun, transaction_of, transactions_of}
use Rattle.lists.specs.Markers.{is_there}
use Rattle.lists.specs.Admit.{order_in}
use Rattle.lists.specs.declared.entries.EntryRecord.{EntryRecord}
use Rattle.lists.specs.declared.transactions.TransactionRecord.{TransactionRecord}
use Rattle.lists.proofs.Numbers.{transactions_ascend, transactions_fit, transactions_numbers}
use Rattle.chains.specs.Chain.{LinkedEntry, LinkedTransaction, linked_entry_bytes, linked_transaction_bytes, first_from, linked_from, begun_by, linked_entries, linked_transactions}
use Rattle.chains.specs.Link.{Lent, lent, link_at, link_one, link_all}
use Rattle.chains.proofs.Last.{length_snoc, from_last}
use Rattle.chains.proofs.Records.{entry_to, transaction_to}
use Rattle.chains.proofs.Spare.{entries_have, transactions_have, link_written, link_read, entry_there, transaction_there}
use Rattle.chains.proofs.Firsts.{first_most, has_number_lem, linked_number, begun_from, length-begun, Begun, all_begun, begun_ascends, begins_here, begun_put}
use Rattle.chains.proofs.Unlinking.{plain, entries_plain, transactions_plain}

-- halving finds a number among linked transactions
found_linked : (T i : ℕ) (es : List EntryRecord) (number : ℕ) (ls : List LinkedTransaction) → Ascends compare_numbers linked_number ls → All (Begun i es) ls → found_in (order_in (dense linked_transaction_bytes T ls) number) (length ls) ≡ place_of compare_numbers linked_number number ls
unfolding order_in
found_linked T i es number ls a bs =
    halve_place compare_numbers numbers_order linked_number number (λ i. compare_numbers (transaction_at (drop (24 * i) (dense linked_transaction_bytes T ls))).tx_id number) ls a
    (λ before l after w. rw (w, transaction_there T before l after (all_at (Begun i es) before l after (rw w at bs)).fits))

-- one entry among others goes before the first of its transaction
link_standing : (E T : ℕ) (pre : List LinkedEntry) (e : EntryRecord) (post : List LinkedEntry) (before : List LinkedTransaction) (l : LinkedTransaction) (after : List LinkedTransaction) (k j : ℕ)
    → length pre ≡ k → length before ≡ j → l.first < 2 ^ 56
    → link_at (Ok j) (lent (dense linked_entry_bytes E (pre ++ (entry_to e 0 ∷ post))) (dense linked_transaction_bytes T (before ++ (l ∷ after)))) k
    ≡ lent (dense linked_entry_bytes E (pre ++ (entry_to e l.first ∷ post))) (dense linked_transaction_bytes T (before ++ (transaction_to l.transaction (suc k) ∷ after)))
link_standing E T pre e post before l after k j m n h =
    rw (← m, ← n, link_read transactions_have T before l after h, link_written entries_have E pre (entry_to e 0) post l.first, link_written transactions_have T before l after (length pre + 1), add-one)

module _ (E T : ℕ) (es : List EntryRecord) (fs : All EntryFits es) (small : length es < 2 ^ 56) where
  abbrev ts : List TransactionRecord
  ts = transactions_of es

  -- the entries behind the first ones are linked
  abbrev linked_behind : (before after : List EntryRecord) → Lent
  linked_behind before after =
      lent (dense linked_entry_bytes E (plain before ++ linked_from (length before) after))
      (dense linked_transaction_bytes T (begun_from (length before) after ts))

  module _ (before : List EntryRecord) (e : EntryRecord) (after : List EntryRecord) (whole : es ≡ before ++ (e ∷ after)) where
    abbrev k : ℕ
    k = length before

    abbrev ls : List LinkedTransaction
    ls = begun_from (suc k) after ts

    length_plain : length (plain before) ≡ k
    length_plain = length-map before _

    within : suc k + length after < 2 ^ 56
    within =
        let n : length es ≡ k + suc (length after) = ap length whole ∙ length-append before (e ∷ after) in
        omega (arith, small)

    ls_begun : All (Begun (suc k) after) ls
    ls_begun = all_begun (suc k) after ts (transactions_fit es fs (omega (arith, small)))

    ls_ascend : Ascends compare_numbers linked_number ls
    ls_ascend = begun_ascends (suc k) after ts (transactions_ascend es)

    there : is_there (transaction_of e.tx_id ts) ≡ true
    there = transactions_numbers e.tx_id es ∙ rw whole (has_number_lem before e after)

    -- the record that a number without one would get
    abbrev new : LinkedTransaction
    new = transaction_to (begun e) 0

    put_begun : put compare_numbers linked_number e.tx_id (begins_here k e after) new ls ≡ begun_from k (e ∷ after) ts
    put_begun = begun_put k e after new ts (transactions_ascend es) there

    abbrev behind : Lent
    behind = lent (dense linked_entry_bytes E (plain before ++ (entry_to e 0 ∷ linked_from (suc k) after))) (dense linked_transaction_bytes T ls)

    -- a number of the log has its transaction, so none is missing
    link_placed : (f : Result ℕ ℕ) → place_of compare_numbers linked_number e.tx_id ls ≡ f → link_at f behind k ≡ linked_behind before (e ∷ after)
    unfolding linked_from
    link_placed (Ok j) q =
        let s = place_at compare_numbers linked_number e.tx_id ls j q in
        let b = all_at (Begun (suc k) after) s.before s.found s.after (rw s.whole at ls_begun) in
        let n : linked_number s.found ≡ e.tx_id = numbers_order.equal (linked_number s.found) e.tx_id s.equal in
        let first : s.found.first ≡ first_from (suc k) e.tx_id after = b.first ∙ ap (λ (v : ℕ). first_from (suc k) v after) n in
        let h : s.found.first < 2 ^ 56 = omega (arith, first_most (suc k) e.tx_id after, within) in
        let t = sym (s.changed (begins_here k e after) new) ∙ put_begun in
        ap (λ (qs : List LinkedTransaction). link_at (Ok j) (lent behind.entries (dense linked_transaction_bytes T qs)) k) s.whole
        ∙ link_standing E T (plain before) e (linked_from (suc k) after) s.before s.found s.after k j length_plain s.place h
        ∙ rw (first, t)
    link_placed (Err j) q =
        let m = place_gap compare_numbers linked_number e.tx_id ls j q in
        let t = ap length (sym (m.inserted (begins_here k e after) new) ∙ put_begun) in
        let w = ap length m.whole in
        absurd (omega (arith, length-append m.before m.after, length-append m.before (new ∷ m.after), length-begun (suc k) after ts, length-begun k (e ∷ after) ts))

    behind_is : linked_behind (before ++ (e ∷ [])) after ≡ behind
    behind_is = rw (length_snoc before e, map-append, append_snoc)

    number_read : entry_record_at (drop (32 * k) behind.entries) ≡ e
    number_read =
        rw length_plain at (entry_there E (plain before) (entry_to e 0) (linked_from (suc k) after) (all_at EntryFits before e after (rw whole at fs)))

    found : found_in (order_in behind.transactions e.tx_id) (length ts) ≡ place_of compare_numbers linked_number e.tx_id ls
    found =
        ap (found_in (order_in behind.transactions e.tx_id)) (sym (length-begun (suc k) after ts)) ∙ found_linked T (suc k) after e.tx_id ls ls_ascend ls_begun

    link_next : link_one behind (length ts) k ≡ linked_behind before (e ∷ after)
    unfolding link_one
    link_next = rw (number_read, found) (link_placed (place_of compare_numbers linked_number e.tx_id ls) refl)

  -- the entries before those that are linked get linked
  abbrev Links : List EntryRecord → Type 0
  Links before = (after : List EntryRecord) → es ≡ before ++ after → link_all (linked_behind before after) (length ts) (length before) ≡ linked_behind [] es

  links_none : Links []
  unfolding link_all
  links_none after w = ap (linked_behind []) (sym w)

  links_one : (before : List EntryRecord) (e : EntryRecord) → Links before → Links (before ++ (e ∷ []))
  unfolding link_all
  links_one before e ih after w =
      let v : es ≡ before ++ (e ∷ after) = w ∙ append_snoc before e after in
      ap (λ (l : Lent). link_all l (length ts) (length (before ++ (e ∷ [])))) (behind_is before e after v)
      ∙ ap (link_all (behind before e after v) (length ts)) (length_snoc before e)
      ∙ ap (λ (l : Lent). link_all l (length ts) (length before)) (link_next before e after v)
      ∙ ih (e ∷ after) v

  -- where no entry is linked the lists are as recovery filled them
  behind_none : linked_behind es [] ≡ lent (dense entry_record_bytes E es) (dense transaction_bytes T ts)
  unfolding linked_from first_from
  behind_none = rw (append-nil (plain es), entries_plain E es, transactions_plain T ts)

  pub link_is : link_all (lent (dense entry_record_bytes E es) (dense transaction_bytes T (transactions_of es))) (length (transactions_of es)) (length es) ≡ lent (linked_entries E es) (linked_transactions T es)
  unfolding begun_by
  link_is =
      ap (λ (l : Lent). link_all l (length ts) (length es)) (sym behind_none)
      ∙ from_last Links links_one links_none es [] (sym (append-nil es))

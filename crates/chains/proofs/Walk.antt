-- Following the links: they lead through the entries of a number, in log order.
-- Assumes nothing.
use mathlib.Core.Path.{◌≡◌, refl, sym, ap, ◌∙◌}
use mathlib.Core.List.{List, [], ◌∷◌, ◌++◌}
use Prim.Native.Nat.{ℕ, suc, ◌-◌, ◌*◌, ◌^◌, ◌<◌}
use native.Mathlib.Omega.{arith}
use borrow.Author.Tests.{eq-eqb, eqb-true}
use lib.Dec.{eqb}
use lib.ListN.{length, drop}
use lib.Seq.{append_snoc, drop_at}
use Rattle.fields.proofs.Cases.{case_b}
use Rattle.records.specs.Dense.{All}
use Rattle.records.proofs.Dense.{all_at}
use Rattle.lists.specs.Entries.{entry_record_at, EntryFits}
use Rattle.lists.specs.Transactions.{transaction_at, transactions_of}
use Rattle.lists.specs.declared.entries.EntryRecord.{EntryRecord}
use Rattle.lists.specs.declared.transactions.TransactionRecord.{TransactionRecord}
use Rattle.lists.proofs.TransactionRecords.{TransactionFits}
use Rattle.lists.proofs.Numbers.{transactions_fit}
use Rattle.chains.specs.Chain.{first_from, linked_entries, linked_transactions, entries_of, from_link}
use Rattle.chains.specs.Link.{spare_at}
use Rattle.chains.proofs.Last.{length_snoc}
use Rattle.chains.proofs.Reading.{entry_read, entry_link_read, transaction_read, transaction_link_read}

-- ---- the walk on lists

-- an entry of the number stands at place k
pub record Stands (number k : ℕ) (es : List EntryRecord) : Type 0 where
  pub before : List EntryRecord
  pub entry : EntryRecord
  pub after : List EntryRecord
  pub whole : es ≡ before ++ (entry ∷ after)
  pub place : length before ≡ k
  pub own : entry.tx_id ≡ number

-- a link leads to an entry of the number, or nowhere
pub record Leads (number link : ℕ) (es : List EntryRecord) : Type 0 where
  pub stands : (k : ℕ) → link ≡ suc k → Stands number k es

module _ (number : ℕ) where
  pub walk_end : (es : List EntryRecord) → from_link number 0 es ≡ []
  unfolding from_link
  walk_end es = refl

  -- the first entry of the number behind some others
  walk_behind : (pre es : List EntryRecord) → from_link number (first_from (length pre) number es) (pre ++ es) ≡ entries_of number es
  unfolding first_from from_link entries_of
  walk_behind pre [] = refl
  walk_behind pre (e ∷ es) =
      case_b (eqb e.tx_id number)
      (λ p. rw (p, drop_at pre (e ∷ es) (length pre) refl, p))
      (λ p. rw p (rw (length_snoc, append_snoc) at (walk_behind (pre ++ (e ∷ [])) es)))

  leads_behind : (pre es : List EntryRecord) → Leads number (first_from (length pre) number es) (pre ++ es)
  unfolding first_from
  leads_behind pre [] = record { stands = λ k q. absurd (omega arith) }
  leads_behind pre (e ∷ es) =
      case_b (eqb e.tx_id number)
      (λ p.
      rw p
      (record {
        stands = λ k q. record { before = pre; entry = e; after = es; whole = refl; place = omega arith; own = eqb-true e.tx_id number p };
      }))
      (λ p. rw p (rw (length_snoc, append_snoc) at (leads_behind (pre ++ (e ∷ [])) es)))

  pub first_walk : (es : List EntryRecord) → entries_of number es ≡ from_link number (first_from 0 number es) es
  first_walk es = sym (walk_behind [] es)

  module _ (es before : List EntryRecord) (e : EntryRecord) (after : List EntryRecord) (whole : es ≡ before ++ (e ∷ after)) where
    abbrev next : ℕ
    next = first_from (suc (length before)) number after

    pub next_leads : Leads number next es
    next_leads = rw whole (rw (length_snoc, append_snoc) at (leads_behind (before ++ (e ∷ [])) after))

    pub next_walk : e.tx_id ≡ number → from_link number (suc (length before)) es ≡ e ∷ from_link number next es
    unfolding from_link entries_of
    next_walk q =
        let behind : from_link number next (before ++ (e ∷ after)) ≡ entries_of number after =
        rw (length_snoc, append_snoc) at (walk_behind (before ++ (e ∷ [])) after) in
        rw (whole, behind, drop_at before (e ∷ after) (length before) refl, eq-eqb e.tx_id number q)

-- ---- the walk in bytes

-- where a walk begins: at transaction k
pub record Start (T : ℕ) (es : List EntryRecord) (k : ℕ) (t : TransactionRecord) : Type 0 where
  pub read : transaction_at (drop (24 * k) (linked_transactions T es)) ≡ t
  pub walked : from_link t.tx_id (spare_at 24 9 (linked_transactions T es) k) es ≡ entries_of t.tx_id es
  pub leads : Leads t.tx_id (spare_at 24 9 (linked_transactions T es) k) es

pub walk_start : (T : ℕ) (es : List EntryRecord) (before : List TransactionRecord) (t : TransactionRecord) (after : List TransactionRecord) → transactions_of es ≡ before ++ (t ∷ after) → All EntryFits es → length es < 2 ^ 56 → Start T es (length before) t
walk_start T es before t after whole fs small =
    let fits = all_at TransactionFits before t after (rw whole at (transactions_fit es fs (omega arith))) in
    let link = transaction_link_read T es before t after whole small in
    record {
      read = transaction_read T es before t after whole fits;
      walked = rw link (sym (first_walk t.tx_id es));
      leads = rw link (leads_behind t.tx_id [] es);
    }

-- a turn of a walk: at the entry that a link leads to
pub record Turn (E : ℕ) (es : List EntryRecord) (number link : ℕ) : Type 0 where
  pub stands : Stands number (link - 1) es
  pub read : entry_record_at (drop (32 * (link - 1)) (linked_entries E es)) ≡ stands.entry
  pub walked : from_link number link es ≡ stands.entry ∷ from_link number (spare_at 32 25 (linked_entries E es) (link - 1)) es
  pub leads : Leads number (spare_at 32 25 (linked_entries E es) (link - 1)) es

pub walk_turn : (E : ℕ) (es : List EntryRecord) (number link : ℕ) → All EntryFits es → length es < 2 ^ 56 → 0 < link → Leads number link es → Turn E es number link
walk_turn E es number link fs small h l =
    let s = l.stands (link - 1) (omega arith) in
    let p = s.place in
    let n : suc (length s.before) ≡ link = omega arith in
    let fits = all_at EntryFits s.before s.entry s.after (rw s.whole at fs) in
    let next : spare_at 32 25 (linked_entries E es) (link - 1) ≡ first_from (suc (length s.before)) number s.after =
    ap (spare_at 32 25 (linked_entries E es)) (sym p)
    ∙ entry_link_read E es s.before s.entry s.after s.whole small
    ∙ ap (λ (v : ℕ). first_from (suc (length s.before)) v s.after) s.own in
    record {
      stands = s;
      read = rw p at (entry_read E es s.before s.entry s.after s.whole fits);
      walked =
          ap (λ (v : ℕ). from_link number v es) (sym n)
          ∙ next_walk number es s.before s.entry s.after s.whole s.own
          ∙ ap (λ (v : ℕ). s.entry ∷ from_link number v es) (sym next);
      leads = rw next (next_leads number es s.before s.entry s.after s.whole);
    }

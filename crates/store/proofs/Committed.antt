-- Replay's order in the paper's words: by ascending number, the transactions whose last marker is a commit.
-- Assumes nothing.
use mathlib.Core.Path.{◌≡◌, refl, sym, ap, ◌∙◌}
use mathlib.Core.Bool.{false}
use mathlib.Core.Logic.{◌↔◌, ⊎_elim}
use mathlib.Core.List.Memᴰ
use mathlib.Core.List.{List, [], ◌∷◌, Memᴰ}
use mathlib.Core.Option.{some}
use Prim.Native.Nat.{ℕ}
use native.Mathlib.Omega.{arith}
use lib.Dec.{eqb}
use Rattle.fields.proofs.Cases.{case_b}
use Rattle.std.specs.declared.cmp.Ordering.TheVariants.{Less}
use Rattle.records.specs.Sorted.{itself, compare_numbers, Before, Ascends}
use Rattle.records.specs.Dense.{All}
use Rattle.records.proofs.Sorted.{numbers_order, rest_behind, member_record, record_member}
use Rattle.lists.specs.Markers.{if_committed, has_number, last_marker, count_of, said_of}
use Rattle.lists.specs.Transactions.{tx_number, transactions_of}
use Rattle.lists.specs.declared.entries.EntryRecord.{EntryRecord}
use Rattle.lists.specs.declared.transactions.RecoveryAction.{RecoveryAction}
use Rattle.lists.specs.declared.transactions.RecoveryAction.TheVariants.{Incomplete, Commit, Rollback}
use Rattle.lists.specs.declared.transactions.TransactionRecord.{TransactionRecord}
use Rattle.lists.proofs.Numbers.{transactions_ascend, transaction_is}
use Rattle.store.specs.Order.{committed_of, replay_order}

-- ---- "by ascending number"

-- what holds of the numbers of all holds of the committed
committed_all : (Good : ℕ → Type 0) (ts : List TransactionRecord) → All (λ (t : TransactionRecord). Good t.tx_id) ts → All Good (committed_of ts)
unfolding committed_of
committed_all Good [] gs = tt
committed_all Good (t ∷ ts) gs = told t.action (committed_all Good ts gs.1)
  where
    told : (a : RecoveryAction) → All Good (committed_of ts) → All Good (if_committed a (t.tx_id ∷ committed_of ts) (committed_of ts))
    told Commit hs = (gs.0, hs)
    told Rollback hs = hs
    told Incomplete hs = hs

first_behind : (n : ℕ) (ns : List ℕ) → All (λ (m : ℕ). compare_numbers n m ≡ Less) ns → Before compare_numbers itself n ns
first_behind n [] hs = tt
first_behind n (m ∷ ns) hs = hs.0

committed_ascends : (ts : List TransactionRecord) → Ascends compare_numbers tx_number ts → Ascends compare_numbers itself (committed_of ts)
unfolding committed_of
committed_ascends [] a = tt
committed_ascends (t ∷ ts) a = told t.action (committed_ascends ts a.1)
  where
    behind : All (λ (m : ℕ). compare_numbers t.tx_id m ≡ Less) (committed_of ts)
    behind =
        committed_all (λ (m : ℕ). compare_numbers t.tx_id m ≡ Less) ts
        (rest_behind compare_numbers numbers_order tx_number t.tx_id t ts refl a)

    told : (action : RecoveryAction) → Ascends compare_numbers itself (committed_of ts) → Ascends compare_numbers itself (if_committed action (t.tx_id ∷ committed_of ts) (committed_of ts))
    told Commit hs = (first_behind t.tx_id (committed_of ts) behind, hs)
    told Rollback hs = hs
    told Incomplete hs = hs

pub order_ascends : (es : List EntryRecord) → Ascends compare_numbers itself (replay_order es)
unfolding replay_order
order_ascends es = committed_ascends (transactions_of es) (transactions_ascend es)

-- ---- "the transactions whose last .. marker is a commit"

-- a committed transaction of the number
record Committed (number : ℕ) (ts : List TransactionRecord) : Type 0 where
  found : TransactionRecord
  stands : Memᴰ found ts
  action : found.action ≡ Commit
  is : found.tx_id ≡ number

committed_later : (number : ℕ) (t : TransactionRecord) (ts : List TransactionRecord) → Committed number ts → Committed number (t ∷ ts)
committed_later number t ts c =
    record { found = c.found; stands = Memᴰ.tail c.stands; action = c.action; is = c.is }

-- a number that is there is that of a committed transaction
in_committed : (number : ℕ) (ts : List TransactionRecord) → Memᴰ number (committed_of ts) → Committed number ts
unfolding committed_of
in_committed number [] m = absurd (Memᴰ.not-nil m)
in_committed number (t ∷ ts) m = told t.action refl (in_committed number ts) m
  where
    told : (a : RecoveryAction) → t.action ≡ a → (Memᴰ number (committed_of ts) → Committed number ts) → Memᴰ number (if_committed a (t.tx_id ∷ committed_of ts) (committed_of ts)) → Committed number (t ∷ ts)
    told Commit q go m =
        ⊎_elim (λ e. record { found = t; stands = Memᴰ.head refl; action = q; is = sym e })
        (λ n. committed_later number t ts (go n)) (Memᴰ.cases_cons m)
    told Rollback q go m = committed_later number t ts (go m)
    told Incomplete q go m = committed_later number t ts (go m)

-- and a committed transaction's number is there
committed_in : (t : TransactionRecord) (ts : List TransactionRecord) → t.action ≡ Commit → Memᴰ t ts → Memᴰ t.tx_id (committed_of ts)
unfolding committed_of
committed_in t [] c m = absurd (Memᴰ.not-nil m)
committed_in t (q ∷ ts) c m =
    ⊎_elim (λ e. rw (← e, c) (Memᴰ.head refl)) (λ n. told q.action (committed_in t ts c n)) (Memᴰ.cases_cons m)
  where
    told : (a : RecoveryAction) → Memᴰ t.tx_id (committed_of ts) → Memᴰ t.tx_id (if_committed a (q.tx_id ∷ committed_of ts) (committed_of ts))
    told Commit n = Memᴰ.tail n
    told Rollback n = n
    told Incomplete n = n

-- what the log says of a number
abbrev said : ℕ → List EntryRecord → TransactionRecord
said number es = record { tx_id = number; action = last_marker number es; count = count_of number es }

-- a number that no entry has has no marker
unmarked : (number : ℕ) (es : List EntryRecord) → has_number number es ≡ false → last_marker number es ≡ Incomplete
unfolding last_marker has_number
unmarked number [] h = refl
unmarked number (e ∷ es) h =
    case_b (eqb e.tx_id number)
    (λ q. let f = rw q at h in let z : ◌≡◌ {A = ℕ} 0 1 = cc in absurd (omega arith))
    (λ q. rw (q, unmarked number es (rw q at h)))

marked_said : (number : ℕ) (es : List EntryRecord) → last_marker number es ≡ Commit → said_of number es ≡ some (said number es)
unfolding said_of
marked_said number es e =
    case_b (has_number number es)
    (λ q. rw q)
    (λ q. let z : ◌≡◌ {A = ℕ} 0 1 = cc (unmarked number es q) in absurd (omega arith))

said_marker : (number : ℕ) (es : List EntryRecord) (t : TransactionRecord) → said_of number es ≡ some t → last_marker number es ≡ t.action
unfolding said_of
said_marker number es t e =
    case_b (has_number number es)
    (λ q. let f = rw q at e in let g : said number es ≡ t = cc in ap (λ (t : TransactionRecord). t.action) g)
    (λ q. let f = rw q at e in let z : ◌≡◌ {A = ℕ} 0 1 = cc in absurd (omega arith))

ordered_commit : (number : ℕ) (es : List EntryRecord) → Memᴰ number (replay_order es) → last_marker number es ≡ Commit
unfolding replay_order
ordered_commit number es m =
    let ts = transactions_of es in
    let c = in_committed number ts m in
    let r = member_record compare_numbers numbers_order tx_number c.found ts (transactions_ascend es) c.stands in
    said_marker number es c.found (sym (transaction_is number es) ∙ rw c.is at r) ∙ c.action

commit_ordered : (number : ℕ) (es : List EntryRecord) → last_marker number es ≡ Commit → Memᴰ number (replay_order es)
unfolding replay_order
commit_ordered number es e =
    let ts = transactions_of es in
    let r = transaction_is number es ∙ marked_said number es e in
    committed_in (said number es) ts e (record_member compare_numbers numbers_order tx_number number (said number es) ts r)

-- a number is in the order exactly if its last marker is a commit
pub order_exactly : (number : ℕ) (es : List EntryRecord) → Memᴰ number (replay_order es) ↔ (last_marker number es ≡ Commit)
order_exactly number es = (ordered_commit number es, commit_ordered number es)

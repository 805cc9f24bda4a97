-- The laws of finding by halving: a turn at a time, and that it finds the place of a key among ascending records.
-- Assumes nothing.
use mathlib.Core.Path.{◌≡◌, refl, sym, ap, ◌∙◌}
use mathlib.Core.Bool.{true, false}
use mathlib.Core.List.{List, [], ◌∷◌, ◌++◌, append_assoc}
use Prim.Native.Nat.{ℕ, zero, suc, ◌+◌, ◌-◌, ◌*◌, ◌/◌, ◌<◌, ◌≤◌}
use native.Mathlib.Nat.{add-zero, zero-add, suc-add}
use native.Mathlib.Omega.{arith}
use borrow.Author.Tests.{ne_eqb}
use lib.ListN.{length, get_or, take, drop, length-append, length-drop}
use lib.Seq.{split_at, length-take-le}
use Rattle.std.specs.declared.cmp.Ordering.{Ordering}
use Rattle.std.specs.declared.cmp.Ordering.TheVariants.{Less, Equal, Greater}
use Rattle.std.specs.Ordering.{is_eq, is_lt}
use Rattle.records.specs.Dense.{dense, All}
use Rattle.records.specs.Sorted.{by_order, further, place_of, Ascends}
use Rattle.records.specs.Halving.{halve, halved, found_in}
use Rattle.std.specs.declared.result.Result.{Result}
use Rattle.std.specs.declared.result.Result.TheVariants.{Ok, Err}
use Rattle.records.proofs.Dense.{all_at, record_back}
use Rattle.records.proofs.Sorted.{IsOrder, case_o}

-- what std's tests of an ordering say
pub is_equal : (o : Ordering) → is_eq o ≡ true → o ≡ Equal
is_equal Less e = cc
is_equal Equal e = refl
is_equal Greater e = cc

pub is_less : (o : Ordering) → is_lt o ≡ true → o ≡ Less
is_less Less e = refl
is_less Equal e = cc
is_less Greater e = cc

pub is_greater : (o : Ordering) → is_eq o ≡ false → is_lt o ≡ false → o ≡ Greater
is_greater Less e f = cc
is_greater Equal e f = cc
is_greater Greater e f = refl

-- a range has no records, or some
case_none : {A : Type 0} (len : ℕ) → (len ≡ 0 → A) → (0 < len → A) → A
case_none zero f g = f refl
case_none (suc n) f g = g (omega arith)

-- what is found lies in the range
abbrev Within : (from len : ℕ) → Result ℕ ℕ → Type 0
Within from len (Ok k) = (from ≤ k) × (k < from + len)
Within from len (Err k) = (from ≤ k) × (k ≤ from + len)

wider : (from len i n : ℕ) → from ≤ i → i + n ≤ from + len → (f : Result ℕ ℕ) → Within i n f → Within from len f
wider from len i n h k (Ok j) w = omega arith
wider from len i n h k (Err j) w = omega arith

module _ (order : ℕ → Ordering) where
  halve_over : (from len : ℕ) → halve order 0 from len ≡ Err from
  unfolding halve
  halve_over from len = refl

  halve_out : (t from : ℕ) → halve order t from 0 ≡ Err from
  unfolding halve
  halve_out zero from = refl
  halve_out (suc t) from = refl

  halve_in : (t from len : ℕ) → 0 < len → halve order (suc t) from len ≡ by_order (order (from + len / 2)) (halve order t (from + len / 2 + 1) (len - len / 2 - 1)) (Ok (from + len / 2)) (halve order t from (len / 2))
  unfolding halve
  halve_in t from len h = rw (ne_eqb len 0 (omega arith))

  -- turns as many as the range has records are enough
  pub turns_enough : (t u from len : ℕ) → len ≤ t → len ≤ u → halve order t from len ≡ halve order u from len
  turns_enough zero u from len h k =
      let e : len ≡ 0 = omega arith in
      rw e (halve_out 0 from ∙ sym (halve_out u from))
  turns_enough (suc t) u from len h k =
      case_none len
      (λ e. rw e (halve_out (suc t) from ∙ sym (halve_out u from)))
      (λ l.
      let p = turns_enough t (u - 1) (from + len / 2 + 1) (len - len / 2 - 1) (omega arith) (omega arith) in
      let q = turns_enough t (u - 1) from (len / 2) (omega arith) (omega arith) in
      let e : u ≡ suc (u - 1) = omega arith in
      rw (e, halve_in t from len l, halve_in (u - 1) from len l, p, q))

  -- ---- a turn of the search

  pub halve_none : (from : ℕ) → halved order from 0 ≡ Err from
  unfolding halved
  halve_none from = halve_out 0 from

  halved_in : (from len : ℕ) → 0 < len → halved order from len ≡ by_order (order (from + len / 2)) (halved order (from + len / 2 + 1) (len - len / 2 - 1)) (Ok (from + len / 2)) (halved order from (len / 2))
  unfolding halved
  halved_in from len h =
      let p = turns_enough (len - 1) (len - len / 2 - 1) (from + len / 2 + 1) (len - len / 2 - 1) (omega arith) (omega arith) in
      let q = turns_enough (len - 1) (len / 2) from (len / 2) (omega arith) (omega arith) in
      let e : halve order len from len ≡ halve order (suc (len - 1)) from len = turns_enough len (suc (len - 1)) from len (omega arith) (omega arith) in
      e ∙ halve_in (len - 1) from len h ∙ rw (p, q)

  pub halve_less : (from len : ℕ) → 0 < len → order (from + len / 2) ≡ Less → halved order from len ≡ halved order (from + len / 2 + 1) (len - len / 2 - 1)
  halve_less from len h e = halved_in from len h ∙ rw e

  pub halve_equal : (from len : ℕ) → 0 < len → order (from + len / 2) ≡ Equal → halved order from len ≡ Ok (from + len / 2)
  halve_equal from len h e = halved_in from len h ∙ rw e

  pub halve_greater : (from len : ℕ) → 0 < len → order (from + len / 2) ≡ Greater → halved order from len ≡ halved order from (len / 2)
  halve_greater from len h e = halved_in from len h ∙ rw e

  -- ---- what is found lies in the range

  within : (t from len : ℕ) → Within from len (halve order t from len)
  within zero from len = rw (halve_over from len) (omega arith)
  within (suc t) from len =
      case_none len
      (λ e. rw (e, halve_out (suc t) from) (omega arith))
      (λ l.
      let half = from + len / 2 in
      rw (halve_in t from len l)
      (case_o (order half)
      (λ q. rw q (wider from len (half + 1) (len - len / 2 - 1) (omega arith) (omega arith) (halve order t (half + 1) (len - len / 2 - 1)) (within t (half + 1) (len - len / 2 - 1))))
      (λ q. rw q (omega arith))
      (λ q. rw q (wider from len from (len / 2) (omega arith) (omega arith) (halve order t from (len / 2)) (within t from (len / 2))))))

  pub halve_within_at : (n k : ℕ) → found_in order n ≡ Ok k → k < n
  unfolding found_in halved
  halve_within_at n k e = let w : Within 0 n (Ok k) = rw e at (within n 0 n) in omega arith

  pub halve_within_gap : (n k : ℕ) → found_in order n ≡ Err k → k ≤ n
  unfolding found_in halved
  halve_within_gap n k e = let w : Within 0 n (Err k) = rw e at (within n 0 n) in omega arith

-- ---- among ascending records it finds the place of the key

-- so many records further on
abbrev past : ℕ → Result ℕ ℕ → Result ℕ ℕ
past n (Ok k) = Ok (n + k)
past n (Err k) = Err (n + k)

past_none : (f : Result ℕ ℕ) → past 0 f ≡ f
past_none (Ok k) = rw zero-add
past_none (Err k) = rw zero-add

past_one : (n : ℕ) (f : Result ℕ ℕ) → further (past n f) ≡ past (suc n) f
past_one n (Ok k) = rw suc-add
past_one n (Err k) = rw suc-add

past_all : (m n : ℕ) (f : Result ℕ ℕ) → past (m + n + 1) f ≡ past m (past n (further f))
past_all m n (Ok k) = ap Ok (omega arith)
past_all m n (Err k) = ap Err (omega arith)

module _ {K R : Type 0} (compare : K → K → Ordering) (laws : IsOrder compare) (key : R → K) (k : K) where
  ascends_before : (before : List R) (r : R) (after : List R) → Ascends compare key (before ++ (r ∷ after)) → Ascends compare key before
  ascends_before [] r after a = tt
  ascends_before (b ∷ []) r after a = (tt, tt)
  ascends_before (b ∷ c ∷ bs) r after a = (a.0, ascends_before (c ∷ bs) r after a.1)

  ascends_after : (before : List R) (r : R) (after : List R) → Ascends compare key (before ++ (r ∷ after)) → Ascends compare key after
  ascends_after [] r after a = a.1
  ascends_after (b ∷ bs) r after a = ascends_after bs r after a.1

  -- the first of some records stands before one that stands behind it
  ascends_first : (b : R) (bs : List R) (r : R) (after : List R) → Ascends compare key (b ∷ (bs ++ (r ∷ after))) → compare (key b) (key r) ≡ Less
  ascends_first b [] r after a = a.0
  ascends_first b (c ∷ bs) r after a = laws.trans (key b) (key c) (key r) a.0 (ascends_first c bs r after a.1)

  -- the key's place is at a record that is not greater, or behind it
  place_from : (before : List R) (r : R) (after : List R) → Ascends compare key (before ++ (r ∷ after)) → ((j : K) → compare j (key r) ≡ Less → compare j k ≡ Less)
      → place_of compare key k (before ++ (r ∷ after)) ≡ past (length before) (place_of compare key k (r ∷ after))
  unfolding place_of
  place_from [] r after a less = sym (past_none (place_of compare key k (r ∷ after)))
  place_from (b ∷ bs) r after a less =
      rw (less (key b) (ascends_first b bs r after a), place_from bs r after a.1 less)
      (past_one (length bs) (place_of compare key k (r ∷ after)))

  -- and before one that is greater
  place_until : (before : List R) (r : R) (after : List R) → compare (key r) k ≡ Greater → place_of compare key k (before ++ (r ∷ after)) ≡ place_of compare key k before
  unfolding place_of
  place_until [] r after q = rw q
  place_until (b ∷ bs) r after q = rw (place_until bs r after q)

  module _ (order : ℕ → Ordering) where
    -- the order at a place is how the record there stands to the key
    abbrev Agrees : (from : ℕ) → List R → Type 0
    Agrees from rs = (before : List R) (r : R) (after : List R) → rs ≡ before ++ (r ∷ after) → order (from + length before) ≡ compare (key r) k

    agrees_before : (from : ℕ) (before : List R) (r : R) (after : List R) → Agrees from (before ++ (r ∷ after)) → Agrees from before
    agrees_before from before r after g b s a e = g b s (a ++ (r ∷ after)) (rw (e, append_assoc))

    agrees_after : (from : ℕ) (before : List R) (r : R) (after : List R) → Agrees from (before ++ (r ∷ after)) → Agrees (from + length before + 1) after
    agrees_after from before r after g b s a e =
        let n : from + length before + 1 + length b ≡ from + length (before ++ (r ∷ b)) = rw length-append (omega arith) in
        rw n (g (before ++ (r ∷ b)) s a (rw (e, append_assoc)))

    place_turn : (from : ℕ) (before : List R) (r : R) (after : List R)
        → length before ≡ length (before ++ (r ∷ after)) / 2 → Ascends compare key (before ++ (r ∷ after)) → Agrees from (before ++ (r ∷ after))
        → halved order from (length before) ≡ past from (place_of compare key k before)
        → halved order (from + length before + 1) (length after) ≡ past (from + length before + 1) (place_of compare key k after)
        → halved order from (length (before ++ (r ∷ after))) ≡ past from (place_of compare key k (before ++ (r ∷ after)))
    unfolding place_of
    place_turn from before r after h a g lower upper =
        let len = length (before ++ (r ∷ after)) in
        let n : len ≡ length before + suc (length after) = length-append before (r ∷ after) in
        let m : len - len / 2 - 1 ≡ length after = omega arith in
        let o : order (from + len / 2) ≡ compare (key r) k = rw (← h) (g before r after refl) in
        case_o (compare (key r) k)
        (λ q.
        halve_less order from len (omega arith) (o ∙ q)
        ∙ rw (m, ← h, upper, place_from before r after a (λ j l. laws.trans j (key r) k l q), q)
        (past_all from (length before) (place_of compare key k after)))
        (λ q.
        halve_equal order from len (omega arith) (o ∙ q)
        ∙ rw (← h, place_from before r after a (λ j l. rw (laws.equal (key r) k q) at l), q, add-zero))
        (λ q. halve_greater order from len (omega arith) (o ∙ q) ∙ rw (← h, lower, place_until before r after q))

    abbrev Finds : (from : ℕ) → List R → Type 0
    Finds from rs = Ascends compare key rs → Agrees from rs → halved order from (length rs) ≡ past from (place_of compare key k rs)

    finds_some : (t from : ℕ) (rs : List R) (x : R) → 0 < length rs → length rs ≤ suc t → ((i : ℕ) (qs : List R) → length qs ≤ t → Finds i qs) → Finds from rs
    finds_some t from rs x l h finds a g =
        let half = length rs / 2 in
        let before = take half rs in
        let r = get_or rs half x in
        let after = drop (suc half) rs in
        let e : rs ≡ before ++ (r ∷ after) = split_at rs half x (omega arith) in
        let n : length before ≡ half = length-take-le half rs (omega arith) in
        let a' = rw e at a in
        let g' = rw e at g in
        let lower = finds from before (omega arith) (ascends_before before r after a') (agrees_before from before r after g') in
        let upper = finds (from + length before + 1) after (rw length-drop (omega arith)) (ascends_after before r after a') (agrees_after from before r after g') in
        rw e (place_turn from before r after (rw (← e) n) a' g' lower upper)

    finds : (t from : ℕ) (rs : List R) → length rs ≤ t → Finds from rs
    unfolding place_of
    finds zero from [] h a g = halve_none order from ∙ rw add-zero
    finds zero from (r ∷ rs) h a g = absurd (omega arith)
    finds (suc t) from [] h a g = halve_none order from ∙ rw add-zero
    finds (suc t) from (r ∷ rs) h a g = finds_some t from (r ∷ rs) r (omega arith) h (finds t) a g

    pub halve_place : (rs : List R) → Ascends compare key rs
        → ((before : List R) (r : R) (after : List R) → rs ≡ before ++ (r ∷ after) → order (length before) ≡ compare (key r) k)
        → found_in order (length rs) ≡ place_of compare key k rs
    unfolding found_in
    halve_place rs a g =
        finds (length rs) 0 rs (omega arith) a (λ before r after e. rw zero-add (g before r after e))
        ∙ past_none (place_of compare key k rs)

-- the records are read where they stand in the bytes
module _ {K R : Type 0} (compare : K → K → Ordering) (laws : IsOrder compare) (key : R → K) (k : K)
    (bytes : R → List ℕ) (size : ℕ) (sized : (r : R) → length (bytes r) ≡ size)
    (read : List ℕ → R) (Good : R → Type 0) (back : (r : R) (rest : List ℕ) → Good r → read (bytes r ++ rest) ≡ r) where
  pub halve_dense : (room : ℕ) (rs : List R) → Ascends compare key rs → All Good rs
      → found_in (λ i. compare (key (read (drop (size * i) (dense bytes room rs)))) k) (length rs) ≡ place_of compare key k rs
  halve_dense room rs a gs =
      halve_place compare laws key k (λ i. compare (key (read (drop (size * i) (dense bytes room rs)))) k) rs a
      (λ before r after e. rw (e, record_back bytes size sized read Good back room before r after (all_at Good before r after (rw e at gs))))

-- The laws of records that strictly ascend by a key, over any comparison that is an order.
-- Assumes nothing.
use mathlib.Core.Path.{◌≡◌, refl, sym, ap, ◌∙◌}
use mathlib.Core.Logic.{⊎_elim}
use mathlib.Core.List.Memᴰ
use mathlib.Core.List.{List, [], ◌∷◌, ◌++◌, Memᴰ}
use mathlib.Core.Option.{Option, none, some}
use Prim.Native.Nat.{ℕ, suc, ◌<◌, ◌≤◌}
use native.Mathlib.Omega.{arith}
use borrow.Author.Tests.{lt-ltb, le-ltb}
use lib.Dec.{ltb}
use lib.ListN.{length}
use Rattle.fields.specs.Order.{compare_bytes}
use Rattle.std.proofs.lemmas.Bool.Decides.{nat_tests}
use Rattle.std.specs.Ordering.{nat_cmp, ordering_reverse}
use Rattle.std.specs.declared.cmp.Ordering.{Ordering}
use Rattle.std.specs.declared.cmp.Ordering.TheVariants.{Less, Equal, Greater}
use Rattle.fields.proofs.Cases.{case_b, tests}
use Rattle.fields.proofs.Ordered.{compare_same, compare_equal, compare_flip, compare_trans}
use Rattle.records.specs.Sorted.{compare_numbers, further, place_of, record_of, put, remove, Before, Ascends}
use Rattle.std.specs.declared.result.Result.{Result}
use Rattle.std.specs.declared.result.Result.TheVariants.{Ok, Err}
use Rattle.records.specs.Dense.{All}

-- ---- orders

-- the three cases of a comparison
module _ {ℓ} {A : Type ℓ} where
  pub case_o : (o : Ordering) → (o ≡ Less → A) → (o ≡ Equal → A) → (o ≡ Greater → A) → A
  case_o Less f g h = f refl
  case_o Equal f g h = g refl
  case_o Greater f g h = h refl

pub record IsOrder {K : Type 0} (compare : K → K → Ordering) : Type 0 where
  pub same : (a : K) → compare a a ≡ Equal
  pub equal : (a b : K) → compare a b ≡ Equal → a ≡ b
  pub flip : (a b : K) → compare b a ≡ ordering_reverse (compare a b)
  pub trans : (a b c : K) → compare a b ≡ Less → compare b c ≡ Less → compare a c ≡ Less

module _ {K : Type 0} (compare : K → K → Ordering) (order : IsOrder compare) where
  greater_trans : (a b c : K) → compare a b ≡ Greater → compare b c ≡ Greater → compare a c ≡ Greater
  greater_trans a b c p q =
      order.flip c a ∙ ap ordering_reverse (order.trans c b a (order.flip b c ∙ ap ordering_reverse q) (order.flip a b ∙ ap ordering_reverse p))

  -- two keys are apart
  case_apart : {A : Type 0} (j k : K) → (j ≡ k → ⊥) → (compare k j ≡ Less → A) → (compare k j ≡ Greater → A) → A
  case_apart j k n f g = case_o (compare k j) f (λ p. absurd (n (sym (order.equal k j p)))) g

pub bytes_order : IsOrder compare_bytes
bytes_order = record { same = compare_same; equal = compare_equal; flip = compare_flip; trans = compare_trans }

-- the three cases of two numbers
module _ {A : Type 0} where
  case_n : (a b : ℕ) → (a < b → compare_numbers a b ≡ Less → A) → (a ≡ b → compare_numbers a b ≡ Equal → A) → (b < a → compare_numbers a b ≡ Greater → A) → A
  unfolding compare_numbers
  case_n a b f g h =
      case_b (ltb a b)
      (λ p. f (omega (arith, tests)) (rw p))
      (λ p. case_b (ltb b a) (λ q. h (omega (arith, tests)) (rw (p, q))) (λ q. g (omega (arith, tests)) (rw (p, q))))

pub numbers_less : (a b : ℕ) → a < b → compare_numbers a b ≡ Less
unfolding compare_numbers
numbers_less a b h = rw (lt-ltb a b h)

pub numbers_greater : (a b : ℕ) → b < a → compare_numbers a b ≡ Greater
unfolding compare_numbers
numbers_greater a b h = rw (le-ltb a b (omega arith), lt-ltb b a h)

pub numbers_same : (a : ℕ) → compare_numbers a a ≡ Equal
unfolding compare_numbers
numbers_same a = rw (le-ltb a a (omega arith))

-- std orders numbers by the same rule
pub numbers_compared : (a b : ℕ) → nat_cmp a b ≡ compare_numbers a b
unfolding compare_numbers
numbers_compared a b = grind (arith, nat_tests)

pub less_numbers : (a b : ℕ) → compare_numbers a b ≡ Less → a < b
less_numbers a b e = case_n a b (λ h q. h) (λ h q. let z : ◌≡◌ {A = ℕ} 0 1 = cc in absurd (omega arith)) (λ h q. let z : ◌≡◌ {A = ℕ} 0 1 = cc in absurd (omega arith))

pub numbers_order : IsOrder compare_numbers
numbers_order =
    record {
      same = numbers_same;
      equal = λ a b e. case_n a b (λ h q. cc) (λ h q. h) (λ h q. cc);
      flip = λ a b. case_n a b (λ h q. rw (q, numbers_greater b a h)) (λ h q. rw (h, numbers_same)) (λ h q. rw (q, numbers_less b a h));
      trans = λ a b c p q. numbers_less a c (omega (arith, less_numbers a b p, less_numbers b c q));
    }

-- ---- the place of a key

module _ {K R : Type 0} (compare : K → K → Ordering) (key : R → K) (k : K) where
  -- the key's record stands at place i, where a put changes it and a remove takes it out
  pub record Standing (rs : List R) (i : ℕ) : Type 0 where
    pub before : List R
    pub found : R
    pub after : List R
    pub whole : rs ≡ before ++ (found ∷ after)
    pub place : length before ≡ i
    pub equal : compare (key found) k ≡ Equal
    pub changed : (change : R → R) (new : R) → put compare key k change new rs ≡ before ++ (change found ∷ after)
    pub removed : remove compare key k rs ≡ before ++ after

  -- the key has no record: its gap is at place i, where a put inserts one, and a remove changes nothing
  pub record Missing (rs : List R) (i : ℕ) : Type 0 where
    pub before : List R
    pub after : List R
    pub whole : rs ≡ before ++ after
    pub place : length before ≡ i
    pub inserted : (change : R → R) (new : R) → put compare key k change new rs ≡ before ++ (new ∷ after)
    pub removed : remove compare key k rs ≡ rs

  abbrev Placed : List R → Result ℕ ℕ → Type 0
  Placed rs (Ok i) = Standing rs i
  Placed rs (Err i) = Missing rs i

  placed_less : (r : R) (rs : List R) → compare (key r) k ≡ Less → (f : Result ℕ ℕ) → Placed rs f → Placed (r ∷ rs) (further f)
  unfolding put remove
  placed_less r rs q (Ok i) p =
      record {
        before = r ∷ p.before;
        found = p.found;
        after = p.after;
        whole = rw (← p.whole);
        place = ap suc p.place;
        equal = p.equal;
        changed = λ change new. rw (q, p.changed change new);
        removed = rw (q, p.removed);
      }
  placed_less r rs q (Err i) p =
      record {
        before = r ∷ p.before;
        after = p.after;
        whole = rw (← p.whole);
        place = ap suc p.place;
        inserted = λ change new. rw (q, p.inserted change new);
        removed = rw (q, p.removed);
      }

  placed : (rs : List R) → Placed rs (place_of compare key k rs)
  unfolding place_of put remove
  placed [] = record { before = []; after = []; whole = refl; place = refl; inserted = λ change new. refl; removed = refl }
  placed (r ∷ rs) =
      case_o (compare (key r) k)
      (λ q. rw q (placed_less r rs q (place_of compare key k rs) (placed rs)))
      (λ q. rw q (record { before = []; found = r; after = rs; whole = refl; place = refl; equal = q; changed = λ change new. rw q; removed = rw q }))
      (λ q. rw q (record { before = []; after = r ∷ rs; whole = refl; place = refl; inserted = λ change new. rw q; removed = rw q }))

  pub place_at : (rs : List R) (i : ℕ) → place_of compare key k rs ≡ Ok i → Standing rs i
  place_at rs i e = rw e at (placed rs)

  pub place_gap : (rs : List R) (i : ℕ) → place_of compare key k rs ≡ Err i → Missing rs i
  place_gap rs i e = rw e at (placed rs)

-- ---- a put

-- what a put leaves for its key: the record it had, changed, or the new one
abbrev pub changed_or : {R : Type 0} → (change : R → R) → (new : R) → Option R → R
changed_or change new none = new
changed_or change new (some r) = change r

module _ {K R : Type 0} (compare : K → K → Ordering) (key : R → K) (k : K) (change : R → R) (new : R) where
  -- what holds of the records, and of those that it makes, holds after it
  pub put_all : (Good : R → Type 0) → ((r : R) → Good r → Good (change r)) → Good new → (rs : List R) → All Good rs → All Good (put compare key k change new rs)
  unfolding put
  put_all Good g h [] gs = (h, tt)
  put_all Good g h (r ∷ rs) gs =
      case_o (compare (key r) k)
      (λ q. rw q (gs.0, put_all Good g h rs gs.1))
      (λ q. rw q (g r gs.0, gs.1))
      (λ q. rw q (h, gs))

  pub put_length : (rs : List R) → (length rs ≤ length (put compare key k change new rs)) × (length (put compare key k change new rs) ≤ suc (length rs))
  unfolding put
  put_length [] = omega arith
  put_length (r ∷ rs) =
      case_o (compare (key r) k)
      (λ q. rw q (omega (arith, put_length rs)))
      (λ q. rw q (omega arith))
      (λ q. rw q (omega arith))

-- a put that makes a record of its key from one of its key
module _ {K R : Type 0} (compare : K → K → Ordering) (order : IsOrder compare) (key : R → K) (k : K) (change : R → R) (new : R) (keeps : (r : R) → key r ≡ k → key (change r) ≡ k) (fresh : key new ≡ k) where
  before_put : (r : R) (rs : List R) → compare (key r) k ≡ Less → Before compare key r rs → Before compare key r (put compare key k change new rs)
  unfolding put
  before_put r [] h b = rw fresh h
  before_put r (s ∷ rs) h b =
      case_o (compare (key s) k)
      (λ q. rw q b)
      (λ q. rw (q, keeps s (order.equal (key s) k q)) h)
      (λ q. rw (q, fresh) h)

  before_same : (r s : R) (rs : List R) → key r ≡ key s → Before compare key r rs → Before compare key s rs
  before_same r s [] e b = tt
  before_same r s (t ∷ rs) e b = rw (← e) b

  pub put_ascends : (rs : List R) → Ascends compare key rs → Ascends compare key (put compare key k change new rs)
  unfolding put
  put_ascends [] a = (tt, tt)
  put_ascends (r ∷ rs) a =
      case_o (compare (key r) k)
      (λ q. rw q (before_put r rs q a.0, put_ascends rs a.1))
      (λ q. let e = order.equal (key r) k q in rw q (before_same r (change r) rs (e ∙ sym (keeps r e)) a.0, a.1))
      (λ q. rw q (rw (fresh, order.flip (key r) k, q), a))

  pub put_record : (rs : List R) → record_of compare key k (put compare key k change new rs) ≡ some (changed_or change new (record_of compare key k rs))
  unfolding put record_of
  put_record [] = rw (fresh, order.same k)
  put_record (r ∷ rs) =
      case_o (compare (key r) k)
      (λ q. rw (q, q) (put_record rs))
      (λ q. rw (q, keeps r (order.equal (key r) k q), order.same k))
      (λ q. rw (q, fresh, order.same k))

  -- another key keeps its record
  pub put_other : (j : K) → (j ≡ k → ⊥) → (rs : List R) → record_of compare key j (put compare key k change new rs) ≡ record_of compare key j rs
  unfolding put record_of
  put_other j n [] = rw fresh (case_apart compare order j k n (λ p. rw p) (λ p. rw p))
  put_other j n (r ∷ rs) =
      case_o (compare (key r) k)
      (λ q. rw (q, put_other j n rs))
      (λ q. let e = order.equal (key r) k q in rw (q, keeps r e, e) (case_apart compare order j k n (λ p. rw p) (λ p. rw p)))
      (λ q. rw (q, fresh) (case_apart compare order j k n (λ p. rw p) (λ p. rw (p, greater_trans compare order (key r) k j q p))))

-- ---- the record of a key among ascending records

module _ {K R : Type 0} (compare : K → K → Ordering) (order : IsOrder compare) (key : R → K) where
  record_first : (r : R) (rs : List R) → record_of compare key (key r) (r ∷ rs) ≡ some r
  unfolding record_of
  record_first r rs = rw (order.same (key r))

  record_later : (k : K) (r : R) (rs : List R) → compare (key r) k ≡ Less → record_of compare key k (r ∷ rs) ≡ record_of compare key k rs
  unfolding record_of
  record_later k r rs q = rw q

  record_less : (k : K) (r : R) (rs : List R) → compare (key r) k ≡ Greater → record_of compare key k (r ∷ rs) ≡ none
  unfolding record_of
  record_less k r rs q = rw q

  record_none : (k : K) → record_of compare key k [] ≡ none
  unfolding record_of
  record_none k = refl

  -- a key's record has that key
  pub record_key : (k : K) (rs : List R) (r : R) → record_of compare key k rs ≡ some r → key r ≡ k
  record_key k [] r e = cc (record_none k)
  record_key k (s ∷ rs) r e =
      case_o (compare (key s) k)
      (λ q. record_key k rs r (sym (record_later k s rs q) ∙ e))
      (λ q. let f = order.equal (key s) k q in cc (record_first s rs))
      (λ q. cc (record_less k s rs q))

  -- behind a record stands none of its key, nor of one before it
  record_equal : (k : K) (r : R) (rs : List R) → compare (key r) k ≡ Equal → Before compare key r rs → record_of compare key k rs ≡ none
  record_equal k r [] q b = record_none k
  record_equal k r (s ∷ rs) q b =
      record_less k s rs (order.flip k (key s) ∙ ap ordering_reverse (rw (order.equal (key r) k q) at b))

  record_greater : (k : K) (r : R) (rs : List R) → compare (key r) k ≡ Greater → Before compare key r rs → record_of compare key k rs ≡ none
  record_greater k r [] q b = record_none k
  record_greater k r (s ∷ rs) q b =
      record_less k s rs (greater_trans compare order (key s) (key r) k (order.flip (key r) (key s) ∙ ap ordering_reverse b) q)

  -- ---- ascending records are determined by the record of each key

  same_first : (x y : R) (xs ys : List R) → ((k : K) → record_of compare key k (x ∷ xs) ≡ record_of compare key k (y ∷ ys)) → x ≡ y
  same_first x y xs ys h =
      case_o (compare (key x) (key y))
      (λ q. cc (h (key x), record_first x xs, record_less (key x) y ys (order.flip (key x) (key y) ∙ ap ordering_reverse q)))
      (λ q. let e = order.equal (key x) (key y) q in cc (h (key x), record_first x xs, record_first y ys))
      (λ q. cc (h (key y), record_first y ys, record_less (key y) x xs q))

  same_later : (r : R) (xs ys : List R) → Before compare key r xs → Before compare key r ys
      → ((k : K) → record_of compare key k (r ∷ xs) ≡ record_of compare key k (r ∷ ys)) → (k : K) → record_of compare key k xs ≡ record_of compare key k ys
  same_later r xs ys a b h k =
      case_o (compare (key r) k)
      (λ q. sym (record_later k r xs q) ∙ h k ∙ record_later k r ys q)
      (λ q. record_equal k r xs q a ∙ sym (record_equal k r ys q b))
      (λ q. record_greater k r xs q a ∙ sym (record_greater k r ys q b))

  pub same_records : (xs ys : List R) → Ascends compare key xs → Ascends compare key ys → ((k : K) → record_of compare key k xs ≡ record_of compare key k ys) → xs ≡ ys
  same_records [] [] a b h = refl
  same_records [] (y ∷ ys) a b h = cc (h (key y), record_none (key y), record_first y ys)
  same_records (x ∷ xs) [] a b h = cc (h (key x), record_none (key x), record_first x xs)
  same_records (x ∷ xs) (y ∷ ys) a b h =
      let e = same_first x y xs ys h in
      rw (e, same_records xs ys a.1 b.1 (same_later y xs ys (rw e at a.0) b.0 (λ k. rw e at (h k))))

-- ---- a remove

module _ {K R : Type 0} (compare : K → K → Ordering) (key : R → K) (k : K) where
  pub remove_all : (Good : R → Type 0) (rs : List R) → All Good rs → All Good (remove compare key k rs)
  unfolding remove
  remove_all Good [] gs = tt
  remove_all Good (r ∷ rs) gs =
      case_o (compare (key r) k)
      (λ q. rw q (gs.0, remove_all Good rs gs.1))
      (λ q. rw q gs.1)
      (λ q. rw q gs)

  pub remove_length : (rs : List R) → (length (remove compare key k rs) ≤ length rs) × (length rs ≤ suc (length (remove compare key k rs)))
  unfolding remove
  remove_length [] = omega arith
  remove_length (r ∷ rs) =
      case_o (compare (key r) k)
      (λ q. rw q (omega (arith, remove_length rs)))
      (λ q. rw q (omega arith))
      (λ q. rw q (omega arith))

module _ {K R : Type 0} (compare : K → K → Ordering) (order : IsOrder compare) (key : R → K) (k : K) where
  before_later : (r s : R) (rs : List R) → compare (key r) (key s) ≡ Less → Before compare key s rs → Before compare key r rs
  before_later r s [] h b = tt
  before_later r s (t ∷ rs) h b = order.trans (key r) (key s) (key t) h b

  before_remove : (r : R) (rs : List R) → Before compare key r rs → Ascends compare key rs → Before compare key r (remove compare key k rs)
  unfolding remove
  before_remove r [] b a = tt
  before_remove r (s ∷ rs) b a =
      case_o (compare (key s) k)
      (λ q. rw q b)
      (λ q. rw q (before_later r s rs b a.0))
      (λ q. rw q b)

  pub remove_ascends : (rs : List R) → Ascends compare key rs → Ascends compare key (remove compare key k rs)
  unfolding remove
  remove_ascends [] a = tt
  remove_ascends (r ∷ rs) a =
      case_o (compare (key r) k)
      (λ q. rw q (before_remove r rs a.0 a.1, remove_ascends rs a.1))
      (λ q. rw q a.1)
      (λ q. rw q a)

  pub remove_record : (rs : List R) → Ascends compare key rs → record_of compare key k (remove compare key k rs) ≡ none
  unfolding remove record_of
  remove_record [] a = refl
  remove_record (r ∷ rs) a =
      case_o (compare (key r) k)
      (λ q. rw (q, q) (remove_record rs a.1))
      (λ q. rw q (record_equal compare order key k r rs q a.0))
      (λ q. rw (q, q))

  -- another key keeps its record
  pub remove_other : (j : K) → (j ≡ k → ⊥) → (rs : List R) → Ascends compare key rs → record_of compare key j (remove compare key k rs) ≡ record_of compare key j rs
  unfolding remove record_of
  remove_other j n [] a = refl
  remove_other j n (r ∷ rs) a =
      case_o (compare (key r) k)
      (λ q. rw (q, remove_other j n rs a.1))
      (λ q.
      let e = order.equal (key r) k q in
      rw q
      (case_apart compare order j k n (λ p. rw (e, p)) (λ p. rw (record_greater compare order key j r rs (rw e p) a.0, e, p))))
      (λ q. rw q)

-- ---- which keys have a record

-- the key has a record
abbrev pub Has : {K R : Type 0} → (compare : K → K → Ordering) → (key : R → K) → K → List R → Type 0
Has compare key k rs = record_of compare key k rs ≡ none → ⊥

-- two keys are the same, or apart
module _ {A K : Type 0} (compare : K → K → Ordering) (order : IsOrder compare) where
  case_same : (j k : K) → (j ≡ k → A) → ((j ≡ k → ⊥) → A) → A
  case_same j k f g =
      case_o (compare j k)
      (λ q. g (λ e. let z : ◌≡◌ {A = ℕ} 0 1 = cc (order.same k) in omega arith))
      (λ q. f (order.equal j k q))
      (λ q. g (λ e. let z : ◌≡◌ {A = ℕ} 0 1 = cc (order.same k) in omega arith))

-- after a put its key has one, and so has each that had one
module _ {K R : Type 0} (compare : K → K → Ordering) (order : IsOrder compare) (key : R → K) (k : K) (change : R → R) (new : R) (keeps : (r : R) → key r ≡ k → key (change r) ≡ k) (fresh : key new ≡ k) where
  pub put_has : (rs : List R) → Has compare key k (put compare key k change new rs)
  put_has rs e = let z : ◌≡◌ {A = ℕ} 0 1 = cc (put_record compare order key k change new keeps fresh rs) in omega arith

  pub put_had : (j : K) (rs : List R) → Has compare key j rs → Has compare key j (put compare key k change new rs)
  put_had j rs h e =
      case_same compare order j k
      (λ p. put_has rs (rw p at e))
      (λ n. h (sym (put_other compare order key k change new keeps fresh j n rs) ∙ e))

-- ---- ascending records as a list

all_member : {R : Type 0} (Good : R → Type 0) (r : R) (rs : List R) → All Good rs → Memᴰ r rs → Good r
all_member Good r [] gs m = absurd (Memᴰ.not-nil m)
all_member Good r (s ∷ rs) gs m =
    ⊎_elim (λ e. rw e gs.0) (λ n. all_member Good r rs gs.1 n) (Memᴰ.cases_cons m)

module _ {K R : Type 0} (compare : K → K → Ordering) (order : IsOrder compare) (key : R → K) where
  abbrev pub Behind : K → List R → Type 0
  Behind k rs = All (λ (r : R). compare k (key r) ≡ Less) rs

  all_behind : (k : K) (r : R) (rs : List R) → compare k (key r) ≡ Less → Ascends compare key (r ∷ rs) → Behind k (r ∷ rs)
  all_behind k r [] h a = (h, tt)
  all_behind k r (q ∷ rs) h a = (h, all_behind k q rs (order.trans k (key r) (key q) h a.0) a.1)

  -- all stand behind the first
  pub rest_behind : (k : K) (r : R) (rs : List R) → k ≡ key r → Ascends compare key (r ∷ rs) → Behind k rs
  rest_behind k r [] e a = tt
  rest_behind k r (q ∷ rs) e a = all_behind k q rs (rw e a.0) a.1

  -- each of them is its key's record
  pub member_record : (r : R) (rs : List R) → Ascends compare key rs → Memᴰ r rs → record_of compare key (key r) rs ≡ some r
  member_record r [] a m = absurd (Memᴰ.not-nil m)
  member_record r (s ∷ rs) a m =
      ⊎_elim
      (λ e. rw e (record_first compare order key s rs))
      (λ n.
      let later = all_member (λ (q : R). compare (key s) (key q) ≡ Less) r rs (rest_behind (key s) s rs refl a) n in
      record_later compare order key (key r) s rs later ∙ member_record r rs a.1 n)
      (Memᴰ.cases_cons m)

  -- a key's record is one of them
  pub record_member : (k : K) (r : R) (rs : List R) → record_of compare key k rs ≡ some r → Memᴰ r rs
  unfolding record_of
  record_member k r [] e = let z : ◌≡◌ {A = ℕ} 0 1 = cc in absurd (omega arith)
  record_member k r (s ∷ rs) e =
      case_o (compare (key s) k)
      (λ q. Memᴰ.tail (record_member k r rs (rw q at e)))
      (λ q. let f : some s ≡ some r = rw q at e in Memᴰ.head (sym cc))
      (λ q. let f : none ≡ some r = rw q at e in let z : ◌≡◌ {A = ℕ} 0 1 = cc in absurd (omega arith))

-- ---- how many there are

-- ascending records, and others of the same keys
module _ {K R S : Type 0} (compare : K → K → Ordering) (order : IsOrder compare) (key : R → K) (other : S → K) where
  -- each key has a record among the others
  abbrev pub Among : List S → List R → Type 0
  Among ss rs = All (λ (r : R). Has compare other (key r) ss) rs

  -- what stands behind the first of the others is found behind it
  among_behind : (s : S) (ss : List S) (rs : List R) → Behind compare order key (other s) rs → Among (s ∷ ss) rs → Among ss rs
  among_behind s ss [] hs gs = tt
  among_behind s ss (r ∷ rs) hs gs =
      (λ e. gs.0 (record_later compare order other (key r) s ss hs.0 ∙ e), among_behind s ss rs hs.1 gs.1)

  -- they are no more than the others
  pub no_more : (ss : List S) (rs : List R) → Ascends compare key rs → Among ss rs → length rs ≤ length ss
  no_more ss [] a gs = omega arith
  no_more [] (r ∷ rs) a gs = absurd (gs.0 (record_none compare order other (key r)))
  no_more (s ∷ ss) (r ∷ rs) a gs =
      case_o (compare (other s) (key r))
      (λ q. omega (arith, no_more ss (r ∷ rs) a (among_behind s ss (r ∷ rs) (all_behind compare order key (other s) r rs q a) gs)))
      (λ q. omega (arith, no_more ss rs a.1 (among_behind s ss rs (rest_behind compare order key (other s) r rs (order.equal (other s) (key r) q) a) gs.1)))
      (λ q. absurd (gs.0 (record_less compare order other (key r) s ss q)))

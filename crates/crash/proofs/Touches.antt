-- A key after transactions one after another: it holds what the last one that touches it leaves, and nothing else.
-- Assumes nothing.
use mathlib.Core.Path.{◌≡◌, refl, sym, ap, ◌∙◌}
use mathlib.Core.Bool.{Bool, true, false, ◌&&◌, ◌||◌}
use mathlib.Core.List.{List, [], ◌∷◌, ◌++◌, append_assoc, Memᴰ}
use mathlib.Core.Logic.{◌⊎◌, inl, inr, ⊎_elim}
use mathlib.Core.Option.{Option, none}
use Prim.Native.Nat.{ℕ}
use native.Mathlib.Omega.{arith}
use lib.Dec.{eqb}
use Rattle.fields.proofs.Cases.{case_b}
use Rattle.records.specs.Sorted.{record_of}
use Rattle.records.specs.Dense.{All}
use Rattle.table.specs.Row.{Row}
use Rattle.table.specs.Table.{Sorted, lookup}
use Rattle.store.specs.Effect.{Effect, puts, drops, keeps}
use Rattle.store.specs.Left.{left_by}
use Rattle.store.proofs.Runs.{set_left, remove_left}
use Rattle.crash.specs.Request.{Written}
use Rattle.crash.specs.Settings.{effect_by, settle, run_number, run_numbers}
use Rattle.crash.specs.Touch.{names, touches, leaves_from, leaves, Untouched}
use Rattle.crash.specs.Operator.{Decides}
use Rattle.crash.proofs.Settles.{settle_sorted}

-- ---- the rows stay sorted

number_sorted : (number : ℕ) (ws : List Written) (rs : List Row) → Sorted rs → Sorted (run_number number ws rs)
unfolding run_number
number_sorted number [] rs s = s
number_sorted number (w ∷ ws) rs s =
    case_b (eqb w.request.tx number)
    (λ q. rw q (number_sorted number ws _ (settle_sorted (effect_by w.request) rs s)))
    (λ q. rw q (number_sorted number ws rs s))

numbers_sorted : (ns : List ℕ) (ws : List Written) (rs : List Row) → Sorted rs → Sorted (run_numbers ns ws rs)
unfolding run_numbers
numbers_sorted [] ws rs s = s
numbers_sorted (n ∷ ns) ws rs s = numbers_sorted ns ws (run_number n ws rs) (number_sorted n ws rs s)

numbers_append : (ms ns : List ℕ) (ws : List Written) (rs : List Row) → run_numbers (ms ++ ns) ws rs ≡ run_numbers ns ws (run_numbers ms ws rs)
unfolding run_numbers
numbers_append [] ns ws rs = refl
numbers_append (m ∷ ms) ns ws rs = numbers_append ms ns ws (run_number m ws rs)

member : (before : List ℕ) (n : ℕ) (after : List ℕ) → Memᴰ n (before ++ (n ∷ after))
member [] n after = Memᴰ.head refl
member (m ∷ before) n after = Memᴰ.tail (member before n after)

-- both parts of the first test hold if the second does not
first_test : (a b : Bool) → ((a && b) || false) ≡ true → (a ≡ true) × (b ≡ true)
first_test true true e = (refl, refl)
first_test true false e = let z : ◌≡◌ {A = ℕ} 0 1 = cc in absurd (omega arith)
first_test false b e = let z : ◌≡◌ {A = ℕ} 0 1 = cc in absurd (omega arith)

module _ (key : List ℕ) where
  -- ---- one entry

  settle_left : (x : Effect) (rs : List Row) → Sorted rs → lookup key (settle x rs) ≡ left_by key x (lookup key rs)
  unfolding settle left_by
  settle_left (puts k value) rs s = set_left key rs s k value
  settle_left (drops k) rs s = remove_left key rs s k
  settle_left keeps rs s = refl

  -- an entry that names the key decides, whatever was there
  named_left : (x : Effect) (was other : Option (List ℕ)) → names key x ≡ true → left_by key x was ≡ left_by key x other
  unfolding names left_by
  named_left (puts k value) was other e = rw e
  named_left (drops k) was other e = rw e
  named_left keeps was other e = let z : ◌≡◌ {A = ℕ} 0 1 = cc in absurd (omega arith)

  -- another leaves what was there
  unnamed_left : (x : Effect) (was : Option (List ℕ)) → names key x ≡ false → left_by key x was ≡ was
  unfolding names left_by
  unnamed_left (puts k value) was e = rw e
  unnamed_left (drops k) was e = rw e
  unnamed_left keeps was e = refl

  -- ---- one transaction

  number_left : (number : ℕ) (ws : List Written) (rs : List Row) → Sorted rs → lookup key (run_number number ws rs) ≡ leaves_from key number ws (lookup key rs)
  unfolding run_number leaves_from
  number_left number [] rs s = refl
  number_left number (w ∷ ws) rs s =
      case_b (eqb w.request.tx number)
      (λ q. rw (q, ← settle_left (effect_by w.request) rs s) (number_left number ws _ (settle_sorted (effect_by w.request) rs s)))
      (λ q. rw q (number_left number ws rs s))

  touched_left : (number : ℕ) (ws : List Written) (was other : Option (List ℕ)) → touches key number ws ≡ true → leaves_from key number ws was ≡ leaves_from key number ws other
  unfolding touches leaves_from
  touched_left number [] was other h = let z : ◌≡◌ {A = ℕ} 0 1 = cc in absurd (omega arith)
  touched_left number (w ∷ ws) was other h =
      case_b (touches key number ws)
      (λ q. touched_left number ws _ _ q)
      (λ q.
      let both = first_test (eqb w.request.tx number) (names key (effect_by w.request)) (rw q at h) in
      rw (both.0, named_left (effect_by w.request) was other both.1))

  untouched_left : (number : ℕ) (ws : List Written) (was : Option (List ℕ)) → touches key number ws ≡ false → leaves_from key number ws was ≡ was
  unfolding touches leaves_from
  untouched_left number [] was h = refl
  untouched_left number (w ∷ ws) was h =
      case_b (eqb w.request.tx number)
      (λ p.
      case_b (names key (effect_by w.request))
      (λ q. let f = rw (p, q) at h in let z : ◌≡◌ {A = ℕ} 0 1 = cc in absurd (omega arith))
      (λ q. rw (p, unnamed_left (effect_by w.request) was q) (untouched_left number ws was (rw (p, q) at h))))
      (λ p. rw p (untouched_left number ws was (rw p at h)))

  -- ---- the transactions in their order

  numbers_left : (ns : List ℕ) (ws : List Written) (rs : List Row) → Sorted rs → All (Untouched key ws) ns → lookup key (run_numbers ns ws rs) ≡ lookup key rs
  unfolding run_numbers
  numbers_left [] ws rs s us = refl
  numbers_left (n ∷ ns) ws rs s us =
      numbers_left ns ws (run_number n ws rs) (number_sorted n ws rs s) us.1
      ∙ number_left n ws rs s
      ∙ untouched_left n ws (lookup key rs) us.0

  module _ (ws : List Written) where
    -- a key that none of them touches is not there
    none_touches : (ns : List ℕ) → All (Untouched key ws) ns → lookup key (run_numbers ns ws []) ≡ none
    unfolding lookup record_of
    none_touches ns us = numbers_left ns ws [] tt us

    -- the last one that touches it decides
    pub last_touches : (ns before : List ℕ) (n : ℕ) (after : List ℕ) → ns ≡ before ++ (n ∷ after) → touches key n ws ≡ true → All (Untouched key ws) after → lookup key (run_numbers ns ws []) ≡ leaves key n ws
    unfolding run_numbers leaves
    last_touches ns before n after e t us =
        let rs = run_numbers before ws [] in
        let s = numbers_sorted before ws [] tt in
        rw (e, numbers_append before (n ∷ after) ws [])
        (numbers_left after ws (run_number n ws rs) (number_sorted n ws rs s) us
        ∙ number_left n ws rs s
        ∙ touched_left n ws (lookup key rs) none t)

    record Last (ns : List ℕ) : Type 0 where
      before : List ℕ
      n : ℕ
      after : List ℕ
      parts : ns ≡ before ++ (n ∷ after)
      touching : touches key n ws ≡ true
      untouched : All (Untouched key ws) after

    last_or_none : (ns : List ℕ) → All (Untouched key ws) ns ⊎ Last ns
    last_or_none [] = inl tt
    last_or_none (m ∷ ns) =
        ⊎_elim
        (λ us.
        case_b (touches key m ws)
        (λ q. inr (record { before = []; n = m; after = ns; parts = refl; touching = q; untouched = us }))
        (λ q. inl (q, us)))
        (λ l.
        inr (record { before = m ∷ l.before; n = l.n; after = l.after; parts = ap (λ (ks : List ℕ). m ∷ ks) l.parts; touching = l.touching; untouched = l.untouched }))
        (last_or_none ns)

    -- one that touches it decides, or a later one does
    pub one_decides : (ns before : List ℕ) (n : ℕ) (after : List ℕ) → ns ≡ before ++ (n ∷ after) → touches key n ws ≡ true → Decides ws (n ∷ after) key (lookup key (run_numbers ns ws []))
    one_decides ns before n after e t =
        ⊎_elim
        (λ us. let f = sym t ∙ us.0 in let z : ◌≡◌ {A = ℕ} 0 1 = cc in absurd (omega arith))
        (λ l.
        let all : ns ≡ (before ++ l.before) ++ (l.n ∷ l.after) = e ∙ ap (λ (ks : List ℕ). before ++ ks) l.parts ∙ sym (append_assoc before l.before (l.n ∷ l.after)) in
        record {
          number = l.n;
          is_one = rw l.parts (member l.before l.n l.after);
          touching = l.touching;
          left = last_touches ns (before ++ l.before) l.n l.after all l.touching l.untouched;
        })
        (last_or_none (n ∷ after))

  -- ---- a key that no entry names

  abbrev pub Unnamed : Written → Type 0
  Unnamed w = names key (effect_by w.request) ≡ false

  unnamed_untouched : (number : ℕ) (ws : List Written) → All Unnamed ws → touches key number ws ≡ false
  unfolding touches
  unnamed_untouched number [] us = refl
  unnamed_untouched number (w ∷ ws) us =
      case_b (eqb w.request.tx number)
      (λ q. rw (q, us.0) (unnamed_untouched number ws us.1))
      (λ q. rw q (unnamed_untouched number ws us.1))

  all_untouched : (ns : List ℕ) (ws : List Written) → All Unnamed ws → All (Untouched key ws) ns
  all_untouched [] ws us = tt
  all_untouched (n ∷ ns) ws us = (unnamed_untouched n ws us, all_untouched ns ws us)

  pub unnamed_absent : (ns : List ℕ) (ws : List Written) → All Unnamed ws → lookup key (run_numbers ns ws []) ≡ none
  unnamed_absent ns ws us = none_touches ws ns (all_untouched ns ws us)

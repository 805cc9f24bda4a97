-- A history by computation, for the worked instances: what its steps leave, as a function, that it is lived if every call is
-- accepted, and tests of what the theorems are given. No statement uses it.
-- Assumes nothing.
use Rattle.std.specs.Prelude.{ℕ, zero, suc, ◌^◌, ◌≤◌, Bool, ◌&&◌, ◌||◌, ltb, eqb, length, take}
use Rattle.std.proofs.Math.Path.{◌≡◌, refl}
use Rattle.std.proofs.Common.{ap₂, ◌∙◌, arith, ltb-true, eqb-true, take-take, length-take-le}
use Rattle.std.proofs.Math.Bool.{true, false, and-eq-true_iff}
use mathlib.Core.List.{List, [], ◌∷◌, ◌++◌, Memᴰ}
use Rattle.std.proofs.Math.Option.{Option, none, some}
use Rattle.std.proofs.lemmas.List.{take-append-le}
use Rattle.fields.specs.Le.{Bytes}
use Rattle.records.specs.Dense.{All}
use Rattle.lists.specs.Markers.{is_there}
use Rattle.crash.specs.Request.{Request, Typed}
use Rattle.crash.specs.Life.{Life, opening, rotating, appending, Step, opens, rotates, appends, power_cut, Leads, Lives}

-- ---- what the types say, as a test

unfoldable pub are_bytes : List ℕ → Bool
are_bytes [] = true
are_bytes (b ∷ bs) = ltb b 256 && are_bytes bs

unfoldable pub is_typed : Request → Bool
is_typed r =
    ltb r.tx (2 ^ 64) && (ltb r.time (2 ^ 64) && (are_bytes r.key && (are_bytes r.old && are_bytes r.new)))

are_bytes_lem : (bs : List ℕ) → are_bytes bs ≡ true → Bytes bs
unfolding are_bytes
are_bytes_lem [] e i = omega arith
are_bytes_lem (b ∷ bs) e zero = ltb-true b 256 ((and-eq-true_iff (ltb b 256) (are_bytes bs)).0 e).0
are_bytes_lem (b ∷ bs) e (suc i) = are_bytes_lem bs ((and-eq-true_iff (ltb b 256) (are_bytes bs)).0 e).1 i

is_typed_lem : (r : Request) → is_typed r ≡ true → Typed r
unfolding is_typed
is_typed_lem r e =
    let parts = are_bytes r.old && are_bytes r.new in
    let tx = (and-eq-true_iff (ltb r.tx (2 ^ 64)) (ltb r.time (2 ^ 64) && (are_bytes r.key && parts))).0 e in
    let time = (and-eq-true_iff (ltb r.time (2 ^ 64)) (are_bytes r.key && parts)).0 tx.1 in
    let key = (and-eq-true_iff (are_bytes r.key) parts).0 time.1 in
    let values = (and-eq-true_iff (are_bytes r.old) (are_bytes r.new)).0 key.1 in
    record {
      tx = ltb-true r.tx (2 ^ 64) tx.0;
      time = ltb-true r.time (2 ^ 64) time.0;
      key = are_bytes_lem r.key key.0;
      old = are_bytes_lem r.old values.0;
      new = are_bytes_lem r.new values.1;
    }

-- ---- that each of some is one of others, as a test

unfoldable pub is_one_of : {A : Type 0} → (same : A → A → Bool) → List A → A → Bool
is_one_of same [] x = false
is_one_of same (y ∷ ys) x = same x y || is_one_of same ys x

unfoldable pub are_among : {A : Type 0} → (same : A → A → Bool) → List A → List A → Bool
are_among same ys [] = true
are_among same ys (x ∷ xs) = is_one_of same ys x && are_among same ys xs

unfoldable pub same_list : List ℕ → List ℕ → Bool
same_list [] [] = true
same_list [] (y ∷ ys) = false
same_list (x ∷ xs) [] = false
same_list (x ∷ xs) (y ∷ ys) = eqb x y && same_list xs ys

pub same_list_lem : (xs ys : List ℕ) → same_list xs ys ≡ true → xs ≡ ys
unfolding same_list
same_list_lem [] [] e = refl
same_list_lem [] (y ∷ ys) e = absurd (let z : ◌≡◌ {A = ℕ} 0 1 = cc in omega arith)
same_list_lem (x ∷ xs) [] e = absurd (let z : ◌≡◌ {A = ℕ} 0 1 = cc in omega arith)
same_list_lem (x ∷ xs) (y ∷ ys) e =
    let both = (and-eq-true_iff (eqb x y) (same_list xs ys)).0 e in
    ap₂ (λ (k : ℕ) (ks : List ℕ). k ∷ ks) (eqb-true x y both.0) (same_list_lem xs ys both.1)

module _ {A : Type 0} (same : A → A → Bool) (equal : (x y : A) → same x y ≡ true → x ≡ y) where
  is_one : (ys : List A) (x : A) → is_one_of same ys x ≡ true → Memᴰ x ys
  unfolding is_one_of
  is_one [] x e = absurd (let z : ◌≡◌ {A = ℕ} 0 1 = cc in omega arith)
  is_one (y ∷ ys) x e = told (same x y) refl e (is_one ys x)
    where
      told : (s : Bool) → same x y ≡ s → (s || is_one_of same ys x) ≡ true → (is_one_of same ys x ≡ true → Memᴰ x ys) → Memᴰ x (y ∷ ys)
      told true q e go = Memᴰ.head (equal x y q)
      told false q e go = Memᴰ.tail (go e)

  pub are_among_lem : (ys xs : List A) → are_among same ys xs ≡ true → All (λ (x : A). Memᴰ x ys) xs
  unfolding are_among
  are_among_lem ys [] e = tt
  are_among_lem ys (x ∷ xs) e =
      let both = (and-eq-true_iff (is_one_of same ys x) (are_among same ys xs)).0 e in
      (is_one ys x both.0, are_among_lem ys xs both.1)

-- ---- a run: calls, and no cut

abbrev pub or_else : Option Life → Life → Life
or_else none l = l
or_else (some after) l = after

-- what a step leaves; a call that is refused leaves all as it was
unfoldable pub after : Step → Life → Life
after (opens bound) l = or_else (opening bound l) l
after rotates l = or_else (rotating l) l
after (appends r) l = or_else (appending r l) l
after (power_cut c) l = l

unfoldable pub after_all : List Step → Life → Life
after_all [] l = l
after_all (step ∷ steps) l = after_all steps (after step l)

unfoldable pub accepts : Step → Life → Bool
accepts (opens bound) l = is_there (opening bound l)
accepts rotates l = is_there (rotating l)
accepts (appends r) l = is_typed r && is_there (appending r l)
accepts (power_cut c) l = false

unfoldable pub accepts_all : List Step → Life → Bool
accepts_all [] l = true
accepts_all (step ∷ steps) l = accepts step l && accepts_all steps (after step l)

there : (o : Option Life) (l : Life) → is_there o ≡ true → o ≡ some (or_else o l)
there none l e = absurd (let z : ◌≡◌ {A = ℕ} 0 1 = cc in omega arith)
there (some a) l e = refl

accepted_leads : (step : Step) (l : Life) → accepts step l ≡ true → Leads step l (after step l)
unfolding accepts after
accepted_leads (opens bound) l e = there (opening bound l) l e
accepted_leads rotates l e = there (rotating l) l e
accepted_leads (appends r) l e =
    let both = (and-eq-true_iff (is_typed r) (is_there (appending r l))).0 e in
    (is_typed_lem r both.0, there (appending r l) l both.1)
accepted_leads (power_cut c) l e = absurd (let z : ◌≡◌ {A = ℕ} 0 1 = cc in omega arith)

-- a run is lived if every call is accepted
pub run_lives : (steps : List Step) (l : Life) → accepts_all steps l ≡ true → Lives steps l (after_all steps l)
unfolding accepts_all after_all
run_lives [] l e = refl
run_lives (step ∷ steps) l e =
    let both = (and-eq-true_iff (accepts step l) (accepts_all steps (after step l))).0 e in
    (after step l, (accepted_leads step l both.0, run_lives steps (after step l) both.1))

-- ---- a cut, and what comes after it

-- an area that is lent again has the bytes that are kept, whatever stands behind them
pub same_front : (n : ℕ) (area behind : List ℕ) → n ≤ length area → take n (take n area ++ behind) ≡ take n area
same_front n area behind h =
    take-append-le n (take n area) behind (rw (length-take-le n area h) (omega arith)) ∙ take-take n n area (omega arith)

pub lives_then : (steps more : List Step) (before middle after : Life) → Lives steps before middle → Lives more middle after → Lives (steps ++ more) before after
lives_then [] more before middle after e f = rw e f
lives_then (step ∷ steps) more before middle after e f =
    (e.0, (e.1.0, lives_then steps more e.0 middle after e.1.1 f))

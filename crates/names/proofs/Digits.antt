-- Laws of decimal digits: each by the last digit, from the number without it.
-- Assumes nothing.
use mathlib.Core.Path.{◌≡◌, refl, ap, ◌∙◌}
use mathlib.Core.Bool.{true, ◌&&◌, and_assoc}
use mathlib.Core.List.{List, [], ◌∷◌, ◌++◌, append_assoc}
use Prim.Native.Nat.{ℕ, zero, suc, ◌+◌, ◌-◌, ◌*◌, ◌/◌, ◌%◌, ◌^◌, ◌<◌, ◌≤◌, max}
use native.Mathlib.Nat.{pow-succ'}
use native.Mathlib.Omega.{arith}
use borrow.Author.Tests.{lt-ltb, le-ltb, le-leb}
use lib.Dec.{ltb}
use lib.Seq.{sets, set_comm}
use lib.ListN.{length, set, replicate, length-append, length-replicate, replicate-append-replicate}
use Rattle.fields.proofs.Cases.{case_b, tests}
use Rattle.fields.proofs.Stores.{sets_join}
use Rattle.names.specs.Decimal.{byte_of, is_digit, digits_by, digits_of, padded, low_digits, all_digits, value_after, value_of}

-- ---- the digits of a number

enough : (k j n : ℕ) → n < k → n < j → digits_by k (ltb n 10) n ≡ digits_by j (ltb n 10) n
unfolding digits_by
enough zero j n h l = absurd (omega arith)
enough (suc k) zero n h l = absurd (omega arith)
enough (suc k) (suc j) n h l =
    case_b (ltb n 10)
    (λ q. rw q)
    (λ q. let g : 10 ≤ n = omega (arith, tests) in rw (q, enough k j (n / 10) (omega arith) (omega arith)))

pub digits_last : (n : ℕ) → n < 10 → digits_of n ≡ byte_of n ∷ []
unfolding digits_by digits_of
digits_last n h = rw (lt-ltb n 10 h)

pub digits_more : (n : ℕ) → 10 ≤ n → digits_of n ≡ digits_of (n / 10) ++ byte_of (n % 10) ∷ []
unfolding digits_by digits_of
digits_more n h = rw (le-ltb n 10 h, enough n (suc (n / 10)) (n / 10) (omega arith) (omega arith))

pub length_last : (n : ℕ) → n < 10 → length (digits_of n) ≡ 1
length_last n h = rw (digits_last n h)

pub length_more : (n : ℕ) → 10 ≤ n → length (digits_of n) ≡ length (digits_of (n / 10)) + 1
length_more n h = rw (digits_more n h, length-append)

-- what holds below 10, and of a number if it holds of the number without its last digit, holds of all
by_digits : (P : ℕ → Type 0) → ((n : ℕ) → n < 10 → P n) → ((n : ℕ) → 10 ≤ n → P (n / 10) → P n) → (n : ℕ) → P n
by_digits P one more n = go (suc n) n (omega arith)
  where
    go : (k n : ℕ) → n < k → P n
    go zero n h = absurd (omega arith)
    go (suc k) n h =
        case_b (ltb n 10) (λ q. one n (omega (arith, tests)))
        (λ q. let g : 10 ≤ n = omega (arith, tests) in more n g (go k (n / 10) (omega arith)))

pub digits_some : (n : ℕ) → 1 ≤ length (digits_of n)
digits_some =
    by_digits (λ n. 1 ≤ length (digits_of n)) (λ n h. omega (arith, length_last n h)) (λ n h ih. omega (arith, length_more n h))

pub digits_most : (w n : ℕ) → n < 10 ^ suc w → length (digits_of n) ≤ suc w
digits_most zero n h = omega (arith, length_last n (omega (arith, pow-succ' 10 zero)))
digits_most (suc w) n h =
    case_b (ltb n 10) (λ q. omega (arith, length_last n (omega (arith, tests))))
    (λ q. omega (arith, length_more n (omega (arith, tests)), digits_most w (n / 10) (omega (arith, pow-succ' 10 (suc w)))))

one_pow : (w : ℕ) → 1 ≤ 10 ^ w
one_pow zero = omega arith
one_pow (suc w) = omega (arith, pow-succ' 10 w, one_pow w)

digits_least : (w n : ℕ) → 10 ^ w ≤ n → suc w ≤ length (digits_of n)
digits_least zero n h = digits_some n
digits_least (suc w) n h =
    let k : 10 * 10 ^ w ≤ n = omega (arith, pow-succ' 10 w) in
    let l : 1 ≤ 10 ^ w = one_pow w in
    omega (arith, length_more n (omega arith), digits_least w (n / 10) (omega arith))

-- one digit more than the number's logarithm; `0` has one too
pub digits_count : (k n m : ℕ) → m ≡ max n 1 → 10 ^ k ≤ m → m < 10 * 10 ^ k → length (digits_of n) ≡ k + 1
digits_count zero n m e h l = omega (arith, length_last n (omega arith))
digits_count (suc k) n m e h l =
    let f : m ≡ n = omega (arith, pow-succ' 10 k, one_pow k) in
    omega (arith, digits_least (suc k) m h, digits_most (suc k) m (omega (arith, pow-succ' 10 (suc k))), ap (λ x. length (digits_of x)) f)

-- ---- padding

pub length-padded : (w : ℕ) (ds : List ℕ) → length (padded w ds) ≡ max w (length ds)
unfolding padded
length-padded w ds = simp (length-append, length-replicate) (omega arith)

low_zero : (w : ℕ) → low_digits w 0 ≡ replicate w (byte_of 0)
unfolding low_digits
low_zero zero = refl
low_zero (suc w) =
    let e : w + 1 ≡ suc w = omega arith in
    rw (low_zero w, replicate-append-replicate {A = ℕ} w 1 48, e)

-- digits with zeros in front are the lowest digits at that width
pub padded_low : (w n : ℕ) → length (digits_of n) ≤ w → padded w (digits_of n) ≡ low_digits w n
unfolding padded low_digits
padded_low zero n h = absurd (omega (arith, digits_some n))
padded_low (suc w) n h =
    case_b (ltb n 10)
    (λ q.
    let e : suc w - 1 ≡ w = omega arith in
    let f : n / 10 ≡ 0 = omega (arith, tests) in
    let g : n % 10 ≡ n = omega (arith, tests) in
    rw (digits_last n (omega (arith, tests)), e, f, g, low_zero w))
    (λ q.
    let m : 10 ≤ n = omega (arith, tests) in
    let e : suc w - length (digits_of n) ≡ w - length (digits_of (n / 10)) = omega (arith, length_more n m) in
    rw (e, digits_more n m, ← append_assoc (replicate (w - length (digits_of (n / 10))) 48) (digits_of (n / 10)) (byte_of (n % 10) ∷ []), ← padded_low w (n / 10) (omega (arith, length_more n m))))

pub length-low : (w n : ℕ) → length (low_digits w n) ≡ w
unfolding low_digits
length-low zero n = refl
length-low (suc w) n = rw (length-append, length-low w (n / 10)) (omega arith)

-- a store beyond other stores may come before them
sets_set : (l vs : List ℕ) (i j v : ℕ) → i + length vs ≤ j → sets (set l j v) i vs ≡ set (sets l i vs) j v
sets_set l [] i j v h = refl
sets_set l (x ∷ xs) i j v h = rw (set_comm l j i v x (λ e. omega arith)) (sets_set (set l i x) xs (suc i) j v (omega arith))

-- the loop that writes: a turn, from the last digit to the first
pub put_turn : (l : List ℕ) (at i n : ℕ) → 0 < i → sets (set l (at + (i - 1)) (byte_of (n % 10))) at (low_digits (i - 1) (n / 10)) ≡ sets l at (low_digits i n)
unfolding low_digits
put_turn l at zero n h = absurd (omega arith)
put_turn l at (suc i) n h =
    let e : suc i - 1 ≡ i = omega arith in
    rw (e, sets_set l (low_digits i (n / 10)) at (at + i) (byte_of (n % 10)) (omega (arith, length-low i (n / 10))), ← sets_join l (low_digits i (n / 10)) (byte_of (n % 10) ∷ []) at (at + i) (rw length-low))

-- the padded digits are as many of the lowest digits as they are
pub padded_width : (w n : ℕ) → padded w (digits_of n) ≡ low_digits (length (padded w (digits_of n))) n
unfolding padded
padded_width w n =
    let m = max w (length (digits_of n)) in
    let e : m - length (digits_of n) ≡ w - length (digits_of n) = omega arith in
    let f : length (digits_of n) ≤ m = omega arith in
    rw (length-padded w (digits_of n), ← padded_low m n f, e)

-- ---- the number of digits

value_append : (v : ℕ) (xs ys : List ℕ) → value_after v (xs ++ ys) ≡ value_after (value_after v xs) ys
unfolding value_after
value_append v [] ys = refl
value_append v (x ∷ xs) ys = value_append (10 * v + (x - 48)) xs ys

pub value_grows : (v : ℕ) (ds : List ℕ) → v ≤ value_after v ds
unfolding value_after
value_grows v [] = omega arith
value_grows v (d ∷ ds) = omega (arith, value_grows (10 * v + (d - 48)) ds)

value_zeros : (k : ℕ) (ds : List ℕ) → value_of (replicate k (byte_of 0) ++ ds) ≡ value_of ds
unfolding value_after
value_zeros zero ds = refl
value_zeros (suc k) ds = value_zeros k ds

-- there and back
value_digits : (n : ℕ) → value_of (digits_of n) ≡ n
unfolding value_after
value_digits =
    by_digits (λ n. value_of (digits_of n) ≡ n) (λ n h. rw (digits_last n h) (omega arith))
    (λ n h ih. rw (digits_more n h, value_append 0 (digits_of (n / 10)) (byte_of (n % 10) ∷ []), ih) (omega arith))

pub value_padded : (w n : ℕ) → value_of (padded w (digits_of n)) ≡ n
unfolding padded
value_padded w n = value_zeros (w - length (digits_of n)) (digits_of n) ∙ value_digits n

-- ---- digits only

all_append : (xs ys : List ℕ) → all_digits (xs ++ ys) ≡ (all_digits xs && all_digits ys)
unfolding all_digits
all_append [] ys = refl
all_append (x ∷ xs) ys = rw (all_append xs ys, and_assoc (is_digit x) (all_digits xs) (all_digits ys))

digit_one : (d : ℕ) → d < 10 → all_digits (byte_of d ∷ []) ≡ true
unfolding all_digits
digit_one d h = rw (le-leb 48 (byte_of d) (omega arith), le-leb (byte_of d) 57 (omega arith))

all_zeros : (k : ℕ) → all_digits (replicate k (byte_of 0)) ≡ true
unfolding all_digits
all_zeros zero = refl
all_zeros (suc k) = all_zeros k

all_digits_lem : (n : ℕ) → all_digits (digits_of n) ≡ true
all_digits_lem =
    by_digits (λ n. all_digits (digits_of n) ≡ true) (λ n h. rw (digits_last n h) (digit_one n h))
    (λ n h ih. rw (digits_more n h, all_append, ih) (digit_one (n % 10) (omega arith)))

pub all_padded : (w n : ℕ) → all_digits (padded w (digits_of n)) ≡ true
unfolding padded
all_padded w n = rw (all_append, all_zeros, all_digits_lem n)

-- Laws of `bit_xor` that lib.Bits lacks: it is associative, and what follows from that.
use mathlib.Core.Path.{◌≡◌, refl, sym, ap, ap₂, ◌∙◌}
use Prim.Native.Nat.{ℕ, zero, suc, ◌+◌, ◌*◌, ◌/◌, ◌%◌, ◌<◌}
use native.Mathlib.Nat.{mod-lt, zero-lt-suc, le_of_suc-le-suc, not-suc-le-zero}
use lib.Arith.{bin_ind}
use lib.Bits.{bit_xor, differ, xor_step, xor_shr, xor_mod, xor_comm}

-- What holds of 0 and of 1 holds of the lowest binary digit of each number.
pub digit : (P : ℕ → Type 0) → P 0 → P 1 → (a : ℕ) → P (a % 2)
digit P p0 p1 a = below (a % 2) (mod-lt a (zero-lt-suc 1)) where
  below : (x : ℕ) → x < 2 → P x
  below zero h = p0
  below (suc zero) h = p1
  below (suc (suc x)) h = absurd (not-suc-le-zero (le_of_suc-le-suc (le_of_suc-le-suc h)))

-- Of digits it is seen by cases, which compute.
digit_assoc : (a b c : ℕ) → differ (bit_xor (a % 2) (b % 2)) (c % 2) ≡ differ (a % 2) (bit_xor (b % 2) (c % 2))
digit_assoc a b c =
    digit (λ x. differ (bit_xor x (b % 2)) (c % 2) ≡ differ x (bit_xor (b % 2) (c % 2)))
    (digit (λ y. differ (bit_xor 0 y) (c % 2) ≡ differ 0 (bit_xor y (c % 2))) refl (digit (λ z. differ (bit_xor 0 1) z ≡ differ 0 (bit_xor 1 z)) refl refl c) b)
    (digit (λ y. differ (bit_xor 1 y) (c % 2) ≡ differ 1 (bit_xor y (c % 2))) refl (digit (λ z. differ (bit_xor 1 1) z ≡ differ 1 (bit_xor 1 z)) refl refl c) b)
    a

xor_assoc : (a b c : ℕ) → bit_xor (bit_xor a b) c ≡ bit_xor a (bit_xor b c)
xor_assoc a =
    bin_ind (λ (n : ℕ). (b c : ℕ) → bit_xor (bit_xor n b) c ≡ bit_xor n (bit_xor b c))
    (λ b c. refl)
    (λ n ih b c. xor_step (bit_xor n b) c
    ∙ ap₂ (λ (x y : ℕ). bit_xor x (c / 2) * 2 + differ y (c % 2)) (xor_shr n b 1) (xor_mod n b 1)
    ∙ ap₂ (λ (x y : ℕ). x * 2 + y) (ih (b / 2) (c / 2)) (digit_assoc n b c)
    ∙ ap₂ (λ (x y : ℕ). bit_xor (n / 2) x * 2 + differ (n % 2) y) (sym (xor_shr b c 1)) (sym (xor_mod b c 1))
    ∙ sym (xor_step n (bit_xor b c))) a

xor_left_comm : (a b c : ℕ) → bit_xor a (bit_xor b c) ≡ bit_xor b (bit_xor a c)
xor_left_comm a b c = sym (xor_assoc a b c) ∙ ap (λ (x : ℕ). bit_xor x c) (xor_comm a b) ∙ xor_assoc b a c

pub xor_swap : (a b c d : ℕ) → bit_xor (bit_xor a b) (bit_xor c d) ≡ bit_xor (bit_xor a c) (bit_xor b d)
xor_swap a b c d = xor_assoc a b (bit_xor c d) ∙ ap (bit_xor a) (xor_left_comm b c d) ∙ sym (xor_assoc a c (bit_xor b d))

-- Bit steps are linear: of numbers that are xored each can be taken by itself.
-- Assumes nothing.
use mathlib.Core.Path.{◌≡◌, refl, sym, ap, ap₂, ◌∙◌}
use Prim.Native.Nat.{ℕ, zero, suc, ◌*◌, ◌/◌, ◌%◌, ◌^◌}
use native.Mathlib.Nat.{mul-one, mod-lt}
use lib.Bits.{bit_xor, xor_shr, xor_mod, xor_zero_r, xor_shifted, shifted_half, shifted_even, xor_comm}
use lib.Pow.{split, pow_pos}
use Rattle.crc32.specs.Crc.{poly, bit_step, bit_steps}
use Rattle.crc32.proofs.Xor.{digit, xor_swap}

times_poly : (a b : ℕ) → bit_xor (a % 2) (b % 2) * poly ≡ bit_xor (a % 2 * poly) (b % 2 * poly)
times_poly a b =
    digit (λ x. bit_xor x (b % 2) * poly ≡ bit_xor (x * poly) (b % 2 * poly))
    refl
    (digit (λ y. bit_xor 1 y * poly ≡ bit_xor (1 * poly) (y * poly)) refl refl b)
    a

bit_step_xor : (a b : ℕ) → bit_step (bit_xor a b) ≡ bit_xor (bit_step a) (bit_step b)
unfolding bit_step
bit_step_xor a b =
    ap₂ (λ (x y : ℕ). bit_xor x (y * poly)) (xor_shr a b 1) (xor_mod a b 1)
    ∙ ap (bit_xor (bit_xor (a / 2) (b / 2))) (times_poly a b)
    ∙ xor_swap (a / 2) (b / 2) (a % 2 * poly) (b % 2 * poly)

pub bit_steps_xor : (n a b : ℕ) → bit_steps n (bit_xor a b) ≡ bit_xor (bit_steps n a) (bit_steps n b)
unfolding bit_steps
bit_steps_xor zero a b = refl
bit_steps_xor (suc n) a b = ap (bit_steps n) (bit_step_xor a b) ∙ bit_steps_xor n (bit_step a) (bit_step b)

pub bit_steps_zero : (n : ℕ) → bit_steps n 0 ≡ 0
unfolding bit_steps bit_step
bit_steps_zero zero = refl
bit_steps_zero (suc n) = bit_steps_zero n

-- zeros at the low end only move out
bit_step_even : (a k : ℕ) → bit_step (a * 2 ^ suc k) ≡ a * 2 ^ k
unfolding bit_step
bit_step_even a k =
    ap₂ (λ (x y : ℕ). bit_xor x (y * poly)) (shifted_half a k) (shifted_even a k) ∙ xor_zero_r (a * 2 ^ k)

bit_steps_shifted : (k a : ℕ) → bit_steps k (a * 2 ^ k) ≡ a
unfolding bit_steps
bit_steps_shifted zero a = mul-one a
bit_steps_shifted (suc k) a = ap (bit_steps k) (bit_step_even a k) ∙ bit_steps_shifted k a

-- what stands above the low k digits only moves, while k bits fall out
pub above : (k x : ℕ) → bit_xor (bit_steps k (x % 2 ^ k)) (x / 2 ^ k) ≡ bit_steps k x
above k x =
    ap (bit_xor (bit_steps k (x % 2 ^ k))) (sym (bit_steps_shifted k (x / 2 ^ k)))
    ∙ sym (bit_steps_xor k (x % 2 ^ k) (x / 2 ^ k * 2 ^ k))
    ∙ ap (bit_steps k)
    (xor_comm (x % 2 ^ k) (x / 2 ^ k * 2 ^ k) ∙ xor_shifted (x / 2 ^ k) k (x % 2 ^ k) (mod-lt x (pow_pos k)) ∙ split x k)

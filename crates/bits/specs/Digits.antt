-- Laws of the binary digits of a number: one set, one cleared, the lowest.
use Rattle.std.specs.Prelude.{
  ℕ,
  zero,
  suc,
  ◌*◌,
  ◌/◌,
  ◌%◌,
  ◌^◌,
  ◌<◌,
  ◌≡◌,
  refl,
  not,
  ◌&&◌,
  ◌||◌,
  eqb,
}
use Rattle.std.proofs.Common.{◌∙◌, arith, eq-eqb, ne_eqb}
use Rattle.std.proofs.Math.Decide.{ℕ_discrete}
use Rattle.std.specs.Int.Bits.{bit_or, bit_xor}
use Rattle.std.specs.Int.Count.{count_trailing_zeros, under}
use Rattle.std.proofs.lemmas.Nat.{one_shl}
use Rattle.std.proofs.lemmas.Nat.Bits.{
  bit_at_lowest,
  bit_at-suc,
  bit_at_or,
  bit_at_xor,
  bit_at-pow_same,
  bit_at-pow_other,
}

-- digit i of n
abbrev pub bit : ℕ → ℕ → ℕ
bit n i = n / 2 ^ i % 2

-- a one shifted within a word is a power of two
pub one_bit : (k : ℕ) → k < 64 → 1 * 2 ^ k % 2 ^ 64 ≡ 2 ^ k
one_bit k h = one_shl k 64 h

-- one digit set
pub bit-put : (n i j : ℕ) → eqb (bit (bit_or n (2 ^ i)) j) 1 ≡ (eqb j i || eqb (bit n j) 1)
bit-put n i j = elim (ℕ_discrete j i) [
  | yes e ↦
      let one : bit (bit_or n (2 ^ i)) i ≡ 1 =
      omega (arith, bit_at_or n (2 ^ i) i, bit_at-pow_same i) in
      rw (e, eq-eqb i i refl, eq-eqb _ 1 one)
  | no e ↦
      let same : bit (bit_or n (2 ^ i)) j ≡ bit n j =
      omega (arith, bit_at_or n (2 ^ i) j, bit_at-pow_other i j e) in
      rw (ne_eqb j i e, same)
]

-- one digit cleared
pub bit-drop : (n i j : ℕ)
    → eqb (bit (bit_xor (bit_or n (2 ^ i)) (2 ^ i)) j) 1 ≡ (not (eqb j i) && eqb (bit n j) 1)
bit-drop n i j =
    let each = bit_at_xor (bit_or n (2 ^ i)) (2 ^ i) j in
    elim (ℕ_discrete j i) [
      | yes e ↦
          let none : bit (bit_xor (bit_or n (2 ^ i)) (2 ^ i)) i ≡ 0 =
          omega (
            arith,
            bit_at_xor (bit_or n (2 ^ i)) (2 ^ i) i,
            bit_at_or n (2 ^ i) i,
            bit_at-pow_same i,
          ) in
          rw (e, none, eq-eqb i i refl)
      | no e ↦
          let same : bit (bit_xor (bit_or n (2 ^ i)) (2 ^ i)) j ≡ bit n j =
          omega (arith, each, bit_at_or n (2 ^ i) j, bit_at-pow_other i j e) in
          rw (ne_eqb j i e, same)
    ]

-- ---- the digits above the lowest are those of the half
pub half : (n i : ℕ) → bit n (suc i) ≡ bit (n / 2) i
half = bit_at-suc

pub zeroth : (n : ℕ) → bit n 0 ≡ n % 2
zeroth = bit_at_lowest

-- ---- the lowest set digit: no digit below it is set
pub trailing_zero : (k n i : ℕ) → i < count_trailing_zeros k n → bit n i ≡ 0
unfolding count_trailing_zeros
trailing_zero zero n i h = absurd (omega arith)
trailing_zero (suc k) n i h = go (n % 2) refl i h (trailing_zero k (n / 2))
  where
    go : (d : ℕ) → n % 2 ≡ d → (j : ℕ) → j < under d (count_trailing_zeros k (n / 2))
        → ((l : ℕ) → l < count_trailing_zeros k (n / 2) → bit (n / 2) l ≡ 0) → bit n j ≡ 0
    go zero e zero g ih = zeroth n ∙ e
    go zero e (suc j) g ih = half n j ∙ ih j (omega arith)
    go (suc d) e j g ih = absurd (omega arith)

-- where there is one, it is set
pub trailing_one : (k n : ℕ) → count_trailing_zeros k n < k → bit n (count_trailing_zeros k n) ≡ 1
unfolding count_trailing_zeros
trailing_one zero n h = absurd (omega arith)
trailing_one (suc k) n h = go (n % 2) refl (omega arith) h (trailing_one k (n / 2))
  where
    go : (d : ℕ) → n % 2 ≡ d → d < 2 → under d (count_trailing_zeros k (n / 2)) < suc k
        → (count_trailing_zeros k (n / 2) < k → bit (n / 2) (count_trailing_zeros k (n / 2)) ≡ 1)
        → bit n (under d (count_trailing_zeros k (n / 2))) ≡ 1
    go zero e s g ih = half n (count_trailing_zeros k (n / 2)) ∙ ih (omega arith)
    go (suc zero) e s g ih = zeroth n ∙ e
    go (suc (suc d)) e s g ih = absurd (omega arith)

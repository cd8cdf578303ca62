-- How many numbers below a bound pass a test.
use Rattle.std.specs.Prelude.{◌≡◌, refl, Bool, true, false, not, ℕ, zero, suc, ◌+◌, ◌≤◌, ◌<◌, T}
use Rattle.std.proofs.Common.{add-zero, add-suc, arith}
use Rattle.std.proofs.Math.Decide.{ℕ_discrete}
use Rattle.search.specs.Truth.{is_true, is_false}
use Rattle.search.specs.Sets.{add, add-self, add-other}

unfoldable pub bit : Bool → ℕ
bit true = 1
bit false = 0

-- how many numbers below n pass
unfoldable pub count : (ℕ → Bool) → ℕ → ℕ
count q zero = 0
count q (suc n) = bit (q n) + count q n

pub bit_le : (b : Bool) → bit b ≤ 1
unfolding bit
bit_le true = omega arith
bit_le false = omega arith

pub count-le : (q : ℕ → Bool) (n : ℕ) → count q n ≤ n
unfolding count
count-le q zero = omega arith
count-le q (suc n) = omega (arith, bit_le (q n), count-le q n)

-- n numbers more count at most n more
pub count_past : (q : ℕ → Bool) (u n : ℕ) → count q (u + n) ≤ count q u + n
unfolding count
count_past q u zero = rw (add-zero u) (omega arith)
count_past q u (suc n) = rw (add-suc u n) (omega (arith, bit_le (q (u + n)), count_past q u n))

-- two tests that agree below n count alike
pub count_same : (q r : ℕ → Bool) (n : ℕ) → ((i : ℕ) → i < n → q i ≡ r i) → count q n ≡ count r n
unfolding count
count_same q r zero h = refl
count_same q r (suc n) h = rw (h n (omega arith), count_same q r n (λ i l. h i (omega arith)))

pub count_none : (q : ℕ → Bool) (n : ℕ) → ((i : ℕ) → i < n → T (not (q i))) → count q n ≡ 0
unfolding count bit
count_none q zero h = refl
count_none q (suc n) h =
    rw (is_false (q n) (h n (omega arith)), count_none q n (λ i l. h i (omega arith)))

pub count-above : (q : ℕ → Bool) (c n : ℕ) → n ≤ c → count (add c q) n ≡ count q n
count-above q c n h = count_same (add c q) q n (λ i l. add-other c q i (omega arith))

-- a new member below n counts one more
pub count_add : (q : ℕ → Bool) (c n : ℕ) → c < n → T (not (q c))
    → count (add c q) n ≡ suc (count q n)
unfolding count bit
count_add q c zero h t = absurd (omega arith)
count_add q c (suc n) h t = elim (ℕ_discrete n c) [
  | yes e ↦ here e
  | no ne ↦ rw (add-other c q n ne, count_add q c n (omega arith) t) (omega arith)
]
  where
    here : n ≡ c → count (add c q) (suc n) ≡ suc (count q (suc n))
    here e =
        rw (
          is_true (add c q n) (rw e (add-self c q)),
          is_false (q n) (rw e t),
          count-above q c n (omega arith),
        )
        (omega arith)

-- where the count is n, all below n pass
pub count-full : (q : ℕ → Bool) (n : ℕ) → count q n ≡ n → (i : ℕ) → i < n → T (q i)
unfolding count bit
count-full q zero e i h = absurd (omega arith)
count-full q (suc n) e i h = go (λ p l. count-full q n p i l) (q n) refl
  where
    go : (count q n ≡ n → i < n → T (q i)) → (b : Bool) → q n ≡ b → T (q i)
    go ih false p =
        absurd (let z : 0 + count q n ≡ suc n = (rw p at e) in omega (arith, count-le q n))
    go ih true p = elim (ℕ_discrete i n) [
      | yes s ↦ rw (s, p) tt
      | no s ↦ ih (let z : 1 + count q n ≡ suc n = (rw p at e) in omega arith) (omega arith)
    ]

pub count-all : (q : ℕ → Bool) (n : ℕ) → ((i : ℕ) → i < n → T (q i)) → count q n ≡ n
unfolding count bit
count-all q zero h = refl
count-all q (suc n) h =
    rw (is_true (q n) (h n (omega arith)), count-all q n (λ i l. h i (omega arith))) (omega arith)

-- where the count is 0, none below n passes
pub count-zero : (q : ℕ → Bool) (n : ℕ) → count q n ≡ 0 → (i : ℕ) → i < n → T (not (q i))
unfolding count bit
count-zero q zero e i h = absurd (omega arith)
count-zero q (suc n) e i h = go (λ p l. count-zero q n p i l) (q n) refl
  where
    go : (count q n ≡ 0 → i < n → T (not (q i))) → (b : Bool) → q n ≡ b → T (not (q i))
    go ih true p = absurd (let z : 1 + count q n ≡ 0 = (rw p at e) in omega arith)
    go ih false p = elim (ℕ_discrete i n) [
      | yes s ↦ rw (s, p) tt
      | no s ↦ ih (let z : 0 + count q n ≡ 0 = (rw p at e) in omega arith) (omega arith)
    ]

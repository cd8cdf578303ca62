-- The least number that passes a test, and how a loop shows it.
use Rattle.std.specs.Prelude.{◌≡◌, refl, Bool, true, false, not, ℕ, zero, suc, ◌+◌, ◌≤◌, ◌<◌, T}
use Rattle.std.proofs.Common.{arith}
use Rattle.std.proofs.Math.Decide.{ℕ_discrete, dec_lt}
use Rattle.search.specs.Truth.{clash}

-- the least number from k on, among the n next, that passes; k + n where none does
unfoldable pub least_from : (ℕ → Bool) → ℕ → ℕ → ℕ
least_from q zero k = k
least_from q (suc n) k = elim (q k) [ true ↦ k | false ↦ least_from q n (suc k) ]

pub record LeastFrom (q : ℕ → Bool) (n k r : ℕ) : Type 0 where
  pub low : k ≤ r
  pub high : r ≤ k + n
  pub passes : r < k + n → T (q r)
  pub below : (i : ℕ) → k ≤ i → i < r → T (not (q i))

pub least_from-is : (q : ℕ → Bool) (n k : ℕ) → LeastFrom q n k (least_from q n k)
unfolding least_from
least_from-is q zero k = record {
  low = omega arith;
  high = omega arith;
  passes = λ h. absurd (omega arith);
  below = λ i a b. absurd (omega arith);
}
least_from-is q (suc n) k = go (q k) refl (least_from-is q n (suc k))
  where
    go : (b : Bool) → q k ≡ b → LeastFrom q n (suc k) (least_from q n (suc k))
        → LeastFrom q (suc n) k (elim b [ true ↦ k | false ↦ least_from q n (suc k) ])
    go true e ih = record {
      low = omega arith;
      high = omega arith;
      passes = λ h. rw e tt;
      below = λ i a b. absurd (omega arith);
    }
    go false e ih = record {
      low = omega (arith, ih.low);
      high = omega (arith, ih.high);
      passes = λ h. ih.passes (omega arith);
      below = λ i a b. elim (ℕ_discrete i k)
          [ yes p ↦ rw (p, e) tt | no p ↦ ih.below i (omega arith) b ];
    }

-- r is the least below n that passes, or n where none does
pub record Lowest (q : ℕ → Bool) (n r : ℕ) : Type 0 where
  pub high : r ≤ n
  pub passes : r < n → T (q r)
  pub below : (i : ℕ) → i < r → T (not (q i))

pub lowest-is : (q : ℕ → Bool) (n : ℕ) → Lowest q n (least_from q n 0)
lowest-is q n =
    let l = least_from-is q n 0 in
    record {
      high = omega (arith, l.high);
      passes = λ h. l.passes (omega arith);
      below = λ i h. l.below i (omega arith) h;
    }

pub lowest-one : (q : ℕ → Bool) (n r s : ℕ) → Lowest q n r → Lowest q n s → r ≡ s
lowest-one q n r s a b = elim (dec_lt r s) [
  | yes p ↦ absurd (clash (q r) (a.passes (omega (arith, b.high))) (b.below r p))
  | no p ↦ elim (dec_lt s r) [
    | yes z ↦ absurd (clash (q s) (b.passes (omega (arith, a.high))) (a.below s z))
    | no z ↦ omega arith
  ]
]

-- a loop that passed over i numbers and stands at one that passes
pub found : (q : ℕ → Bool) (n i : ℕ) → i < n → ((k : ℕ) → k < i → T (not (q k))) → T (q i)
    → i ≡ least_from q n 0
found q n i h b t =
    lowest-one q n i (least_from q n 0)
    (record { high = omega arith; passes = λ g. t; below = b }) (lowest-is q n)

-- a loop that passed over all n
pub not_found : (q : ℕ → Bool) (n i : ℕ) → n ≤ i → i ≤ n → ((k : ℕ) → k < i → T (not (q k)))
    → i ≡ least_from q n 0
not_found q n i h g b =
    lowest-one q n i (least_from q n 0)
    (record { high = g; passes = λ z. absurd (omega arith); below = b }) (lowest-is q n)

-- The place of the first that passes, as the least number that passes.
use Prim.Native.Nat.{ℕ, zero, suc, ◌<◌}
use Rattle.std.specs.Prelude.{◌≡◌, Bool, cond, length, get_or, T, not}
use Rattle.std.proofs.Math.Path.{refl}
use Rattle.std.proofs.Math.Bool.{true, false}
use mathlib.Core.List.{List, [], ◌∷◌}
use Rattle.std.proofs.Common.{arith}
use Rattle.search.specs.Least.{Lowest, lowest-one, lowest-is, least_from}
use Rattle.grammar.specs.Rows.{place}

module _ {A : Type 0} (p : A → Bool) (e : A) where
  pub place_is : (xs : List A) → Lowest (λ i. p (get_or xs i e)) (length xs) (place p xs)
  unfolding place
  place_is [] = record {
    high = omega arith;
    passes = λ h. absurd (omega arith);
    below = λ i h. absurd (omega arith);
  }
  place_is (x ∷ xs) = go (p x) refl (place_is xs)
    where
      go : (b : Bool) → p x ≡ b → Lowest (λ i. p (get_or xs i e)) (length xs) (place p xs)
          → Lowest (λ i. p (get_or (x ∷ xs) i e)) (suc (length xs)) (cond b 0 (suc (place p xs)))
      go true q l = record {
        high = omega arith;
        passes = λ h. rw q tt;
        below = λ i h. absurd (omega arith);
      }
      go false q l = record {
        high = omega (arith, l.high);
        passes = λ h. l.passes (omega arith);
        below =
            λ i. elim i as (λ k. k < suc (place p xs) → T (not (p (get_or (x ∷ xs) k e))))
            [ zero ↦ λ h. rw q tt | suc i ↦ λ h. l.below i (omega arith) ];
      }

  -- found by a search by places
  pub place-least : (xs : List A) (q : ℕ → Bool) (n : ℕ) → length xs ≡ n
      → ((i : ℕ) → i < n → p (get_or xs i e) ≡ q i) → place p xs ≡ least_from q n 0
  place-least xs q n s h =
      let l = place_is xs in
      lowest-one q n (place p xs) (least_from q n 0) (record {
        high = omega (arith, l.high);
        passes = λ g. (rw (h (place p xs) g) at (l.passes (omega arith)));
        below = λ i g. (rw (h i (omega (arith, l.high))) at (l.below i g));
      }) (lowest-is q n)

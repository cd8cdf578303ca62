-- There is no more than one first order.
use Rattle.std.specs.Prelude.{◌≡◌, Bool, List, ℕ, zero, suc, ◌≤◌, ◌<◌, length, get_or}
use Rattle.std.proofs.Common.{sym, ◌∙◌, arith, le_antisymm, ext_get_or}
use Rattle.std.proofs.Math.Decide.{ℕ_discrete}
use Rattle.orders.specs.First.{NoLater, First}
use Rattle.orders.specs.Apart.{keeps-length}

module _ (l m : List ℕ) (b : NoLater l m) (b' : NoLater m l) (e : length l ≡ length m) where
  agree : (i : ℕ) → i ≤ length l → (j : ℕ) → j < i → get_or l j 0 ≡ get_or m j 0
  agree zero h j hj = absurd (omega arith)
  agree (suc i) h j hj = go (agree i (omega arith))
    where
      go : ((k : ℕ) → k < i → get_or l k 0 ≡ get_or m k 0) → get_or l j 0 ≡ get_or m j 0
      go same = elim (ℕ_discrete j i) [
        | no ne ↦ same j (omega arith)
        | yes z ↦
            rw z (le_antisymm (b i (omega arith) same)
            (b' i (omega arith) (λ k hk. sym (same k hk))))
      ]

  -- two lists of one length, neither of which comes after the other, are one
  before-both : l ≡ m
  before-both = ext_get_or 0 l m e (λ i h. agree (length l) (omega arith) i h)

pub first_unique : (N : ℕ) (pred : ℕ → ℕ → Bool) (l m : List ℕ) → First N pred l → First N pred m
    → l ≡ m
first_unique N pred l m f g =
    before-both l m (f.least m g.keeps) (g.least l f.keeps)
    (keeps-length N pred l f.keeps ∙ sym (keeps-length N pred m g.keeps))

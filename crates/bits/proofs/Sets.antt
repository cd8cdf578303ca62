-- Two sets with the same words are the same, and a set has one lowest member or none.
use Rattle.std.specs.Prelude.{◌≡◌, refl, ℕ, ◌<◌, Option, None, Some, MatchOption}
use Rattle.std.proofs.Common.{sym, ap, ◌∙◌, arith}
use mathlib.Core.HLevel.{is_prop→PathP}
use Rattle.std.proofs.Props.{props}
use Rattle.bits.specs.declared.Bits.{Bits}
use Rattle.bits.specs.Bits.{Words}

pub one_set : (x y : Bits) → x.words ≡ y.words → x ≡ y
one_set x y e = λ i. record {
  words = e i;
  whole = is_prop→PathP (λ j. Words (e j)) (λ j. Prim.hlevel props) x.whole y.whole i;
}

-- where n stands for none
pub one_lowest : (n r : ℕ) (x y : Option ℕ) → MatchOption x (r ≡ n) (λ c. (c < n) × (r ≡ c))
    → MatchOption y (r ≡ n) (λ c. (c < n) × (r ≡ c)) → x ≡ y
one_lowest n r None None p q = refl
one_lowest n r None (Some b) p (h, q) = absurd (omega arith)
one_lowest n r (Some a) None (h, p) q = absurd (omega arith)
one_lowest n r (Some a) (Some b) (h, p) (g, q) = ap Some (sym p ∙ q)

-- The numbers by which the lines below the first are refused.
use Rattle.std.specs.Prelude.{ℕ, zero, suc, ◌≤◌, ◌≡◌, Bool, List, [], ◌∷◌, get_or}
use Rattle.std.proofs.Math.Path.{refl}
use Rattle.std.proofs.Math.Bool.{true, false}
use native.Mathlib.Omega.{arith}
use Rattle.grammar.specs.Opening.{Row}
use Rattle.grammar.specs.Draft.{Draft}
use Rattle.grammar.specs.Lines.{Outcome, refuse, refused, taken, unit_line}
use Rattle.grammar.specs.Lines.{out_line, in_line, feed_line, join_line, line}
use Rattle.reading.specs.Keyword.{by-keyword}
use Rattle.reading.specs.WhichLine.{refusals}

-- 24 to 30 or 32, where it is refused
abbrev pub LineNumber : ℕ → Type 0
LineNumber n = (n ≡ 0 → ⊥) → (24 ≤ n) × (n ≤ 32) × (n ≡ 31 → ⊥)

module _ (d : Draft) (k : ℕ) (f : Row) where
  or_number : (b : Bool) (n : ℕ) (o : Outcome) → LineNumber n → (b ≡ false → LineNumber o.number)
      → LineNumber (refuse b n d o).number
  unfolding refuse refused
  or_number true n o p h = p
  or_number false n o p h = h refl

  unit-number : LineNumber (unit_line d f).number
  unfolding unit_line taken
  unit-number =
      or_number _ 24 _ (omega arith) λ e.
      or_number _ 25 _ (omega arith) λ e.
      or_number _ 26 _ (omega arith) λ e.
      or_number _ 29 _ (omega arith) λ e.
      omega arith

  output-number : LineNumber (out_line d f).number
  unfolding out_line taken
  output-number =
      or_number _ 24 _ (omega arith) λ e.
      or_number _ 25 _ (omega arith) λ e.
      or_number _ 27 _ (omega arith) λ e.
      or_number _ 26 _ (omega arith) λ e.
      or_number _ 29 _ (omega arith) λ e.
      omega arith

  input-number : LineNumber (in_line d k f).number
  unfolding in_line taken
  input-number =
      or_number _ 24 _ (omega arith) λ e.
      or_number _ 25 _ (omega arith) λ e.
      or_number _ 28 _ (omega arith) λ e.
      or_number _ 27 _ (omega arith) λ e.
      or_number _ 26 _ (omega arith) λ e.
      or_number _ 29 _ (omega arith) λ e.
      omega arith

  feed-number : LineNumber (feed_line d f).number
  unfolding feed_line taken
  feed-number =
      or_number _ 24 _ (omega arith) λ e.
      or_number _ 25 _ (omega arith) λ e.
      or_number _ 27 _ (omega arith) λ e.
      or_number _ 27 _ (omega arith) λ e.
      or_number _ 27 _ (omega arith) λ e.
      or_number _ 32 _ (omega arith) λ e.
      or_number _ 29 _ (omega arith) λ e.
      omega arith

  join-number : LineNumber (join_line d f).number
  unfolding join_line taken
  join-number =
      or_number _ 24 _ (omega arith) λ e.
      or_number _ 25 _ (omega arith) λ e.
      or_number _ 27 _ (omega arith) λ e.
      or_number _ 27 _ (omega arith) λ e.
      or_number _ 27 _ (omega arith) λ e.
      or_number _ 27 _ (omega arith) λ e.
      or_number _ 30 _ (omega arith) λ e.
      omega arith

  pub line-number : LineNumber (line d k f).number
  unfolding refused
  line-number = by-keyword (λ o. LineNumber o.number) d k f
      (λ w. unit-number) (λ w. output-number) (λ w. input-number) (λ w. feed-number)
      (λ w. join-number)
      (omega arith)

pub refusals-numbers : (d : Draft) (k : ℕ) (fs : List Row) (i : ℕ)
    → LineNumber (get_or (refusals d k fs) i 0)
unfolding refusals
refusals-numbers d k [] i = omega arith
refusals-numbers d k (f ∷ fs) zero = line-number d k f
refusals-numbers d k (f ∷ fs) (suc i) = refusals-numbers (line d k f).draft (suc k) fs i

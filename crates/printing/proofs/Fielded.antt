-- A printed line as its fields one after the other.
use Prim.Native.Nat.{ℕ, ◌+◌, ◌≤◌}
use mathlib.Core.Path.{◌≡◌}
use mathlib.Core.List.{List, [], ◌∷◌, ◌++◌, append_assoc}
use native.Mathlib.Omega.{arith}
use lib.ListN.{length, length-append}
use Rattle.grammar.specs.Words.{tab, lf}
use Rattle.pen.specs.Put.{Put}
use Rattle.pen.specs.Chain.{Wrote, put-fits, wrote-put, wrote_then, wrote-long}
use Rattle.printing.specs.Printed.{printed}
use Rattle.printing.specs.Lengths.{entry-long}

-- some bytes put, and the byte that ends them
pub ended :
    {out : List ℕ} {at : ℕ} {s o o' : List ℕ} {k r : ℕ} (e : ℕ) → at + (length s + 1) ≤ length out →
    Put out at s o k → Put o k (e ∷ []) o' r → Wrote out at (s ++ (e ∷ [])) o' r
ended {out} {at} {s} e h p q =
    wrote-put (put-fits p (omega arith)) q (omega (arith, length-append s (e ∷ [])))

pub ended-long : (s : List ℕ) (e : ℕ) → length (s ++ (e ∷ [])) ≡ length s + 1
ended-long s e = length-append s (e ∷ [])

module _ (d w u p : List ℕ) where
  pub entry-fields :
      ((d ++ (tab ∷ [])) ++ (w ++ (tab ∷ []))) ++ (u ++ (tab ∷ [])) ++ (p ++ (lf ∷ []))
      ≡ printed (d ∷ w ∷ u ∷ p ∷ [])
  unfolding printed
  entry-fields = simp append_assoc

-- the four fields of a call's line, put one after the other into a buffer with room for the line
module _ (out : List ℕ) (at : ℕ) (d w u p : List ℕ)
    (h : at + length (printed (d ∷ w ∷ u ∷ p ∷ [])) ≤ length out) where
  all : at + (length d + length w + length u + length p + 4) ≤ length out
  all = rw (← entry-long d w u p) h

  pub room_1 : at + (length d + 1) ≤ length out
  room_1 = omega (arith, all)

  module _ {o₁ : List ℕ} {k₁ : ℕ} (w₁ : Wrote out at (d ++ (tab ∷ [])) o₁ k₁) where
    pub room_2 : k₁ + (length w + 1) ≤ length o₁
    room_2 = omega (arith, all, w₁.place, wrote-long w₁, ended-long d tab)

    module _ {o₂ : List ℕ} {k₂ : ℕ} (w₂ : Wrote o₁ k₁ (w ++ (tab ∷ [])) o₂ k₂) where
      pub room_3 : k₂ + (length u + 1) ≤ length o₂
      room_3 =
          omega (
            arith,
            all,
            w₁.place,
            w₂.place,
            wrote-long w₁,
            wrote-long w₂,
            ended-long d tab,
            ended-long w tab,
          )

      module _ {o₃ : List ℕ} {k₃ : ℕ} (w₃ : Wrote o₂ k₂ (u ++ (tab ∷ [])) o₃ k₃) where
        pub room_4 : k₃ + (length p + 1) ≤ length o₃
        room_4 =
            omega (
              arith,
              all,
              w₁.place,
              w₂.place,
              w₃.place,
              wrote-long w₁,
              wrote-long w₂,
              wrote-long w₃,
              ended-long d tab,
              ended-long w tab,
              ended-long u tab,
            )

        pub four-fields :
            {o₄ : List ℕ} {k₄ : ℕ} → Wrote o₃ k₃ (p ++ (lf ∷ [])) o₄ k₄ →
            Wrote out at (printed (d ∷ w ∷ u ∷ p ∷ [])) o₄ k₄
        four-fields w₄ =
            rw (entry-fields d w u p) at (wrote_then (wrote_then (wrote_then w₁ w₂) w₃) w₄)

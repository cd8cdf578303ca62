-- After any front of a passed order the units and ports of its calls have moved, and no others.
use Rattle.std.specs.Prelude.{◌≡◌, ◌≢◌, length, get_or, take}
use Rattle.std.proofs.Math.Path.{refl, ap, subst}
use Rattle.std.proofs.Common.{sym, ◌∙◌, arith, get_or-take}
use mathlib.Core.List.{List, [], ◌∷◌}
use Prim.Native.Nat.{ℕ, zero, suc, ◌≤◌, ◌<◌}
use Rattle.std.proofs.Math.Seq.{length-take-le}
use Rattle.table.specs.Shape.{Shape, total}
use Rattle.table.specs.Packed.{shape_of}
use Rattle.calls.specs.Number.{call_of}
use Rattle.twin.specs.Rules.{Rules}
use Rattle.twin.specs.Run.{World, run}
use Rattle.twin.proofs.Midway.{next, next-self, next-other}
use Rattle.twin.specs.Demand.{Passed}
use Rattle.twin.proofs.Demand.{moved-once}

module _ {State Value : Type 0} (s : Shape) (m : Rules State Value) where
  -- what has no place in a list of calls is as it was after them
  pub run-other : (l : List ℕ) (w : World State Value) (a : ℕ)
      → ((i : ℕ) → i < length l → get_or l i 0 ≢ a)
      → run s m w l (call_of s a) ≡ w (call_of s a)
  unfolding run
  run-other [] w a apart = refl
  run-other (c ∷ l) w a apart =
      run-other l (next s m w c) a (λ i h. apart (suc i) (omega arith))
      ∙ next-other s m w c a (λ e. apart 0 (omega arith) (sym e))

  -- what has one place in a list moves there, and only there
  pub run-front : (l : List ℕ) (w : World State Value) (a i k : ℕ)
      → a < total s → i < length l → get_or l i 0 ≡ a
      → ((j : ℕ) → j < length l → get_or l j 0 ≡ a → j ≡ i)
      → k ≤ length l
      → (k ≤ i → run s m w (take k l) (call_of s a) ≡ w (call_of s a))
      × (i < k → (run s m w (take k l) (call_of s a)).time ≡ suc (w (call_of s a)).time)
  unfolding run
  run-front [] w a i k ha hi e one hk = absurd (omega arith)
  run-front (c ∷ l) w a i zero ha hi e one hk = ((λ h. refl), (λ h. absurd (omega arith)))
  run-front (c ∷ l) w a zero (suc k) ha hi e one hk = (
    (λ h. absurd (omega arith)),
    (λ h. ap (λ held. held.time) rest
        ∙ subst (λ b. (next s m w c (call_of s b)).time ≡ suc (w (call_of s b)).time) e
        (ap (λ held. held.time) (next-self s m w c (omega arith)))),
  )
    where
      rest : run s m (next s m w c) (take k l) (call_of s a) ≡ next s m w c (call_of s a)
      rest =
          run-other (take k l) (next s m w c) a
          (λ j h q. let z = length-take-le k l (omega arith) in
          let p =
          one (suc j) (omega arith) (sym (get_or-take k l j 0 (omega arith)) ∙ q) in omega arith)
  run-front (c ∷ l) w a (suc i) (suc k) ha hi e one hk =
      let rest =
      run-front l (next s m w c) a i k ha (omega arith) e
      (λ j h q. let p = one (suc j) (omega arith) q in omega arith) (omega arith) in (
        (λ h. rest.0 (omega arith) ∙ still),
        (λ h. rest.1 (omega arith) ∙ ap (λ held. suc held.time) still),
      )
    where
      still : next s m w c (call_of s a) ≡ w (call_of s a)
      still = next-other s m w c a (λ q. let p = one 0 (omega arith) (sym q) in omega arith)

-- after k calls of a passed order what has its call there is one step later, all else as it was
pub front-moved : {State Value : Type 0} (t : List ℕ) (m : Rules State Value) (order : List ℕ)
    → Passed t order
    → (w : World State Value) (k : ℕ) → k ≤ length order → (a : ℕ) → a < total (shape_of t)
    → (i : ℕ) × (i < length order) × (get_or order i 0 ≡ a)
    × (k ≤ i → run (shape_of t) m w (take k order) (call_of (shape_of t) a)
    ≡ w (call_of (shape_of t) a))
    × (i < k
    → (run (shape_of t) m w (take k order) (call_of (shape_of t) a)).time
    ≡ suc (w (call_of (shape_of t) a)).time)
front-moved t m order p w k hk a h =
    let (i, hi, e, one) = moved-once t m order p a h in
    let (stays, moves) = run-front (shape_of t) m order w a i k h hi e one hk in
    (i, hi, e, stays, moves)

-- From a call that the code has told apart back to its number.
use mathlib.Core.Path.{◌≡◌, ap, ◌∙◌}
use Prim.Native.Nat.{ℕ, ◌<◌}
use native.Mathlib.Omega.{arith}
use Rattle.table.specs.Shape.{Shape, total}
use Rattle.calls.specs.declared.Call.TheVariants.{Step, Get, Set, NoCall}
use Rattle.calls.specs.Number.{call_of, get_no, set_no}
use Rattle.calls.specs.Numbers.{is-step, is_get, is_set, View, at-step, at_get, at_set, view}

module _ (s : Shape) (c : ℕ) (h : c < total s) where
  pub told-step : (u : ℕ) → call_of s c ≡ Step u → (u < s.units) × (u ≡ c)
  told-step u e = go (view s c h)
    where
      go : View s c → (u < s.units) × (u ≡ c)
      go (at-step v l p) =
          let q = ap (call_of s) p ∙ is-step s v l in
          let r : u ≡ v = cc in
          (omega arith, omega arith)
      go (at_get y l p) =
          absurd (let q = ap (call_of s) p ∙ is_get s y l in let z : ◌≡◌ {A = ℕ} 0 1 = cc in
          omega arith)
      go (at_set x l p) =
          absurd (let q = ap (call_of s) p ∙ is_set s x l in let z : ◌≡◌ {A = ℕ} 0 1 = cc in
          omega arith)

  pub told_get : (y : ℕ) → call_of s c ≡ Get y → (y < s.outputs) × (get_no s y ≡ c)
  told_get y e = go (view s c h)
    where
      go : View s c → (y < s.outputs) × (get_no s y ≡ c)
      go (at_get v l p) =
          let q = ap (call_of s) p ∙ is_get s v l in
          let r : y ≡ v = cc in
          (omega arith, omega arith)
      go (at-step u l p) =
          absurd (let q = ap (call_of s) p ∙ is-step s u l in let z : ◌≡◌ {A = ℕ} 0 1 = cc in
          omega arith)
      go (at_set x l p) =
          absurd (let q = ap (call_of s) p ∙ is_set s x l in let z : ◌≡◌ {A = ℕ} 0 1 = cc in
          omega arith)

  pub told-set : (x : ℕ) → call_of s c ≡ Set x → (x < s.inputs) × (set_no s x ≡ c)
  told-set x e = go (view s c h)
    where
      go : View s c → (x < s.inputs) × (set_no s x ≡ c)
      go (at_set v l p) =
          let q = ap (call_of s) p ∙ is_set s v l in
          let r : x ≡ v = cc in
          (omega arith, omega arith)
      go (at-step u l p) =
          absurd (let q = ap (call_of s) p ∙ is-step s u l in let z : ◌≡◌ {A = ℕ} 0 1 = cc in
          omega arith)
      go (at_get y l p) =
          absurd (let q = ap (call_of s) p ∙ is_get s y l in let z : ◌≡◌ {A = ℕ} 0 1 = cc in
          omega arith)

  pub told_none : call_of s c ≡ NoCall → ⊥
  told_none e = go (view s c h)
    where
      go : View s c → ⊥
      go (at-step u l p) =
          let q = ap (call_of s) p ∙ is-step s u l in let z : ◌≡◌ {A = ℕ} 0 1 = cc in omega arith
      go (at_get y l p) =
          let q = ap (call_of s) p ∙ is_get s y l in let z : ◌≡◌ {A = ℕ} 0 1 = cc in omega arith
      go (at_set x l p) =
          let q = ap (call_of s) p ∙ is_set s x l in let z : ◌≡◌ {A = ℕ} 0 1 = cc in omega arith

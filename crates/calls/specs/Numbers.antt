-- Laws of call numbers: what each range reads as, and which range a number stands in.
use Rattle.std.specs.Prelude.{ℕ, ◌+◌, ◌-◌, ◌≤◌, ◌<◌, ◌≡◌, refl}
use Rattle.std.proofs.Common.{ap, ◌∙◌, arith}
use Rattle.std.proofs.Math.Decide.{dec_lt}
use Rattle.search.specs.Truth.{lt_true, lt_false}
use Rattle.table.specs.Shape.{Shape, total}
use Rattle.calls.specs.declared.Call.TheVariants.{Step, Get, Set, NoCall}
use Rattle.calls.specs.Number.{call_in, call_of, get_no, set_no}

-- ---- what a number is, by what is left of it past each range

module _ (u y x c : ℕ) where
  pub call_step : c < u → call_in u y x c ≡ Step c
  unfolding call_in
  call_step h = rw (lt_true c u h)

  pub call_get : u ≤ c → c - u < y → call_in u y x c ≡ Get (c - u)
  unfolding call_in
  call_get h g = rw (lt_false c u h, lt_true (c - u) y g)

  pub call-set : u ≤ c → y ≤ c - u → c - u - y < x → call_in u y x c ≡ Set (c - u - y)
  unfolding call_in
  call-set h g f = rw (lt_false c u h, lt_false (c - u) y g, lt_true (c - u - y) x f)

  pub call_none : u ≤ c → y ≤ c - u → x ≤ c - u - y → call_in u y x c ≡ NoCall
  unfolding call_in
  call_none h g f = rw (lt_false c u h, lt_false (c - u) y g, lt_false (c - u - y) x f)

module _ (s : Shape) where
  pub is-step : (u : ℕ) → u < s.units → call_of s u ≡ Step u
  is-step u h = call_step s.units s.outputs s.inputs u h

  pub is_get : (y : ℕ) → y < s.outputs → call_of s (get_no s y) ≡ Get y
  is_get y h =
      let e : s.units + y - s.units ≡ y = omega arith in
      call_get s.units s.outputs s.inputs (get_no s y) (omega arith) (omega arith)
      ∙ ap Get e

  pub is_set : (x : ℕ) → x < s.inputs → call_of s (set_no s x) ≡ Set x
  is_set x h =
      let e : s.units + s.outputs + x - s.units - s.outputs ≡ x = omega arith in
      call-set s.units s.outputs s.inputs (set_no s x) (omega arith) (omega arith)
      (omega arith)
      ∙ ap Set e

  -- all numbers at and above N are no call
  pub is_none : (c : ℕ) → total s ≤ c → call_of s c ≡ NoCall
  is_none c h =
      call_none s.units s.outputs s.inputs c (omega arith) (omega arith) (omega arith)

  -- which range a number below N stands in
  pub data View (c : ℕ) : Type 0 where
    at-step : (u : ℕ) → u < s.units → c ≡ u → View c
    at_get : (y : ℕ) → y < s.outputs → c ≡ get_no s y → View c
    at_set : (x : ℕ) → x < s.inputs → c ≡ set_no s x → View c

  pub view : (c : ℕ) → c < total s → View c
  view c h = elim (dec_lt c s.units) [
    | yes p ↦ at-step c p refl
    | no p ↦ elim (dec_lt c (s.units + s.outputs)) [
      | yes q ↦ at_get (c - s.units) (omega arith) (omega arith)
      | no q ↦ at_set (c - (s.units + s.outputs)) (omega arith) (omega arith)
    ]
  ]

-- A search through the names finds what the draft's names say.
use Prim.Native.Nat.{ℕ, ◌+◌, ◌≤◌, ◌<◌}
use mathlib.Core.Path.{◌≡◌, sym, ap}
use mathlib.Core.Bool.{Bool, true, false, ◌&&◌}
use mathlib.Core.List.{List, []}
use native.Mathlib.Omega.{arith}
use native.Mathlib.Nat.{zero-add}
use lib.ListN.{get_or}
use lib.Dec.{eqb}
use Rattle.search.specs.Least.{least_from}
use Rattle.grammar.specs.Words.{same}
use Rattle.grammar.specs.Places.{place-least}
use Rattle.grammar.specs.Draft.{no_input, unit_named, output_named, input_named}
use Rattle.notes.specs.Layout.{outputs_base, inputs_base, owners_base, output_owners, input_owners}
use Rattle.notes.specs.Ranks.{name_at, Spotted}
use Rattle.notes.specs.Listed.{listed, listed-length, listed_at}
use Rattle.notes.specs.declared.Counts.{Counts}
use Rattle.notes.specs.Notes.{output_at, input_at, draft_of, Fit, is_named, named}
use Rattle.notes.proofs.Ranks.{taken-low, free-least}

module _ (t p s : List ℕ) (c : Counts) (f : Fit t p s c) where
  pub unit-found : (w : List ℕ)
      → least_from (named t p s 0 0 w) c.units 0 ≡ unit_named (draft_of t p s c) w
  unfolding unit_named draft_of is_named
  unit-found w =
      sym (place-least (λ n. same n w) [] (listed (name_at t p) c.units) (named t p s 0 0 w)
      c.units
      (listed-length (name_at t p) c.units)
      (λ i h. rw (listed_at (name_at t p) c.units i [] h, zero-add i, f.units-free i h)))

  pub output-found : (u : ℕ) (w : List ℕ)
      → least_from (named t p s outputs_base u w) c.outputs 0 ≡ output_named (draft_of t p s c) u w
  unfolding output_named draft_of is_named output_at
  output-found u w =
      sym (place-least (λ o. eqb o.owner u && same o.name w) (record { owner = 0; name = [] })
      (listed (output_at t p s) c.outputs) (named t p s outputs_base u w) c.outputs
      (listed-length (output_at t p s) c.outputs)
      (λ i h. rw (listed_at (output_at t p s) c.outputs i (record { owner = 0; name = [] }) h)
      (ap (λ k. eqb (get_or s k 0) u && same (name_at t p (outputs_base + i)) w)
      (sums owners_base outputs_base i output_owners (omega arith)))))
    where
      sums : (a b x n : ℕ) → n ≡ a + b → n + x ≡ a + (b + x)
      sums a b x n e = omega arith

  pub input-found : (u : ℕ) (w : List ℕ)
      → least_from (named t p s inputs_base u w) c.inputs 0 ≡ input_named (draft_of t p s c) u w
  unfolding input_named draft_of is_named input_at
  input-found u w =
      sym (place-least (λ o. eqb o.owner u && same o.name w) no_input
      (listed (input_at t p s) c.inputs) (named t p s inputs_base u w) c.inputs
      (listed-length (input_at t p s) c.inputs)
      (λ i h. rw (listed_at (input_at t p s) c.inputs i no_input h)
      (ap (λ k. eqb (get_or s k 0) u && same (name_at t p (inputs_base + i)) w)
      (sums owners_base inputs_base i input_owners (omega arith)))))
    where
      sums : (a b x n : ℕ) → n ≡ a + b → n + x ≡ a + (b + x)
      sums a b x n e = omega arith

-- ---- a spot that is taken, or free, as the draft has it

module _ (t p s : List ℕ) (c : Counts) (f : Fit t p s c) (w : List ℕ) (i : ℕ) (h : Bool)
    (o : Spotted t p s 0 c.units 0 w i h) where
  pub unit-there : h ≡ true → unit_named (draft_of t p s c) w < c.units
  unit-there y =
      omega (
        arith,
        unit-found t p s c f w,
        taken-low t p s 0 c.units f.units-ranked 0 w i h o y,
      )

  pub unit-new : h ≡ false → c.units ≤ unit_named (draft_of t p s c) w
  unit-new y =
      omega (
        arith,
        unit-found t p s c f w,
        free-least t p s 0 c.units f.units-ranked 0 w i h o y,
      )

module _ (t p s : List ℕ) (c : Counts) (f : Fit t p s c) (u : ℕ) (w : List ℕ) (i : ℕ)
    (h : Bool) where
  module _ (o : Spotted t p s outputs_base c.outputs u w i h) where
    pub output-there : h ≡ true → output_named (draft_of t p s c) u w < c.outputs
    output-there y =
        omega (
          arith,
          output-found t p s c f u w,
          taken-low t p s outputs_base c.outputs f.outputs-ranked u w i h o y,
        )

    pub output-new : h ≡ false → c.outputs ≤ output_named (draft_of t p s c) u w
    output-new y =
        omega (
          arith,
          output-found t p s c f u w,
          free-least t p s outputs_base c.outputs f.outputs-ranked u w i h o y,
        )

  module _ (o : Spotted t p s inputs_base c.inputs u w i h) where
    pub input-there : h ≡ true → input_named (draft_of t p s c) u w < c.inputs
    input-there y =
        omega (
          arith,
          input-found t p s c f u w,
          taken-low t p s inputs_base c.inputs f.inputs-ranked u w i h o y,
        )

    pub input-new : h ≡ false → c.inputs ≤ input_named (draft_of t p s c) u w
    input-new y =
        omega (
          arith,
          input-found t p s c f u w,
          free-least t p s inputs_base c.inputs f.inputs-ranked u w i h o y,
        )

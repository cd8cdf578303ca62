-- The equations of a table, from old values to new ones: SPECIFICATION, Equations 3.
-- Joined ports equal at the start is `Joined` of the start: no equation, and no proof needs it.
use Rattle.std.specs.Prelude.{◌≡◌, cond, ℕ, ◌<◌, eqb}
use Rattle.table.specs.Shape.{Shape, total}
use Rattle.calls.specs.declared.Call.TheVariants.{Step, Get, Set}
use Rattle.calls.specs.Number.{call_of}
use Rattle.twin.specs.Rules.{of_unit, feeding, Rules}
use Rattle.twin.specs.Run.{Values, World}

module _ {State Value : Type 0} (s : Shape) (m : Rules State Value) where
  pub record Solves (old new : Values State Value) : Type 0 where
    -- a state comes from the old one and the unit's inputs, delayed ones old and reactive ones new
    pub states : (u : ℕ) → u < s.units
        → new (Step u)
        ≡ m.step_rule u (old (Step u)) (of_unit s u (λ x. cond (eqb (s.kind x) 0) (old (Set x)) (new (Set x))))
    -- an output comes from its unit's state and its feeding inputs, all of them new
    pub outputs : (y : ℕ) → y < s.outputs
        → new (Get y) ≡ m.output_rule y (new (Step (s.output_owner y))) (feeding s y (λ x. new (Set x)))
    -- an input has its source's new value
    pub inputs : (x : ℕ) → x < s.inputs → new (Set x) ≡ new (Get (s.source x))

module _ {State Value : Type 0} (s : Shape) where
  -- every unit and port is at this time
  abbrev pub AtTime : ℕ → World State Value → Type 0
  AtTime n w = (a : ℕ) → a < total s → (w (call_of s a)).time ≡ n

  -- joined ports are equal: each input holds what its source holds
  abbrev pub Joined : World State Value → Type 0
  Joined w = (x : ℕ) → x < s.inputs → w (Set x) ≡ w (Get (s.source x))

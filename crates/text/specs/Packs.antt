-- The packed bytes as parts of the slots, one behind the other.
use Rattle.std.specs.Prelude.{ℕ, ◌+◌, ◌-◌, ◌*◌, ◌≤◌, ◌≡◌, List, [], ◌∷◌, ◌++◌, length, take, drop}
use Rattle.notes.specs.Layout.{output_owners, input_owners, kinds_base}
use Rattle.notes.specs.Layout.{sources_base, feeds_base, slots_size}
use Rattle.notes.specs.declared.Counts.{Counts}

-- the slots are all there and the counts are in their limits
pub record Slotted (s : List ℕ) (c : Counts) : Type 0 where
  pub long : length s ≡ slots_size
  pub units-most : c.units ≤ 32
  pub outputs-most : c.outputs ≤ 96
  pub inputs-most : c.inputs ≤ 96
  pub feeds-most : c.feeds ≤ 128

-- the n slots from slot b on
abbrev pub slots_from : List ℕ → ℕ → ℕ → List ℕ
slots_from s b n = take ((b + n) - b) (drop b s)

unfoldable pub bytes_of : List ℕ → Counts → List ℕ
bytes_of s c =
    (((((((((c.units ∷ []) ++ (c.outputs ∷ [])) ++ (c.inputs ∷ [])) ++ (c.feeds ∷ []))
    ++ slots_from s output_owners c.outputs) ++ slots_from s input_owners c.inputs)
    ++ slots_from s kinds_base c.inputs)
    ++ slots_from s sources_base c.inputs) ++ slots_from s feeds_base (2 * c.feeds))

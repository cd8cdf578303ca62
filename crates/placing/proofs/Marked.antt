-- What is noted of a table, from the rows noted one after the other.
use mathlib.Core.Path.{◌≡◌, subst, ◌∙◌}
use mathlib.Core.List.{List}
use Prim.Native.Nat.{ℕ, ◌+◌, ◌/◌}
use native.Mathlib.Nat.{zero-add}
use lib.ListN.{length}
use Rattle.table.specs.Packed.{outputs, inputs, feeds}
use Rattle.table.specs.Packed.{output_owners, input_owners, sources, pairs, pair_input}
use Rattle.placing.specs.Less.{called}
use Rattle.placing.specs.Blocks.{Block, Noting, Owned, Joined}

-- noted from bit 0 on
from_zero : (n b : ℕ) → Block n (0 + b) → Block n b
from_zero n b h = subst (λ d. Block n d) (zero-add b) h

module _ (t old middle new : List ℕ) where
  pub owned : length old ≡ 32
      → Noting (called (output_owners t)) 24 0 (outputs t) old middle
      → Noting (called (input_owners t)) 24 4 (inputs t) middle new → Owned t new
  owned l g h = record {
    long = h.long ∙ g.long ∙ l;
    gets = λ y k. h.kept (called (output_owners t) y) (y / 24) (from_zero _ _ (g.noted y k));
    sets = h.noted;
  }

  pub joined : length old ≡ 96
      → Noting (pair_input (pairs t)) 32 0 (feeds t) old middle
      → Noting (called (sources t)) 24 4 (inputs t) middle new → Joined t new
  joined l g h = record {
    long = h.long ∙ g.long ∙ l;
    gets = λ k m. h.kept (pair_input (pairs t) k) (k / 32) (from_zero _ _ (g.noted k m));
    sets = h.noted;
  }

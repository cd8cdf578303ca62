-- Waiting counts that fall; a call that then waits for none is put among the ready ones.
use Rattle.std.specs.Prelude.{◌≡◌, not, ◌&&◌, ◌||◌, List, ℕ, eqb, get_or}
use Rattle.search.specs.Count.{bit}
use Rattle.bits.specs.Bits.{has, Words}
use Rattle.placing.specs.Less.{Less}

-- one at the call, nothing elsewhere
abbrev pub once : ℕ → ℕ → ℕ
once call c = bit (eqb call c)

-- each count falls by its amount; ready are those that were, and those whose count fell to 0
pub record Lowered (amount : ℕ → ℕ) (high low before after : List ℕ) : Type 0 where
  pub falls : Less amount high low
  pub words : Words after
  pub freed : (c : ℕ)
      → has after c ≡ (has before c || (eqb (get_or low c 0) 0 && not (eqb (get_or high c 0) 0)))

-- Waiting counts: for each call not placed, how many of its direct predecessors are not placed.
use Rattle.std.specs.Prelude.{◌≡◌, Bool, not, ◌&&◌, cond, List, ℕ, T, eqb, ltb, length, get_or}
use Rattle.bits.specs.Bits.{has, Words}
use Rattle.table.specs.Shape.{Shape, total}
use Rattle.calls.specs.Given.{into}

-- 255 where the call is placed, else how many of its direct predecessors are not
unfoldable pub waits : Shape → (ℕ → Bool) → ℕ → ℕ
waits s done c = cond (done c) 255 (into s (λ a. not (done a)) c)

-- the counts of the calls that are not placed, and the ready ones of the N
pub record Waiting (s : Shape) (done : ℕ → Bool) (counts ready : List ℕ) : Type 0 where
  pub long : length counts ≡ 224
  pub left : (c : ℕ) → T (not (done c)) → get_or counts c 0 ≡ into s (λ a. not (done a)) c
  pub words : Words ready
  pub bits : (c : ℕ) → has ready c ≡ (ltb c (total s) && eqb (waits s done c) 0)

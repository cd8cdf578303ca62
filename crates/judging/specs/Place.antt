-- What an answer tells of an order.
use Rattle.std.specs.Prelude.{◌≡◌, Bool, List, ℕ, ◌+◌, ◌≤◌, ◌<◌, length, get_or, take}
use Rattle.table.specs.declared.Answer.{Answer}
use Rattle.table.specs.Shape.{Shape, total}
use Rattle.judging.specs.Conditions.{refusal_at}
use Rattle.judging.specs.Passes.{after, Meets}
use Rattle.judging.specs.Verdict.{answer}
use Rattle.judging.specs.Judged.{MeetsAll}

module _ (s : Shape) where
  -- what an answer tells of an order: a pass, the first call whose conditions fail, or an early end
  pub data Tells (done : ℕ → Bool) (l : List ℕ) (k : ℕ) (a : Answer) : Type 0 where
    -- each call meets its conditions and N calls were taken
    passed : MeetsAll s done l (length l) → k + length l ≡ total s → a ≡ answer 0 (k + length l)
        → Tells done l k a
    -- each call meets its conditions and fewer than N calls were taken
    ended : MeetsAll s done l (length l) → k + length l < total s → a ≡ answer 18 (k + length l)
        → Tells done l k a
    -- all before place i meet their conditions, that at i does not: its number; N taken at most
    refused : (i : ℕ) → i < length l → k + i ≤ total s → MeetsAll s done l i
        → (Meets s (after done (take i l)) (get_or l i 0) → ⊥)
        → a ≡ answer (refusal_at s (after done (take i l)) (get_or l i 0)) (k + i) → Tells done l k a

-- What a judged run answers 0 is a call.
use Rattle.std.proofs.Common.{◌≡◌, refl, cond, List, ℕ, ◌<◌, eqb, eq-eqb, ne_eqb}
use Rattle.std.proofs.Math.Decide.{ℕ_discrete}
use Rattle.table.specs.Packed.{shape_of}
use Rattle.table.specs.Check.{refusal}
use Rattle.judging.specs.Conditions.{refusal_at}
use Rattle.judging.proofs.Demand.{taken-small}
use Rattle.judge.specs.declared.Run.{Run}
use Rattle.judge.specs.Marks.{marks}

pub taken-below : (t : List ℕ) (run : Run) (c : ℕ)
    → cond (eqb (refusal t) 0) (refusal_at (shape_of t) (marks run.done) c) (refusal t) ≡ 0
    → c < 224
taken-below t run c e = elim (ℕ_discrete (refusal t) 0) [
  | yes z ↦
      (let passed = rw (eq-eqb (refusal t) 0 z) at e in
      taken-small t z (marks run.done) c _ refl passed)
  | no z ↦ (let refused = rw (ne_eqb (refusal t) 0 z) at e in absurd (z refused))
]

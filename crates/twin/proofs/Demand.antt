-- Demand 3: every order whose verdict is a pass ends at the one solution of the table's equations.
-- No proof needs joined ports equal at the start, so it is no premise; they are equal at the end.
use Rattle.std.specs.Prelude.{◌≡◌, List, ℕ, suc, ◌<◌, length, get_or}
use Rattle.std.proofs.Common.{sym, ap, ap₂, ◌∙◌, arith}
use Rattle.table.specs.Shape.{total, Wired}
use Rattle.table.specs.Packed.{shape_of}
use Rattle.table.specs.Check.{refusal}
use Rattle.table.proofs.Checked.{passed-sound}
use Rattle.calls.specs.declared.Call.TheVariants.{Get, Set}
use Rattle.calls.specs.Number.{call_of, get_no, set_no}
use Rattle.calls.specs.Numbers.{is_get, is_set}
use Rattle.calls.specs.Precedence.{precedes}
use Rattle.orders.specs.Sort.{placed}
use Rattle.judging.specs.Verdict.{verdict_of}
use Rattle.judging.proofs.Judged.{passed_iff}
use Rattle.judging.proofs.Demand.{passed-keeps, order-passed}
use Rattle.twin.specs.Rules.{Rules}
use Rattle.twin.specs.Run.{Values, Held, World, run}
use Rattle.twin.specs.Equations.{Solves, AtTime, Joined}
use Rattle.twin.proofs.Solved.{solves, single, later}
use Rattle.twin.specs.Demand.{values, Passed, end, written}

same-held : {A : Type 0} (v v' : Held A) → v.value ≡ v'.value → v.time ≡ v'.time → v ≡ v'
same-held v v' p q = ap₂ (λ x n. record { value = x; time = n }) p q

module _ {State Value : Type 0} (t : List ℕ) (m : Rules State Value) where
  wired : (order : List ℕ) → Passed t order → Wired (shape_of t)
  wired order p = (passed-sound t ((passed_iff t order).0 p).0).wired

  -- every value and state solves the equations
  pub run-solves : (order : List ℕ) → Passed t order → (w : World State Value)
      → Solves (shape_of t) m (values w) (values (end t m w order))
  run-solves order p w = solves (shape_of t) m (wired order p) w order ((passed_iff t order).0 p).1

  -- the solution is single: whatever solves them is the run's end at every unit and port
  pub run-single : (order : List ℕ) → Passed t order
      → (w : World State Value) (new : Values State Value)
      → Solves (shape_of t) m (values w) new → (a : ℕ) → a < total (shape_of t)
      → values (end t m w order) (call_of (shape_of t) a) ≡ new (call_of (shape_of t) a)
  run-single order p w = single (shape_of t) m (wired order p) w order ((passed_iff t order).0 p).1

  -- started with everything at one time, it ends with every unit and port one step later
  pub run-later : (order : List ℕ) → Passed t order → (w : World State Value) (n : ℕ)
      → AtTime (shape_of t) n w
      → AtTime (shape_of t) (suc n) (end t m w order)
  run-later order p w n start a h =
      later (shape_of t) m (wired order p) w order ((passed_iff t order).0 p).1 a h
      ∙ ap suc (start a h)

  -- each unit and port is moved exactly once: its call has one place in the order
  pub moved-once : (order : List ℕ) → Passed t order → (a : ℕ) → a < total (shape_of t)
      → (i : ℕ) × (i < length order) × (get_or order i 0 ≡ a)
      × ((j : ℕ) → j < length order → get_or order j 0 ≡ a → j ≡ i)
  moved-once order p a h =
      let k = ((passed-keeps t order).0 p).1 in
      let (i, hi, e) = k.holds a h in
      (i, hi, e, λ j hj q. k.once j i hj hi (q ∙ sym e))

  -- joined ports are equal at the end, in value and in time
  pub run-joined : (order : List ℕ) → Passed t order → (w : World State Value) (n : ℕ)
      → AtTime (shape_of t) n w
      → Joined (shape_of t) (end t m w order)
  run-joined order p w n start x h =
      let s = shape_of t in
      let y = s.source x in
      let hy = (wired order p).sourced x h in
      let later-x : (end t m w order (Set x)).time ≡ suc n =
      (rw (is_set s x h) at (run-later order p w n start (set_no s x) (omega arith))) in
      let later-y : (end t m w order (Get y)).time ≡ suc n =
      (rw (is_get s y hy) at (run-later order p w n start (get_no s y) (omega arith))) in
      same-held (end t m w order (Set x)) (end t m w order (Get y))
      ((run-solves order p w).inputs x h) (later-x ∙ sym later-y)

  -- two passed orders end alike
  pub runs-alike : (order other : List ℕ) → Passed t order → Passed t other
      → (w : World State Value) (a : ℕ)
      → a < total (shape_of t)
      → end t m w order (call_of (shape_of t) a) ≡ end t m w other (call_of (shape_of t) a)
  runs-alike order other p q w a h =
      same-held (end t m w order (call_of (shape_of t) a))
      (end t m w other (call_of (shape_of t) a))
      (run-single order p w (values (end t m w other)) (run-solves other q w) a h)
      (later (shape_of t) m (wired order p) w order ((passed_iff t order).0 p).1 a h
      ∙ sym (later (shape_of t) m (wired other q) w other ((passed_iff t other).0 q).1 a h))

  -- ---- the order that the order's procedure writes, where it places all

  pub written-passed : refusal t ≡ 0 → length (written t m) ≡ total (shape_of t)
      → Passed t (written t m)
  written-passed z e = ap (λ a. a.number) (order-passed t z e)

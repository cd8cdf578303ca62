-- The call told apart has the number that was placed.
use mathlib.Core.Path.{sym, subst}
use lib.ListN.{get_or}
use Prim.Native.Nat.{ℕ, ◌≤◌}
use Rattle.table.specs.Packed.{shape_of}
use Rattle.calls.specs.Given.{only, into}
use Rattle.placing.proofs.Told.{told-step, told_get, told-set, told_none}
use Rattle.placing.proofs.release.Noted.release.Goals as goal

pub release_step-requires : goal.release_step-requires
release_step-requires c =
    let s = shape_of c.args.self.table.bytes.now in
    let (l, e) = told-step s c.args.call c.requires.call_bound c.in-Step.unit
    (sym c.in-Step.ensures) in
    record {
      unit_bound = l;
      enough = subst
          (λ d. (x : ℕ) → into s (only d) x ≤ get_or c.args.queue.now.waiting x 0) (sym e)
          c.requires.enough;
    }

pub release_get-requires : goal.release_get-requires
release_get-requires c =
    let s = shape_of c.args.self.table.bytes.now in
    let (l, e) = told_get s c.args.call c.requires.call_bound c.in-Get.output (sym c.in-Get.ensures)
    in
    record {
      output_bound = l;
      enough = subst
          (λ d. (x : ℕ) → into s (only d) x ≤ get_or c.args.queue.now.waiting x 0) (sym e)
          c.requires.enough;
    }

pub release_set-requires : goal.release_set-requires
release_set-requires c =
    let s = shape_of c.args.self.table.bytes.now in
    let (l, e) = told-set s c.args.call c.requires.call_bound c.in-Set.input (sym c.in-Set.ensures)
    in
    record {
      input_bound = l;
      enough = subst
          (λ d. (x : ℕ) → into s (only d) x ≤ get_or c.args.queue.now.waiting x 0) (sym e)
          c.requires.enough;
    }

pub returns-in-Step : goal.returns-in-Step
returns-in-Step c =
    let (l, e) = told-step (shape_of c.args.self.table.bytes.now) c.args.call c.requires.call_bound
    c.in-Step.unit (sym c.in-Step.ensures) in
    rw (← e) c.release_step.ensures

pub returns-in-Get : goal.returns-in-Get
returns-in-Get c =
    let (l, e) = told_get (shape_of c.args.self.table.bytes.now) c.args.call c.requires.call_bound
    c.in-Get.output (sym c.in-Get.ensures) in
    rw (← e) c.release_get.ensures

pub returns-in-Set : goal.returns-in-Set
returns-in-Set c =
    let (l, e) = told-set (shape_of c.args.self.table.bytes.now) c.args.call c.requires.call_bound
    c.in-Set.input (sym c.in-Set.ensures) in
    rw (← e) c.release_set.ensures

pub returns-in-NoCall : goal.returns-in-NoCall
returns-in-NoCall c =
    absurd
    (told_none (shape_of c.args.self.table.bytes.now) c.args.call c.requires.call_bound
    (sym c.in-NoCall.ensures))

-- Each arm of the match is a range of call numbers.
use mathlib.Core.Path.{sym, ◌∙◌}
use native.Mathlib.Omega.{arith}
use Rattle.printing.specs.Places.{line_for}
use Rattle.printing.proofs.Declares.{step-arm, get_arm, set-arm, line_of}
use Rattle.printing.proofs.call.line_at.Goals as goal

pub offset_bounds-units-u : goal.offset_bounds-units-u
offset_bounds-units-u c =
    omega (
      arith,
      step-arm c.args.units.now c.args.outputs.now c.args.inputs.now c.args.c _
          (sym c.call_in-call.ensures ∙ c.in-Step.is),
    )

pub bounds-units-u : goal.bounds-units-u
bounds-units-u c =
    step-arm c.args.units.now c.args.outputs.now c.args.inputs.now c.args.c _
    (sym c.call_in-call.ensures ∙ c.in-Step.is)

pub offset_bounds-outputs-y : goal.offset_bounds-outputs-y
offset_bounds-outputs-y c =
    omega (
      arith,
      get_arm c.args.units.now c.args.outputs.now c.args.inputs.now c.args.c _
          (sym c.call_in-call.ensures ∙ c.in-Get.is),
    )

pub bounds-outputs-y : goal.bounds-outputs-y
bounds-outputs-y c =
    get_arm c.args.units.now c.args.outputs.now c.args.inputs.now c.args.c _
    (sym c.call_in-call.ensures ∙ c.in-Get.is)

pub offset_bounds-inputs-x : goal.offset_bounds-inputs-x
offset_bounds-inputs-x c =
    omega (
      arith,
      set-arm c.args.units.now c.args.outputs.now c.args.inputs.now c.args.c _
          (sym c.call_in-call.ensures ∙ c.in-Set.is),
    )

pub bounds-inputs-x : goal.bounds-inputs-x
bounds-inputs-x c =
    set-arm c.args.units.now c.args.outputs.now c.args.inputs.now c.args.c _
    (sym c.call_in-call.ensures ∙ c.in-Set.is)

pub returns-in-Step : goal.returns-in-Step
unfolding line_for
returns-in-Step c =
    line_of c.args.units.now c.args.outputs.now c.args.inputs.now c.args.c _
    (sym c.call_in-call.ensures ∙ c.in-Step.is)

pub returns-in-Get : goal.returns-in-Get
unfolding line_for
returns-in-Get c =
    line_of c.args.units.now c.args.outputs.now c.args.inputs.now c.args.c _
    (sym c.call_in-call.ensures ∙ c.in-Get.is)

pub returns-in-Set : goal.returns-in-Set
unfolding line_for
returns-in-Set c =
    line_of c.args.units.now c.args.outputs.now c.args.inputs.now c.args.c _
    (sym c.call_in-call.ensures ∙ c.in-Set.is)

pub returns-in-NoCall : goal.returns-in-NoCall
unfolding line_for
returns-in-NoCall c =
    line_of c.args.units.now c.args.outputs.now c.args.inputs.now c.args.c _
    (sym c.call_in-call.ensures ∙ c.in-NoCall.is)

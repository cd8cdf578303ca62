-- By the kind of the call; the number told apart is the call's own.
use Rattle.std.proofs.Common.{arith, sym, ap, subst, ◌∙◌, not, T}
use Rattle.table.specs.Packed.{shape_of}
use Rattle.calls.specs.Precedence.{precedes}
use Rattle.orders.specs.Walk.{among, lowest_before}
use Rattle.placing.specs.Placing.{call_count, placed_of}
use Rattle.placing.proofs.Told.{told-step, told_get, told-set, told_none}
use Rattle.sorter.proofs.Before.{step-lowest}
use Rattle.sorter.proofs.lows.Lows.lowest_before.Goals as goal

pub bounds-self-unit : goal.bounds-self-unit
bounds-self-unit c =
    let table = c.args.self.table in
    let told = told-step (shape_of table.bytes.now) c.args.call c.requires.bound c.in-Step.unit
    (sym c.call_at.ensures ∙ c.in-Step.is) in
    omega (arith, told.0, table.sound.counted.units-most)

pub before_get-requires : goal.before_get-requires
before_get-requires c =
    (told_get (shape_of c.args.self.table.bytes.now) c.args.call c.requires.bound
    c.in-Get.output (sym c.call_at.ensures ∙ c.in-Get.is)).0

pub before_set-requires : goal.before_set-requires
before_set-requires c =
    let t = c.args.self.table.bytes.now in
    let told = told-set (shape_of t) c.args.call c.requires.bound c.in-Set.input
    (sym c.call_at.ensures ∙ c.in-Set.is) in
    record {
      bound = told.0;
      remains = subst (λ n. T (not (among (placed_of t) n))) (sym told.1) c.requires.remains;
    }

pub returns-in-Step : goal.returns-in-Step
returns-in-Step c =
    let lows = c.args.self in
    let t = lows.table.bytes.now in
    let done = among (placed_of t) in
    let told = told-step (shape_of t) c.args.call c.requires.bound c.in-Step.unit
    (sym c.call_at.ensures ∙ c.in-Step.is) in
    c.set_of.ensures
    ∙ step-lowest (shape_of t) lows.table.sound.wired done c.in-Step.unit _ told.0
    (lows.low_steps.each c.in-Step.unit told.0)
    ∙ ap (lowest_before (call_count t) (precedes (shape_of t)) done) told.1

pub returns-in-Get : goal.returns-in-Get
returns-in-Get c =
    let t = c.args.self.table.bytes.now in
    let told = told_get (shape_of t) c.args.call c.requires.bound c.in-Get.output
    (sym c.call_at.ensures ∙ c.in-Get.is) in
    c.before_get.ensures
    ∙ ap (lowest_before (call_count t) (precedes (shape_of t)) (among (placed_of t))) told.1

pub returns-in-Set : goal.returns-in-Set
returns-in-Set c =
    let t = c.args.self.table.bytes.now in
    let told = told-set (shape_of t) c.args.call c.requires.bound c.in-Set.input
    (sym c.call_at.ensures ∙ c.in-Set.is) in
    c.before_set.ensures
    ∙ ap (lowest_before (call_count t) (precedes (shape_of t)) (among (placed_of t))) told.1

pub returns-in-NoCall : goal.returns-in-NoCall
returns-in-NoCall c =
    absurd
    (told_none (shape_of c.args.self.table.bytes.now) c.args.call c.requires.bound
    (sym c.call_at.ensures ∙ c.in-NoCall.is))

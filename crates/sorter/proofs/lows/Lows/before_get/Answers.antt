-- The step is lower than any set; else the lowest feeding input is the lowest.
use Rattle.std.proofs.Common.{arith, sym, ap, subst, ◌∙◌, not, ◌<◌, T, get_or, length}
use Rattle.search.specs.Truth.{says, denies, not-not}
use Rattle.table.specs.Packed.{units, shape_of}
use Rattle.table.specs.Layout.{long_output_owners}
use Rattle.orders.specs.Walk.{among}
use Rattle.placing.specs.Placing.{placed_of}
use Rattle.sorter.proofs.Before.{get_step, get_lowest}
use Rattle.sorter.proofs.lows.Lows.before_get.Goals as goal

pub bounds-output_owners-output : goal.bounds-output_owners-output
bounds-output_owners-output c =
    let lows = c.args.self in
    omega (
      arith,
      ap length c.output_owners.ensures ∙ long_output_owners lows.table.bytes.now
          lows.table.sound.long,
    )

pub step_left-requires : goal.step_left-requires
step_left-requires c =
    let lows = c.args.self in
    subst (λ u. u < units lows.table.bytes.now)
    (sym (ap (λ l. get_or l c.args.output 0) c.output_owners.ensures))
    (lows.table.sound.wired.output-owned c.args.output c.requires)

pub returns-then-step_left : goal.returns-then-step_left
returns-then-step_left c =
    let lows = c.args.self in
    let t = lows.table.bytes.now in
    let done = among (placed_of t) in
    let owner = ap (λ l. get_or l c.args.output 0) c.output_owners.ensures in
    owner
    ∙ get_step (shape_of t) lows.table.sound.wired done c.args.output c.requires
    (subst (λ n. T (not (done n))) owner (says c.step_left.ensures c.if-step_left.true))

pub returns : goal.returns
returns c =
    let lows = c.args.self in
    let t = lows.table.bytes.now in
    let done = among (placed_of t) in
    let owner = ap (λ l. get_or l c.args.output 0) c.output_owners.ensures in
    c.set_of.ensures
    ∙ get_lowest (shape_of t) lows.table.sound.wired done c.args.output _ c.requires
    (subst (λ n. T (done n)) owner (not-not (done _)
    (denies c.step_left.ensures c.if-step_left.false)))
    (lows.low_gets.each c.args.output c.requires)

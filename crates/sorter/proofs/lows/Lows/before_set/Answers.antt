-- The step is lower than the get; where no step waits, the get of the source remains.
use Rattle.std.proofs.Common.{arith, sym, ap, subst, ◌∙◌, not, ◌+◌, ◌<◌, T, get_or, length}
use Rattle.std.proofs.Math.Path.{ap₂}
use Rattle.search.specs.Truth.{says, denies, not-not}
use Rattle.table.specs.Packed.{units, shape_of}
use Rattle.table.specs.Layout.{long-kinds, long_input_owners, long-sources}
use Rattle.orders.specs.Walk.{among}
use Rattle.placing.specs.Placing.{placed_of}
use Rattle.sorter.proofs.Before.{set-step}
use Rattle.sorter.proofs.Closed.{source-left}
use Rattle.sorter.proofs.lows.Lows.before_set.Goals as goal
use Rattle.sorter.proofs.lows.Lows.before_set.Goals.{
  then-input_kinds-input-eq0+else-step_left,
  else-input_kinds-input-eq0,
}

pub bounds-input_kinds-input : goal.bounds-input_kinds-input
bounds-input_kinds-input c =
    let table = c.args.self.table in
    omega (arith, ap length c.input_kinds.ensures ∙ long-kinds table.bytes.now table.sound.long)

pub bounds-input_owners-input : goal.bounds-input_owners-input
bounds-input_owners-input c =
    let table = c.args.self.table in
    omega (
      arith,
      ap length c.input_owners.ensures ∙ long_input_owners table.bytes.now table.sound.long,
    )

pub bounds-input_sources-input : goal.bounds-input_sources-input
bounds-input_sources-input c =
    let table = c.args.self.table in
    omega (
      arith,
      ap length c.input_sources.ensures ∙ long-sources table.bytes.now table.sound.long,
    )

pub step_left-requires : goal.step_left-requires
step_left-requires c =
    let table = c.args.self.table in
    subst (λ u. u < units table.bytes.now)
    (sym (ap (λ l. get_or l c.args.input 0) c.input_owners.ensures))
    (table.sound.wired.input-owned c.args.input c.requires.bound)

pub returns-then-step_left : goal.returns-then-step_left
returns-then-step_left c =
    let t = c.args.self.table.bytes.now in
    let done = among (placed_of t) in
    let owner = ap (λ l. get_or l c.args.input 0) c.input_owners.ensures in
    let kind = ap (λ l. get_or l c.args.input 0) c.input_kinds.ensures in
    owner
    ∙ set-step (shape_of t) c.args.self.table.sound.wired done c.args.input c.requires.bound
    (sym kind ∙ c.if-input_kinds-input-eq0.true)
    (subst (λ n. T (not (done n))) owner (says c.step_left.ensures c.if-step_left.true))

pub returns : goal.returns
returns c =
    let lows = c.args.self in
    let t = lows.table.bytes.now in
    let done = among (placed_of t) in
    let kind = ap (λ l. get_or l c.args.input 0) c.input_kinds.ensures in
    ap₂ ◌+◌ c.unit_count.ensures.value (ap (λ l. get_or l c.args.input 0) c.input_sources.ensures)
    ∙ source-left t lows.table.sound lows.early c.args.input c.requires.bound c.requires.remains
    (λ z. elim c.if-input_kinds-input-eq0.branch [
      | then-input_kinds-input-eq0+else-step_left w ↦
          subst (λ n. T (done n)) (ap (λ l. get_or l c.args.input 0) w.input_owners.ensures)
          (not-not (done _) (denies w.step_left.ensures w.if-step_left.false))
      | else-input_kinds-input-eq0 w ↦ absurd (w.if-input_kinds-input-eq0.false (kind ∙ z))
    ])

-- The trail holds at the start and after each call; where it ends, what was met (`trail_met`).
use Rattle.std.proofs.Common.{sym, ap, ◌∙◌, refl, arith, ◌+◌, ◌==◌, take, drop}
use Rattle.std.specs.List.{position}
use Rattle.std.proofs.lemmas.Slice.{between_to_end}
use Rattle.sorter.proofs.Trails.{trail_starts, trail_room, trail_on, trail-again, trail_met}
use Rattle.sorter.proofs.Turning.{place_some, upto_place}
use Rattle.sorter.proofs.walk.walk_back.Goals as goal

pub loop-seen-init : goal.loop-seen-init
loop-seen-init c =
    let lows = c.args.lows in
    trail_starts lows.table.bytes.now lows.table.sound lows.early c.args.path.now _ _ _
    c.told-path c.new-seen.ensures refl c.requires

pub overflow_sub-at : goal.overflow_sub-at
overflow_sub-at c =
    let lows = c.args.lows in
    trail_room lows.table.bytes.now lows.table.sound lows.early _ _ _ _ c.loop-seen.invariant
    (sym c.has.ensures ∙ c.loop-seen-test.true)

pub loop-seen-smaller : goal.loop-seen-smaller
loop-seen-smaller c =
    let lows = c.args.lows in
    omega (
      arith,
      trail_room lows.table.bytes.now lows.table.sound lows.early _ _ _ _ c.loop-seen.invariant
          (sym c.has.ensures ∙ c.loop-seen-test.true),
    )

pub loop-seen-preserved : goal.loop-seen-preserved
loop-seen-preserved c =
    let lows = c.args.lows in
    rw c.put.ensures
    (trail_on lows.table.bytes.now lows.table.sound lows.early _ _ _ _ c.loop-seen.invariant _
    (sym c.has.ensures ∙ c.loop-seen-test.true) c.loop-seen.seen.whole
    c.lowest_before-call.ensures)

pub unwrap-end-requires : goal.unwrap-end-requires
unwrap-end-requires c =
    let lows = c.args.lows in
    let at = c.loop-seen.at in
    let rest = between_to_end c.loop-seen.path at 224 (omega arith) in
    rw (c.place_of.ensures, rest)
    (place_some (drop at c.loop-seen.path) c.loop-seen.call
    (trail-again lows.table.bytes.now lows.table.sound lows.early _ _ _ _ c.loop-seen.invariant
    (sym c.has.ensures ∙ c.loop-seen-test.false)))

pub returns : goal.returns
returns c =
    let lows = c.args.lows in
    let rest = between_to_end c.loop-seen.path c.loop-seen.at 224 (omega arith) in
    sym
    (trail_met lows.table.bytes.now lows.table.sound lows.early _ _ _ _ c.loop-seen.invariant
    (sym c.has.ensures ∙ c.loop-seen-test.false)
    ∙ upto_place (drop c.loop-seen.at c.loop-seen.path) c.loop-seen.call _
    (ap (position (λ b. b == c.loop-seen.call)) (sym rest)
    ∙ sym c.place_of.ensures
    ∙ c.unwrap-end.ensures)
    ∙ ap (take (c.unwrap-end.result + 1)) (sym rest))

-- The lowest call stands at its first place (`turned_at`); what is written is the cycle turned.
use Rattle.std.proofs.Common.{◌≡◌, sym, ap, ◌∙◌, ◌++◌, arith, length, length-append}
use Rattle.std.proofs.lemmas.Option.{MatchOption-at_some}
use Rattle.std.proofs.lemmas.Iterator.{YieldsList-from_slice}
use Rattle.std.proofs.lemmas.Iterator.Consumers.{YieldsList-from_chain, YieldsList-from_enumerate}
use Rattle.std.proofs.lemmas.Iterator.Consumers.{YieldsList-turn, YieldsList-end}
use Rattle.std.proofs.Math.ListN.{drop_of_length-le}
use Rattle.std.proofs.lemmas.List.FromFn.{length-enumerate_from}
use Rattle.search.specs.Front.{fronted, fronting_starts, fronting_ends}
use Rattle.orders.specs.Turn.{turn}
use Rattle.sorter.proofs.Turning.{among_contains, place_some, turned_at, stands, front_on}
use Rattle.sorter.proofs.show.write_turned.Goals as goal

pub unwrap-first-requires : goal.unwrap-first-requires
unwrap-first-requires c =
    let low = MatchOption-at_some _ _ _ c.unwrap-low.ensures c.lowest_of.ensures in
    rw c.place_of.ensures
    (place_some c.args.cycle.now _ (among_contains c.args.cycle.now _ low.0))

pub loop-place-init : goal.loop-place-init
loop-place-init c = fronting_starts (turn c.unwrap-first.result c.args.cycle.now) c.args.out.now

pub bounds-out-place : goal.bounds-out-place
bounds-out-place c =
    let back = c.split_at.result.1.now in
    let front = c.split_at.result.0.now in
    let road = YieldsList-from_enumerate {s = c.into_iter-place-iterator.result}
    (YieldsList-from_chain (YieldsList-from_slice back (cc)) (YieldsList-from_slice front (cc))
    (cc) (cc)) (cc) in
    let turn = YieldsList-turn road c.loop-place.yielded _ c.loop-place.yielded_by _ _
    (c.in-Some.place, c.in-Some.call) c.in-Some.is c.next.ensures.steps in
    let at = stands (back ++ front) (length c.loop-place.yielded) _ _ turn.0 turn.1 in
    omega (
      arith,
      at.0,
      at.1,
      length-append back front,
      c.split_at.ensures.front_len,
      c.split_at.ensures.back_len,
      c.requires.cycle_in_bounds,
      c.loop-place.invariant.long,
    )

pub loop-place-preserved : goal.loop-place-preserved
loop-place-preserved c =
    let back = c.split_at.result.1.now in
    let front = c.split_at.result.0.now in
    let cycle = c.args.cycle.now in
    let first = c.unwrap-first.result in
    let road = YieldsList-from_enumerate {s = c.into_iter-place-iterator.result}
    (YieldsList-from_chain (YieldsList-from_slice back (cc)) (YieldsList-from_slice front (cc))
    (cc) (cc)) (cc) in
    let now = YieldsList-turn road c.loop-place.yielded _ c.loop-place.yielded_by _ _
    (c.in-Some.place, c.in-Some.call) c.in-Some.is c.next.ensures.steps in
    let at = stands (back ++ front) (length c.loop-place.yielded) _ _ now.0 now.1 in
    let whole : back ++ front ≡ turn first cycle = rw
    (c.split_at.ensures.back, c.split_at.ensures.front) in
    front_on (turn first cycle) c.args.out.now c.loop-place.out _ _ _ _ (rw whole at at.0) at.1
    (rw whole at at.2) (length-append c.loop-place.yielded _)
    (omega (
      arith,
      at.0,
      length-append back front,
      c.split_at.ensures.front_len,
      c.split_at.ensures.back_len,
      c.requires.cycle_in_bounds,
      c.loop-place.invariant.long,
    ))
    c.loop-place.invariant

pub returns : goal.returns
returns c n calls =
    let back = c.split_at.result.1.now in
    let front = c.split_at.result.0.now in
    let cycle = c.args.cycle.now in
    let low = MatchOption-at_some _ _ _ c.unwrap-low.ensures c.lowest_of.ensures in
    let first = turned_at cycle _ _ n c.requires.cycle_any calls low.0 low.1
    (sym c.place_of.ensures ∙ c.unwrap-first.ensures) in
    let road = YieldsList-from_enumerate {s = c.into_iter-place-iterator.result}
    (YieldsList-from_chain (YieldsList-from_slice back (cc)) (YieldsList-from_slice front (cc))
    (cc) (cc)) (cc) in
    let end = YieldsList-end road c.loop-place.yielded _ c.loop-place.yielded_by _ _ c.in-None.is
    c.next.ensures.steps in
    let whole : back ++ front ≡ turn c.unwrap-first.result cycle = rw
    (c.split_at.ensures.back, c.split_at.ensures.front) in
    (fronting_ends (turn c.unwrap-first.result cycle) _ c.args.out.now c.loop-place.out _
    c.loop-place.invariant
    (drop_of_length-le (turn c.unwrap-first.result cycle)
    (omega (
      arith,
      end.1,
      length-enumerate_from 0 (back ++ front),
      ap length whole,
    )))).1
    ∙ ap (λ k. fronted (turn k cycle) c.args.out.now) first

-- What is placed is the front of `placed_of`; `stage_on` carries the loop, `stage_stands` ends it.
use native.Mathlib.Omega.{arith}
use mathlib.Core.Path.{◌≡◌, refl, ap, sym, ◌∙◌}
use mathlib.Core.List.{[], ◌∷◌, ◌++◌}
use Prim.Native.Nat.{◌+◌, ◌-◌}
use lib.ListN.{length, take, length-append}
use Rattle.table.specs.Packed.{shape_of}
use Rattle.table.proofs.Checked.{few-calls}
use Rattle.calls.specs.Precedence.{precedes}
use Rattle.orders.specs.Sort.{sort}
use Rattle.orders.proofs.Sorted.{sort-stop, sort-none}
use Rattle.orders.specs.Walk.{among}
use Rattle.placing.specs.Placing.{call_count, placed_of}
use Rattle.placing.proofs.Stage.{lowest-small, lowest-next, lowest-none, stage_starts}
use Rattle.placing.proofs.Stage.{stage_front, stage_stands, stage_idle, stage_room, stage_on}
use Rattle.placing.proofs.Queued.{none-found}
use Rattle.placing.proofs.place.place_ready.Goals as goal

pub loop-count-init : goal.loop-count-init
loop-count-init c =
    (refl, stage_starts c.args.noted.table.bytes.now _ _ c.requires)

pub returns-in_default : goal.returns-in_default
returns-in_default c =
    let t = c.args.noted.table.bytes.now in
    let ok = c.args.noted.table.sound in
    let l = take c.loop-count.count (placed_of t) in
    let g = c.loop-count.invariant.1 in
    let over = lowest-none (shape_of t) ok.wired (among l) _ _ g.waiting 256
    (sym c.in_default.ensures) (omega (arith, few-calls t ok)) in
    let (n, rest) = stage_stands t l _ _ _ g
    (sort-stop (call_count t) (precedes (shape_of t)) _ _ (omega (arith, over))) in
    record {
      count_value = sym c.loop-count.invariant.0 ∙ n;
      last_value = rest.0;
      standing = rest.1;
      none_ready = none-found c.loop-count.queue.ready.words c.in_default.ensures;
    }

pub bounds-queue-call : goal.bounds-queue-call
bounds-queue-call c =
    let t = c.args.noted.table.bytes.now in
    let ok = c.args.noted.table.sound in
    let (small, e) = c.in-Some.ensures in
    omega (
      arith,
      few-calls t ok,
      lowest-small (shape_of t) ok.wired _ _ _ c.loop-count.invariant.1.waiting c.in-Some.call
          (sym e) small,
    )

pub release-requires : goal.release-requires
release-requires c =
    let t = c.args.noted.table.bytes.now in
    let ok = c.args.noted.table.sound in
    let l = take c.loop-count.count (placed_of t) in
    let g = c.loop-count.invariant.1 in
    let (small, f) = c.in-Some.ensures in
    let h = lowest-small (shape_of t) ok.wired (among l) _ _ g.waiting c.in-Some.call (sym f) small
    in
    let e = lowest-next (shape_of t) ok.wired (among l) _ _ g.waiting c.in-Some.call (sym f) h
    (few-calls t ok) in
    record { call_bound = h; enough = stage_room t ok l _ _ _ g c.in-Some.call e h }

pub loop-count-preserved : goal.loop-count-preserved
loop-count-preserved c =
    let t = c.args.noted.table.bytes.now in
    let ok = c.args.noted.table.sound in
    let l = take c.loop-count.count (placed_of t) in
    let g = c.loop-count.invariant.1 in
    let call = c.in-Some.call in
    let (small, f) = c.in-Some.ensures in
    let h = lowest-small (shape_of t) ok.wired (among l) _ _ g.waiting call (sym f) small in
    let e = lowest-next (shape_of t) ok.wired (among l) _ _ g.waiting call (sym f) h
    (few-calls t ok) in
    let next = stage_on t ok l _ _ _ g call e h _ _ (rw c.take_out.ensures at c.release.ensures)
    (omega (
      arith,
      c.loop-count.invariant.0,
      c.call_count-calls.ensures.value,
      c.loop-count-test.true,
    )) in
    let n : length (l ++ (call ∷ [])) ≡ c.loop-count.count + 1 = length-append l (call ∷ [])
    ∙ omega (arith, c.loop-count.invariant.0) in
    let front = stage_front t (l ++ (call ∷ [])) _ _ call (c.loop-count.count + 1) next n in
    (ap length front ∙ n, rw front next)

pub returns : goal.returns
returns c =
    let t = c.args.noted.table.bytes.now in
    let l = take c.loop-count.count (placed_of t) in
    let all : c.loop-count.count ≡ call_count t = omega (
      arith,
      c.call_count-calls.ensures.value,
      c.loop-count-test.false,
      c.loop-count.auto.count-end,
    ) in
    let none : call_count t - length l ≡ 0 = omega (arith, c.loop-count.invariant.0) in
    let over : sort (call_count t) (precedes (shape_of t)) (call_count t - length l) (among l)
    ≡ [] = rw none (sort-none (call_count t) (precedes (shape_of t)) (among l)) in
    let (n, rest) = stage_stands t l _ _ _ c.loop-count.invariant.1 over in
    record {
      count_value = c.call_count-calls.ensures.value ∙ sym all ∙ sym c.loop-count.invariant.0 ∙ n;
      last_value = rest.0;
      standing = rest.1;
      none_ready = stage_idle t l _ _ _ c.loop-count.invariant.1 over
          (c.loop-count.invariant.0 ∙ all);
    }

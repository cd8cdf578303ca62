-- A reactive input gives its unit one, a delayed one nothing.
use native.Mathlib.Omega.{arith}
use mathlib.Core.Path.{ap, sym, ◌∙◌}
use lib.ListN.{length, get_or}
use Rattle.table.specs.Layout.{long-kinds, long_input_owners}
use Rattle.placing.proofs.Gives.{own-none, own-some, own-once, own-fits}
use Rattle.placing.proofs.Lowering.{lowered_none, lowered_as}
use Rattle.placing.proofs.release.Noted.release_unit.Goals as goal

pub bounds-kinds-input : goal.bounds-kinds-input
bounds-kinds-input c =
    let n = ap length c.input_kinds-kinds.ensures ∙ long-kinds c.args.self.table.bytes.now
    c.args.self.table.sound.long in
    omega (arith, c.requires.input_bound, n)

pub bounds-owners-input : goal.bounds-owners-input
bounds-owners-input c =
    let n = ap length c.input_owners-owners.ensures ∙ long_input_owners c.args.self.table.bytes.now
    c.args.self.table.sound.long in
    omega (arith, c.requires.input_bound, n)

pub overflow_cast-owners : goal.overflow_cast-owners
overflow_cast-owners c =
    let o = ap (λ l. get_or l c.args.input 0) c.input_owners-owners.ensures in
    record {
      fits = omega (
        arith,
        own-fits c.args.self.table.bytes.now c.args.self.table.sound c.args.input _
            c.requires.input_bound o,
      );
    }

pub lower-requires : goal.lower-requires
lower-requires c =
    let t = c.args.self.table.bytes.now in
    let ok = c.args.self.table.sound in
    let x = c.args.input in
    let k = ap (λ l. get_or l x 0) c.input_kinds-kinds.ensures in
    let o = ap (λ l. get_or l x 0) c.input_owners-owners.ensures in
    let unit = get_or c.input_owners-owners.result.now x 0 in
    record {
      call_bound = own-fits t ok x unit c.requires.input_bound o;
      nonzero = omega (
        arith,
        c.requires.enough unit,
        own-some t ok x _ unit k c.if-kinds-input-eq1.true o,
      );
    }

pub returns-then-kinds-input-eq1 : goal.returns-then-kinds-input-eq1
returns-then-kinds-input-eq1 c =
    let k = ap (λ l. get_or l c.args.input 0) c.input_kinds-kinds.ensures in
    let o = ap (λ l. get_or l c.args.input 0) c.input_owners-owners.ensures in
    lowered_as _ _ _ _ _ _
    (λ x. sym (own-once c.args.self.table.bytes.now c.args.self.table.sound c.args.input _ _ k
    c.if-kinds-input-eq1.true o x)) c.lower.ensures

pub returns-else-kinds-input-eq1 : goal.returns-else-kinds-input-eq1
returns-else-kinds-input-eq1 c =
    let k = ap (λ l. get_or l c.args.input 0) c.input_kinds-kinds.ensures in
    lowered_none _ _ _
    (own-none c.args.self.table.bytes.now c.args.self.table.sound c.args.input _ k
    c.if-kinds-input-eq1.false) c.args.queue.now.ready.whole

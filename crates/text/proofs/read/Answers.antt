-- One law for each return.
use mathlib.Core.Path.{sym}
use Rattle.text.proofs.Packing.{fit_slotted}
use Rattle.text.proofs.Answers.{read-refused, read_34, read-room, read_done}
use Rattle.text.proofs.read.Goals as goal

pub returns-then-number-ne0 : goal.returns-then-number-ne0
returns-then-number-ne0 c =
    let all = read-refused _ _ _ _ c.note-noted.ensures _ c.if-number-ne0.true in
    record { value = all.0; out_after = all.1 }

pub size-size-requires : goal.size-size-requires
size-size-requires c = (
  (c.note-noted.ensures.fit c.if-number-ne0.false).outputs-most,
  (
    (c.note-noted.ensures.fit c.if-number-ne0.false).inputs-most,
    (c.note-noted.ensures.fit c.if-number-ne0.false).feeds-most,
  ),
)

pub returns-then-out-size : goal.returns-then-out-size
returns-then-out-size c =
    let all = read_34 _ _ _ _ c.note-noted.ensures _ c.if-number-ne0.false _ c.size-size.ensures
    c.if-out-size.true in
    record { value = all.0; out_after = all.1 }

pub slice_bounds-pack-end : goal.slice_bounds-pack-end
slice_bounds-pack-end c =
    sym (c.note-noted.ensures.fit c.if-number-ne0.false).slots-long

pub pack-requires : goal.pack-requires
pack-requires c =
    record {
      slotted = fit_slotted _ _ _ _ (c.note-noted.ensures.fit c.if-number-ne0.false);
      counts_in_bounds = read-room _ _ _ _ c.note-noted.ensures c.args.out.now
          c.if-number-ne0.false _ c.size-size.ensures c.if-out-size.false;
    }

pub returns : goal.returns
returns c =
    let all = read_done _ _ _ _ c.note-noted.ensures _ c.if-number-ne0.false _ c.size-size.ensures
    c.if-out-size.false _ c.pack.ensures in
    record { value = all.0; out_after = all.1 }

-- What is noted of the feeds stays where the sources are noted.
use borrow.Author.Rules.{rules}
use native.Mathlib.Omega.{arith}
use mathlib.Core.Path.{ap}
use lib.ListN.{length}
use Rattle.table.specs.Layout.{long-pairs, long-sources}
use Rattle.placing.proofs.Marked.{joined}
use Rattle.placing.proofs.place.note_joins.Goals as goal

pub note-requires : goal.note-requires
note-requires c =
    let t = c.args.table.bytes.now in
    let ok = c.args.table.sound in
    let n = long-pairs t ok.long in
    let e = c.feed_count.ensures.value in
    λ k h. (
      search rules fits 20000 depth 12,
      (
        search rules,
        (
          search rules,
          (
            λ i l. (
              search rules,
              λ κs r p q u o f. omega (arith, n, e, ap length o.ensures),
            ),
            (
              λ i r l p. search rules,
              λ i l. omega (
                arith,
                ok.counted.inputs-most,
                ok.wired.feed-input i (omega (arith, e)),
              ),
            ),
          ),
        ),
      ),
    )

pub note-requires-2 : goal.note-requires-2
note-requires-2 c =
    let t = c.args.table.bytes.now in
    let ok = c.args.table.sound in
    let n = long-sources t ok.long in
    let e = c.input_count.ensures.value in
    λ k h. (
      search rules fits 20000 depth 12,
      (
        search rules,
        (
          search rules,
          (
            λ i l κs r p q u o f. omega (arith, n, e, ap length o.ensures),
            (
              λ i r l p. search rules,
              λ i l. omega (
                arith,
                c.note.ensures.long,
                ok.counted.outputs-most,
                ok.wired.sourced i (omega (arith, e)),
              ),
            ),
          ),
        ),
      ),
    )

pub returns : goal.returns
returns c =
    let f = c.feed_count.ensures.value in
    let x = c.input_count.ensures.value in
    joined c.args.table.bytes.now c.args.mask.now c.note.new.notes c.note-2.new.notes
    (search rules) (rw f at c.note.ensures) (rw x at c.note-2.ensures)

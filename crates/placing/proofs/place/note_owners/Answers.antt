-- What is noted of the outputs stays where the inputs are noted.
use borrow.Author.Rules.{rules}
use native.Mathlib.Omega.{arith}
use mathlib.Core.Path.{ap}
use lib.ListN.{length}
use Rattle.table.specs.Layout.{long_output_owners, long_input_owners}
use Rattle.placing.proofs.Marked.{owned}
use Rattle.placing.proofs.place.note_owners.Goals as goal

pub note-requires : goal.note-requires
note-requires c =
    let t = c.args.table.bytes.now in
    let ok = c.args.table.sound in
    let n = long_output_owners t ok.long in
    let e = c.output_count.ensures.value in
    λ k h. (
      search rules fits 20000 depth 12,
      (
        search rules,
        (
          search rules,
          (
            λ i l κs r p q u o f. omega (arith, n, e, ap length o.ensures),
            (
              λ i r l p. search rules,
              λ i l. omega (
                arith,
                ok.counted.units-most,
                ok.wired.output-owned i (omega (arith, e)),
              ),
            ),
          ),
        ),
      ),
    )

pub note-requires-2 : goal.note-requires-2
note-requires-2 c =
    let t = c.args.table.bytes.now in
    let ok = c.args.table.sound in
    let n = long_input_owners t ok.long in
    let e = c.input_count.ensures.value in
    λ k h. (
      search rules fits 20000 depth 12,
      (
        search rules,
        (
          search rules,
          (
            λ i l κs r p q u o f. omega (arith, n, e, ap length o.ensures),
            (
              λ i r l p. search rules,
              λ i l. omega (
                arith,
                c.note.ensures.long,
                ok.counted.units-most,
                ok.wired.input-owned i (omega (arith, e)),
              ),
            ),
          ),
        ),
      ),
    )

pub returns : goal.returns
returns c =
    let y = c.output_count.ensures.value in
    let x = c.input_count.ensures.value in
    owned c.args.table.bytes.now c.args.own.now c.note.new.notes c.note-2.new.notes
    (search rules) (rw y at c.note.ensures) (rw x at c.note-2.ensures)

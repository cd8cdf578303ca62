-- What `note_lines` leaves at the front of each array is where those lines begin.
use mathlib.Core.Path.{sym}
use lib.Seq.{length-take-le}
use Rattle.printing.proofs.Whole.{noted-part, noted-fits}
use Rattle.printing.proofs.put_calls.Goals as goal

pub slice_bounds-units-end : goal.slice_bounds-units-end
slice_bounds-units-end c = noted-fits c.note_lines-u.ensures

pub slice_bounds-put_lines-end : goal.slice_bounds-put_lines-end
slice_bounds-put_lines-end c =
    sym (length-take-le _ _ (noted-fits c.note_lines-u.ensures))

pub slice_bounds-outputs-end : goal.slice_bounds-outputs-end
slice_bounds-outputs-end c = noted-fits c.note_lines-y.ensures

pub slice_bounds-put_lines-end-2 : goal.slice_bounds-put_lines-end-2
slice_bounds-put_lines-end-2 c =
    sym (length-take-le _ _ (noted-fits c.note_lines-y.ensures))

pub slice_bounds-inputs-end : goal.slice_bounds-inputs-end
slice_bounds-inputs-end c = noted-fits c.note_lines-x.ensures

pub slice_bounds-put_lines-end-3 : goal.slice_bounds-put_lines-end-3
slice_bounds-put_lines-end-3 c =
    sym (length-take-le _ _ (noted-fits c.note_lines-x.ensures))

pub put_lines-requires : goal.put_lines-requires
put_lines-requires c =
    record {
      unit-places = noted-part c.note_lines-u.ensures;
      output-places = noted-part c.note_lines-y.ensures;
      input-places = noted-part c.note_lines-x.ensures;
    }

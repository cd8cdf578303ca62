-- Four fields put one after the other are the line.
use Rattle.pen.specs.Decimal.{decimal}
use Rattle.pen.specs.Chain.{wrote-long}
use Rattle.printing.proofs.Fielded.{room_1, room_2, room_3, room_4, four-fields}
use Rattle.printing.proofs.line.put_entry.Goals as goal

pub put_count-a-requires : goal.put_count-a-requires
put_count-a-requires c =
    room_1 c.args.out.now c.args.at (decimal c.args.k) c.args.word.now c.args.unit.now
    c.args.port.now c.requires

pub put_field-b-requires : goal.put_field-b-requires
put_field-b-requires c = room_2 _ _ _ _ _ _ c.requires c.put_count-a.ensures

pub put_field-c-requires : goal.put_field-c-requires
put_field-c-requires c =
    room_3 _ _ _ _ _ _ c.requires c.put_count-a.ensures c.put_field-b.ensures

pub put_field-requires : goal.put_field-requires
put_field-requires c =
    room_4 _ _ _ _ _ _ c.requires c.put_count-a.ensures c.put_field-b.ensures
    c.put_field-c.ensures

pub shape_of-out : goal.shape_of-out
shape_of-out c =
    wrote-long
    (four-fields _ _ _ _ _ _ c.requires c.put_count-a.ensures c.put_field-b.ensures
    c.put_field-c.ensures
    c.put_field.ensures)

pub returns : goal.returns
returns c =
    four-fields _ _ _ _ _ _ c.requires c.put_count-a.ensures c.put_field-b.ensures
    c.put_field-c.ensures
    c.put_field.ensures

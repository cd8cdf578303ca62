-- A field and the byte behind it, one put after the other.
use Rattle.pen.specs.Chain.{wrote-long}
use Rattle.printing.proofs.Fielded.{ended}
use Rattle.printing.proofs.line.put_field.Goals as goal

pub shape_of-out : goal.shape_of-out
shape_of-out c =
    wrote-long (ended _ c.requires c.put-k.ensures c.put_byte.ensures)

pub returns : goal.returns
returns c = ended _ c.requires c.put-k.ensures c.put_byte.ensures

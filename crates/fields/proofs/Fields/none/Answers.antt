-- No field, by its definition.
use mathlib.Core.Path.{refl}
use Rattle.fields.specs.Spans.{no_fields}
use Rattle.fields.proofs.Fields.none.Goals as goal

pub returns : goal.returns
unfolding no_fields
returns c = refl

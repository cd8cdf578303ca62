-- The owners of the outputs, then of the inputs.
use Rattle.table.specs.Packed.{output_owners, input_owners}
use Rattle.placing.specs.Less.{called}
use Rattle.placing.proofs.place.note_owners.Given as goal

abbrev pub ghost-note : goal.ghost-note
ghost-note a = called (output_owners a.key_at.0.now.bytes.now)

abbrev pub ghost-note-2 : goal.ghost-note-2
ghost-note-2 a = called (input_owners a.key_at.0.now.bytes.now)

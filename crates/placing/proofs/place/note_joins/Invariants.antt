-- The inputs of the feeds, then the sources.
use Rattle.table.specs.Packed.{pairs, sources, pair_input}
use Rattle.placing.specs.Less.{called}
use Rattle.placing.proofs.place.note_joins.Given as goal

abbrev pub ghost-note : goal.ghost-note
ghost-note a = pair_input (pairs a.key_at.0.now.bytes.now)

abbrev pub ghost-note-2 : goal.ghost-note-2
ghost-note-2 a = called (sources a.key_at.0.now.bytes.now)

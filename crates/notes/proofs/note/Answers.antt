-- What becomes of the notes is what the arm for the entry leaves.
use native.Mathlib.Omega.{arith}
use Rattle.notes.proofs.Becoming.{became_unit, became_output, became_input}
use Rattle.notes.proofs.Becoming.{became_feed, became_join, became_none}
use Rattle.notes.proofs.note.Goals as goal

pub note_unit-requires : goal.note_unit-requires
note_unit-requires c =
    record {
      places_len = (c.requires.places-long, c.requires.slots-long);
      units_bound = c.requires.unit c.in-1.is;
    }

pub note_output-requires : goal.note_output-requires
note_output-requires c =
    record {
      places_len = (c.requires.places-long, c.requires.slots-long);
      outputs_bound = c.requires.output c.in-2.is;
    }

pub note_input-requires : goal.note_input-requires
note_input-requires c =
    record {
      places_len = (c.requires.places-long, c.requires.slots-long);
      inputs_bound = c.requires.input c.in-3.is;
    }

pub note_feed-requires : goal.note_feed-requires
note_feed-requires c =
    record {
      slots_len = c.requires.slots-long;
      feeds_bound = c.requires.feed c.in-4.is;
    }

pub note_join-requires : goal.note_join-requires
note_join-requires c =
    record {
      slots_len = c.requires.slots-long;
      input_bound = c.requires.join c.in-5.is;
    }

pub returns-in-1 : goal.returns-in-1
returns-in-1 c = became_unit _ _ _ _ _ _ _ _ c.in-1.is c.note_unit.ensures

pub returns-in-2 : goal.returns-in-2
returns-in-2 c =
    became_output _ _ _ _ _ _ _ _ c.in-2.is c.note_output.ensures

pub returns-in-3 : goal.returns-in-3
returns-in-3 c = became_input _ _ _ _ _ _ _ _ c.in-3.is c.note_input.ensures

pub returns-in-4 : goal.returns-in-4
returns-in-4 c =
    became_feed _ _ _ _ _ (λ z. omega (arith, c.in-4.is)) (λ z. omega (arith, c.in-4.is))
    (λ z. omega (arith, c.in-4.is)) c.in-4.is _ _ c.note_feed.ensures.value
    c.note_feed.ensures.slots_after

pub returns-in-5 : goal.returns-in-5
returns-in-5 c =
    became_join _ _ _ _ _ (λ z. omega (arith, c.in-5.is)) (λ z. omega (arith, c.in-5.is))
    (λ z. omega (arith, c.in-5.is)) (λ z. omega (arith, c.in-5.is)) c.in-5.is _ _
    c.note_join.ensures.value c.note_join.ensures.slots_after

pub returns-in_default : goal.returns-in_default
returns-in_default c =
    let not = c.in_default.in_default-own.rest in
    became_none _ _ _ _ _ not.0.0.0.0.1 not.0.0.0.1 not.0.0.1 not.0.1 not.1

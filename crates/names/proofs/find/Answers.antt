-- The number at the rank found, or the count where none was.
use native.Mathlib.Omega.{arith}
use Rattle.notes.proofs.Ranks.{taken-least, free-least}
use Rattle.names.proofs.find.Goals as goal

pub overflow_add-result : goal.overflow_add-result
overflow_add-result c =
    omega (
      arith,
      (c.seek-spot.ensures.taken c.if-spot.true).0,
      c.requires.ranked.low,
    )

pub bounds-slots-base : goal.bounds-slots-base
bounds-slots-base c =
    omega (
      arith,
      (c.seek-spot.ensures.taken c.if-spot.true).0,
      c.requires.ranked.low,
    )

pub overflow_cast-result : goal.overflow_cast-result
overflow_cast-result c =
    omega (
      arith,
      c.requires.ranked.number _ (c.seek-spot.ensures.taken c.if-spot.true).0,
      c.requires.ranked.low,
    )

pub returns-then-spot : goal.returns-then-spot
returns-then-spot c =
    taken-least _ _ _ _ _ c.requires.ranked _ _ _ _ c.seek-spot.ensures c.if-spot.true

pub returns : goal.returns
returns c =
    free-least _ _ _ _ _ c.requires.ranked _ _ _ _ c.seek-spot.ensures c.if-spot.false

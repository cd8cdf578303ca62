-- The unit is found by its name, then the port by the unit and its own.
use native.Mathlib.Omega.{arith}
use Rattle.lines.proofs.Ported.{port_no_unit, port-none, port-found}
use Rattle.lines.proofs.ports.port.Goals as goal

pub word-owner-requires : goal.word-owner-requires
word-owner-requires c =
    record {
      told = c.requires.told;
      i_bound = (omega (arith, c.requires.i_bound.0), omega (arith, c.requires.i_bound.1));
    }

pub find-u-requires : goal.find-u-requires
find-u-requires c =
    record {
      ranked = c.requires.fit.units-ranked;
      wordy = c.word-owner.ensures.wordy;
    }

pub overflow_cast-result : goal.overflow_cast-result
overflow_cast-result c = omega (arith, c.requires.i_bound.0)

pub overflow_add-result : goal.overflow_add-result
overflow_add-result c = omega (arith, c.requires.i_bound.0)

pub returns-then-units-u : goal.returns-then-units-u
returns-then-units-u c =
    port_no_unit _ _ _ _ _ _ _ _ _ c.word-owner.ensures.result_value _ c.find-u.ensures
    c.if-units-u.true

pub overflow_add-i : goal.overflow_add-i
overflow_add-i c = omega (arith, c.requires.i_bound.0)

pub word-name-requires : goal.word-name-requires
word-name-requires c =
    record {
      told = c.requires.told;
      i_bound = (omega (arith, c.requires.i_bound.0), c.requires.i_bound.1);
    }

pub overflow_cast-u : goal.overflow_cast-u
overflow_cast-u c =
    omega (
      arith,
      c.if-units-u.false,
      c.requires.fit.units-most,
    )

pub find-x-requires : goal.find-x-requires
find-x-requires c =
    record {
      ranked = c.requires.ranked;
      wordy = c.word-name.ensures.wordy;
    }

pub overflow_cast-result-then-count-x : goal.overflow_cast-result-then-count-x
overflow_cast-result-then-count-x c = omega (arith, c.requires.i_bound.0)

pub overflow_add-result-then-count-x : goal.overflow_add-result-then-count-x
overflow_add-result-then-count-x c = omega (arith, c.requires.i_bound.0)

pub returns-then-count-x : goal.returns-then-count-x
returns-then-count-x c =
    port-none _ _ _ _ _ _ _ _ _ c.word-owner.ensures.result_value _ c.find-u.ensures
    c.if-units-u.false _ c.word-name.ensures.result_value _ c.find-x.ensures c.if-count-x.true

pub returns : goal.returns
returns c =
    port-found _ _ _ _ _ _ _ _ _ c.word-owner.ensures.result_value _ c.find-u.ensures
    c.if-units-u.false _ c.word-name.ensures.result_value _ c.find-x.ensures c.if-count-x.false

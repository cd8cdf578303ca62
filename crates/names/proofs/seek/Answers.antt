-- The loop keeps that the names below lo are before the word and those from hi on after it.
use Prim.Native.Nat.{◌+◌, ◌-◌, ◌/◌}
use native.Mathlib.Omega.{arith}
use Rattle.notes.proofs.Ranks.{all_open, middle, upper_half, lower_half, spot-taken, spot-free}
use Rattle.names.proofs.seek.Goals as goal

pub loop-lo-init : goal.loop-lo-init
loop-lo-init c = all_open _ _ _ _ _ c.requires.ranked _ _

pub overflow_sub-mid : goal.overflow_sub-mid
overflow_sub-mid c = omega arith

pub overflow_add-mid : goal.overflow_add-mid
overflow_add-mid c =
    omega (arith, c.loop-lo.invariant.high, c.requires.ranked.low)

pub overflow_add-k : goal.overflow_add-k
overflow_add-k c =
    omega (arith, c.loop-lo.invariant.high, c.requires.ranked.low)

pub bounds-slots-base : goal.bounds-slots-base
bounds-slots-base c =
    omega (arith, c.loop-lo.invariant.high, c.requires.ranked.low)

pub overflow_cast-k : goal.overflow_cast-k
overflow_cast-k c =
    let middle-one = middle _ _ _ _ _ c.requires.ranked _ _ _ _
    (c.loop-lo.lo + (c.loop-lo.hi - c.loop-lo.lo) / 2) c.loop-lo.invariant (omega arith)
    (omega arith) in
    omega (arith, middle-one, c.requires.ranked.low)

pub overflow_add-base : goal.overflow_add-base
overflow_add-base c =
    let middle-one = middle _ _ _ _ _ c.requires.ranked _ _ _ _
    (c.loop-lo.lo + (c.loop-lo.hi - c.loop-lo.lo) / 2) c.loop-lo.invariant (omega arith)
    (omega arith) in
    omega (arith, middle-one, c.requires.ranked.low)

pub compare_key-side-requires : goal.compare_key-side-requires
compare_key-side-requires c =
    let middle-one = middle _ _ _ _ _ c.requires.ranked _ _ _ _
    (c.loop-lo.lo + (c.loop-lo.hi - c.loop-lo.lo) / 2) c.loop-lo.invariant (omega arith)
    (omega arith) in
    record {
      k_lt_names_size = omega (arith, middle-one, c.requires.ranked.low);
      wordy = c.requires.wordy;
    }

pub returns-then-side-eq1 : goal.returns-then-side-eq1
returns-then-side-eq1 c =
    spot-taken _ _ _ _ _ c.requires.ranked _ _ _ _ _ c.loop-lo.invariant (omega arith)
    (omega arith) _ c.compare_key-side.ensures c.if-side-eq1.true

pub overflow_add-lo : goal.overflow_add-lo
overflow_add-lo c =
    omega (
      arith,
      c.loop-lo.invariant.high,
      c.requires.ranked.low,
    )

pub loop-lo-smaller-then-side-eq0 : goal.loop-lo-smaller-then-side-eq0
loop-lo-smaller-then-side-eq0 c = omega arith

pub loop-lo-preserved-then-side-eq0 : goal.loop-lo-preserved-then-side-eq0
loop-lo-preserved-then-side-eq0 c =
    upper_half _ _ _ _ _ c.requires.ranked _ _ _ _ _ c.loop-lo.invariant (omega arith)
    (omega arith) _ c.compare_key-side.ensures c.if-side-eq0.true

pub loop-lo-smaller : goal.loop-lo-smaller
loop-lo-smaller c = omega arith

pub loop-lo-preserved : goal.loop-lo-preserved
loop-lo-preserved c =
    lower_half _ _ _ _ _ c.requires.ranked _ _ _ _ _ c.loop-lo.invariant (omega arith)
    (omega arith) _ c.compare_key-side.ensures c.if-side-eq1.false c.if-side-eq0.false

pub returns : goal.returns
returns c =
    spot-free _ _ _ _ _ c.requires.ranked _ _ _ _ c.loop-lo.invariant (omega arith)

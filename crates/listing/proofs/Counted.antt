-- A text that is read is short, and declares no more units and ports than a table may have.
use Prim.Native.Nat.{ℕ, ◌-◌, ◌≤◌}
use mathlib.Core.Path.{◌≡◌, refl}
use mathlib.Core.Bool.{Bool, true, false, not, ◌||◌, cond}
use mathlib.Core.List.{List}
use native.Mathlib.Omega.{arith}
use lib.ListN.{length, get_or}
use lib.Dec.{eqb, ltb}
use borrow.Author.Tests.{ltb-false}
use Rattle.table.specs.Packed.{units, outputs, inputs}
use Rattle.table.specs.Sound.{Sound}
use Rattle.grammar.specs.Quoted.{ascii}
use Rattle.grammar.specs.Words.{lf}
use Rattle.grammar.specs.Rows.{rows, line_of, first_bad}
use Rattle.grammar.specs.Opening.{lines_of}
use Rattle.grammar.specs.Reading.{Reading, reading, line_by_line, stopped}
use Rattle.reading.proofs.Sound.{lines-sound}
use Rattle.reading.specs.Numbers.{numbered}
use Rattle.declarations.specs.Noted.{declared}
use Rattle.declarations.specs.Standing.{declared-all}

module _ (room : ℕ) (t : List ℕ) (e : (reading room t).number ≡ 0) where
  short : length t ≤ 24576
  unfolding reading stopped
  short = go (eqb (length t) 0) (ltb 24576 (length t)) refl (later (get_or t (length t - 1) 0)) e
    where
      later : ℕ → Reading
      later b =
          cond (not (eqb b lf)) (stopped 21 (line_of t (length t)))
          (cond (ltb (first_bad t) (length t)) (stopped 22 (line_of t (first_bad t)))
          (line_by_line room (rows t)))

      go : (a b : Bool) → ltb 24576 (length t) ≡ b → (r : Reading)
          → (cond (a || b) (stopped 20 0) r).number ≡ 0 → length t ≤ 24576
      go true b p r n = absurd (let z : ◌≡◌ {A = ℕ} 20 0 = n in omega arith)
      go false true p r n = absurd (let z : ◌≡◌ {A = ℕ} 20 0 = n in omega arith)
      go false false p r n = omega (arith, ltb-false 24576 (length t) p)

  -- the counts of the table are those of the lines
  table : Sound (numbered (rows t))
  table = lines-sound room t e

  -- ---- no line that declares is left out

  pub all-units : declared (ascii "unit") 32 t ≡ lines_of (rows t) (ascii "unit")
  unfolding numbered units
  all-units = declared-all (ascii "unit") 32 t (omega (arith, short)) table.counted.units-most

  pub all-outputs : declared (ascii "out") 96 t ≡ lines_of (rows t) (ascii "out")
  unfolding numbered outputs
  all-outputs =
      declared-all (ascii "out") 96 t (omega (arith, short)) table.counted.outputs-most

  pub all-inputs : declared (ascii "in") 96 t ≡ lines_of (rows t) (ascii "in")
  unfolding numbered inputs
  all-inputs = declared-all (ascii "in") 96 t (omega (arith, short)) table.counted.inputs-most

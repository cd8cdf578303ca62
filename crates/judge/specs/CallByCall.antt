-- An order judged call by call by a run that is handed on: SPECIFICATION, Judging 2 and 7.
use Rattle.std.specs.Prelude.{◌≡◌, List, [], ◌∷◌, ℕ, ◌<◌, length, get_or, take}
use Rattle.table.specs.Shape.{total}
use Rattle.table.specs.Packed.{shape_of}
use Rattle.table.specs.Sound.{Sound}
use Rattle.judge.specs.declared.Run.{Run}
use Rattle.judge.specs.Taken.{fresh, taken}

-- the run once the calls of a list were put to it, one by one
abbrev pub run_after : List ℕ → Run → List ℕ → Run
run_after t run [] = run
run_after t run (c ∷ l) = run_after t (taken t run c).run l

-- the number that the call at place i is answered, by the run after the calls before it
abbrev pub answered_at : List ℕ → Run → List ℕ → ℕ → ℕ
answered_at t run l i = (taken t (run_after t run (take i l)) (get_or l i 0)).number

-- every call is answered 0, and there are N of them;
-- the table is asked apart from them: of no bytes N is 0, so that no call would be put to it
pub record TakenInTurn (t order : List ℕ) : Type 0 where
  pub sound : Sound t
  pub each : (i : ℕ) → i < length order → answered_at t fresh order i ≡ 0
  pub whole : length order ≡ total (shape_of t)

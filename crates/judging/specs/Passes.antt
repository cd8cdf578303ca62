-- What it is for an order to pass, declared by places: SPECIFICATION, Judging 9.
use Rattle.std.specs.Prelude.{◌≡◌, Bool, not, List, [], ◌∷◌, ℕ, ◌<◌, T, length, get_or, take}
use Rattle.search.specs.Sets.{add}
use Rattle.table.specs.Shape.{Shape, total}
use Rattle.calls.specs.declared.Call.{Call}
use Rattle.calls.specs.declared.Call.TheVariants.{Step, Get, Set, NoCall}
use Rattle.calls.specs.Number.{call_of, step_no, get_no, set_no}

-- what is done once the calls of a list have been, beside what was done before
abbrev pub after : (ℕ → Bool) → List ℕ → ℕ → Bool
after done [] = done
after done (c ∷ l) = after (add c done) l

module _ (s : Shape) where
  -- what a call asks of the calls done, by its kind
  abbrev pub Allows : (ℕ → Bool) → Call → Type 0
  -- no delayed input of the unit is set, and every reactive one is
  Allows done (Step u) =
      ((x : ℕ) → x < s.inputs → s.input_owner x ≡ u → s.kind x ≡ 0 → T (not (done (set_no s x))))
      × ((x : ℕ) → x < s.inputs → s.input_owner x ≡ u → s.kind x ≡ 1 → T (done (set_no s x)))
  -- the output's unit has stepped, and every input that feeds the output is set
  Allows done (Get y) =
      T (done (step_no (s.output_owner y)))
      × ((k : ℕ) → k < s.feeds → s.feed_output k ≡ y → T (done (set_no s (s.feed_input k))))
  -- the input's source has been got
  Allows done (Set x) = T (done (get_no s (s.source x)))
  Allows done NoCall = ⊥

  -- the conditions of a call number: not yet done, and what its kind asks
  abbrev pub Meets : (ℕ → Bool) → ℕ → Type 0
  Meets done c = T (not (done c)) × Allows done (call_of s c)

  -- from what is done on, each call meets its conditions at its place; all N are done at the end;
  -- an order passes from `none`, and then that means that N calls were taken
  pub record Passes (done : ℕ → Bool) (l : List ℕ) : Type 0 where
    pub meets : (i : ℕ) → i < length l → Meets (after done (take i l)) (get_or l i 0)
    pub whole : (c : ℕ) → c < total s → T (after done l c)

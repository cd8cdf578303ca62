-- One line looked at: the places noted after it.
use Rattle.std.specs.Prelude.{ℕ, ◌+◌, ◌≡◌, cond, List, set}
use Rattle.grammar.specs.Rows.{row_at}
use Rattle.declarations.specs.Noted.{opens}

-- place a is noted behind n others where its line opens with w
pub record Turn (w t : List ℕ) (a n : ℕ) (places after : List ℕ) (m : ℕ) : Type 0 where
  pub front : after ≡ cond (opens w (row_at t a)) (set places n a) places
  pub count : m ≡ cond (opens w (row_at t a)) (n + 1) n

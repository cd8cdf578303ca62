-- Waiting counts that fall or rise, each call by its own amount.
use Rattle.std.specs.Prelude.{◌≡◌, Bool, true, ◌&&◌, List, ℕ, ◌+◌, eqb, length, get_or}
use Rattle.table.specs.Packed.{pair_input, pair_output}

-- every place passes
abbrev pub each : ℕ → Bool
each i = true

-- place i of the bytes holds the key
abbrev pub is_key : List ℕ → ℕ → ℕ → Bool
is_key bytes key i = eqb (get_or bytes i 0) key

-- place i of both holds its key
abbrev pub are_keys : List ℕ → ℕ → List ℕ → ℕ → ℕ → Bool
are_keys bytes key others other i = eqb (get_or bytes i 0) key && eqb (get_or others i 0) other

-- pair k is of this input
abbrev pub is_input : List ℕ → ℕ → ℕ → Bool
is_input pairs input k = eqb (pair_input pairs k) input

-- the call that stands at place i
abbrev pub called : List ℕ → ℕ → ℕ
called calls i = get_or calls i 0

-- the get of the output of pair k, where the gets begin at the first
abbrev pub fed : List ℕ → ℕ → ℕ → ℕ
fed pairs first k = first + pair_output pairs k

-- the counts `low` are the counts `high`, less the amount of each call
pub record Less (amount : ℕ → ℕ) (high low : List ℕ) : Type 0 where
  pub long : length low ≡ length high
  pub less : (c : ℕ) → get_or low c 0 + amount c ≡ get_or high c 0

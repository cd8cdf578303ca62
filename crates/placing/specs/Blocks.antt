-- The blocks of a part in which a key stands, a bit for each.
use Rattle.std.specs.Prelude.{◌≡◌, List, ℕ, ◌+◌, ◌/◌, ◌<◌, length, get_or}
use Rattle.bits.specs.Digits.{bit}
use Rattle.table.specs.Packed.{outputs, inputs, feeds, output_owners, input_owners}
use Rattle.table.specs.Packed.{sources, pairs, pair_input}

-- block b is noted
abbrev pub Block : ℕ → ℕ → Type 0
Block notes b = bit notes b ≡ 1

-- the blocks of the first n places are noted at their keys, from bit `low` on; what was noted stays
pub record Noting (key : ℕ → ℕ) (size low n : ℕ) (old new : List ℕ) : Type 0 where
  pub long : length new ≡ length old
  pub kept : (k b : ℕ) → Block (get_or old k 0) b → Block (get_or new k 0) b
  pub noted : (i : ℕ) → i < n → Block (get_or new (key i) 0) (low + i / size)

-- ---- what is noted of a table: at each unit the blocks of 24 outputs and of 24 inputs that have
-- one of its own; at each input and output the blocks of 32 feeds and of 24 inputs that name it
pub record Owned (t own : List ℕ) : Type 0 where
  pub long : length own ≡ 32
  pub gets : (y : ℕ) → y < outputs t → Block (get_or own (get_or (output_owners t) y 0) 0) (y / 24)
  pub sets : (x : ℕ) → x < inputs t
      → Block (get_or own (get_or (input_owners t) x 0) 0) (4 + x / 24)

pub record Joined (t mask : List ℕ) : Type 0 where
  pub long : length mask ≡ 96
  pub gets : (k : ℕ) → k < feeds t → Block (get_or mask (pair_input (pairs t) k) 0) (k / 32)
  pub sets : (x : ℕ) → x < inputs t → Block (get_or mask (get_or (sources t) x 0) 0) (4 + x / 24)

-- Arrays as they are made.
use mathlib.Core.Path.{◌≡◌}
use Prim.Native.Nat.{ℕ}
use native.Mathlib.Omega.{arith}
use native.Mathlib.Decide.{dec_lt}
use lib.ListN.{get_or, replicate, length-replicate, get_or-replicate, get_or-eq_default}

-- an array of zeros
pub zeros : (n c : ℕ) → ◌≡◌ {A = ℕ} (get_or (replicate n 0) c 0) 0
zeros n c = elim (dec_lt c n) [
  | yes h ↦ get_or-replicate {A = ℕ} n c 0 0 h
  | no h ↦
      get_or-eq_default {A = ℕ} (replicate n 0) 0 {n = c}
      (rw (length-replicate {A = ℕ} n 0) (omega arith))
]

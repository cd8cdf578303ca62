-- Bytes put into a lent buffer: what it holds afterwards, and the place behind them.
use Rattle.std.specs.Prelude.{ℕ, ◌+◌, ◌≡◌, Bool, cond, List, ◌++◌, length, take, drop, leb}

-- the bytes s stand over those from place at on
unfoldable pub over : List ℕ → ℕ → List ℕ → List ℕ
over out at s = take at out ++ (s ++ drop (at + length s) out)

-- there is room for the bytes s from place at on
unfoldable pub fits : List ℕ → ℕ → List ℕ → Bool
fits out at s = leb (at + length s) (length out)

-- what the buffer holds: bytes that do not fit leave it as it was
unfoldable pub wrote : List ℕ → ℕ → List ℕ → List ℕ
wrote out at s = cond (fits out at s) (over out at s) out

-- the place behind the bytes, or the place given where they do not fit
unfoldable pub behind : List ℕ → ℕ → List ℕ → ℕ
behind out at s = cond (fits out at s) (at + length s) at

-- putting the bytes s leaves the buffer after, and answers place k
pub record Put (out : List ℕ) (at : ℕ) (s after : List ℕ) (k : ℕ) : Type 0 where
  pub bytes : after ≡ wrote out at s
  pub place : k ≡ behind out at s

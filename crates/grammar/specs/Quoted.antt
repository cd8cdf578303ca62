-- Quoted text as its bytes.
use Rattle.std.specs.Prelude.{ℕ, List, [], ◌∷◌}
use Prim.Native.Char.{code}
use Prim.Native.String.{String, [] as nothing, ◌∷◌ as ◌then◌}

-- the bytes of an ASCII text
abbrev pub ascii : String → List ℕ
ascii nothing = []
ascii (c then s) = code c ∷ ascii s

-- A set of numbers below 256 as the bits of four words.
use Rattle.std.specs.Prelude.{
  ℕ,
  ◌/◌,
  ◌%◌,
  ◌^◌,
  ◌<◌,
  ◌≡◌,
  Bool,
  not,
  ◌&&◌,
  cond,
  List,
  [],
  ◌∷◌,
  length,
  get_or,
  set,
  eqb,
  ltb,
}
use Rattle.std.specs.Int.Bits.{bit_or, bit_xor}

-- c is one of the set that the words hold
unfoldable pub has : List ℕ → ℕ → Bool
has words c = ltb c 256 && eqb (get_or words (c / 64) 0 / 2 ^ (c % 64) % 2) 1

-- the words with the bit of c set
unfoldable pub put : List ℕ → ℕ → List ℕ
put words c =
    cond (ltb c 256) (set words (c / 64) (bit_or (get_or words (c / 64) 0) (2 ^ (c % 64)))) words

-- the words with the bit of c clear: set, then turned
unfoldable pub drop : List ℕ → ℕ → List ℕ
drop words c =
    cond (ltb c 256)
    (set words (c / 64) (bit_xor (bit_or (get_or words (c / 64) 0) (2 ^ (c % 64))) (2 ^ (c % 64))))
    words

-- four words of 0: no number
abbrev pub empty : List ℕ
empty = 0 ∷ 0 ∷ 0 ∷ 0 ∷ []

-- four words of 64 bits
pub record Words (words : List ℕ) : Type 0 where
  pub long : length words ≡ 4
  pub small : (i : ℕ) → i < 4 → get_or words i 0 < 2 ^ 64

-- all of q but c
abbrev pub without : ℕ → (ℕ → Bool) → ℕ → Bool
without c q x = not (eqb x c) && q x

-- Laws of the search for the calls that wait for none before any is placed.
use mathlib.Core.Path.{◌≡◌, refl, ap, ◌∙◌}
use mathlib.Core.Logic.{◌≢◌}
use mathlib.Core.Bool.{◌&&◌}
use mathlib.Core.List.{List}
use Prim.Native.Nat.{ℕ, ◌+◌, ◌<◌}
use native.Mathlib.Omega.{arith}
use native.Mathlib.Decide.{ℕ_discrete, dec_lt}
use lib.Dec.{eqb, ltb}
use lib.ListN.{get_or}
use borrow.Author.Tests.{lt-ltb, le-ltb, eq-eqb, ne_eqb}
use Rattle.search.specs.Sets.{none}
use Rattle.bits.specs.Bits.{has, put, Words}
use Rattle.bits.specs.Laws.{put_has, put-words}

-- the bits of the calls below n that wait for none
pub record Found (counts : List ℕ) (n : ℕ) (bits : List ℕ) : Type 0 where
  pub words : Words bits
  pub are : (c : ℕ) → has bits c ≡ (ltb c n && eqb (get_or counts c 0) 0)

module _ (counts bits : List ℕ) where
  pub found_starts : Words bits → has bits ≡ none → Found counts 0 bits
  found_starts w e = record {
    words = w;
    are = λ c. ap (λ q. q c) e ∙ rw (le-ltb c 0 (omega arith));
  }

  module _ (n : ℕ) where
    -- below n + 1 stands n, and what stood below n
    before : (c : ℕ) → c ≢ n → ltb c (n + 1) ≡ ltb c n
    before c ne = elim (dec_lt c n) [
      | yes h ↦ rw (lt-ltb c n h, lt-ltb c (n + 1) (omega arith))
      | no h ↦ rw (le-ltb c n (omega arith), le-ltb c (n + 1) (omega arith))
    ]

    pub found_on : n < 224 → get_or counts n 0 ≡ 0 → Found counts n bits
        → Found counts (n + 1) (put bits n)
    found_on h z g = record {
      words = put-words bits n (omega arith) g.words;
      are = λ c. ap (λ q. q c) (put_has bits n (omega arith) g.words)
          ∙ elim (ℕ_discrete c n) [
            | yes e ↦ rw (e, eq-eqb n n refl, lt-ltb n (n + 1) (omega arith), z)
            | no ne ↦ rw (ne_eqb c n ne, before c ne) (g.are c)
          ];
    }

    pub found-not : (get_or counts n 0 ≡ 0 → ⊥) → Found counts n bits → Found counts (n + 1) bits
    found-not z g = record {
      words = g.words;
      are = λ c. g.are c
          ∙ elim (ℕ_discrete c n) [
            | yes e ↦
                rw (
                  e,
                  le-ltb n n (omega arith),
                  lt-ltb n (n + 1) (omega arith),
                  ne_eqb (get_or counts n 0) 0 z,
                )
            | no ne ↦ rw (before c ne)
          ];
    }

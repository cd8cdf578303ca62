-- Laws of loops that lower or raise waiting counts.
use mathlib.Core.Path.{◌≡◌, refl, sym, ◌∙◌}
use mathlib.Core.Logic.{◌≢◌}
use mathlib.Core.Bool.{Bool, true, false, not, ◌&&◌}
use mathlib.Core.List.{List}
use Prim.Native.Nat.{ℕ, zero, suc, ◌+◌, ◌≤◌, ◌<◌}
use native.Mathlib.Numerals.{add-one}
use native.Mathlib.Omega.{arith}
use native.Mathlib.Decide.{ℕ_discrete}
use lib.Dec.{T, eqb, eqb_refl}
use lib.ListN.{length, get_or, set, length-set}
use lib.Seq.{get_or-set_same, get_or-set_other}
use Rattle.search.specs.Truth.{is_true, is_false, eq_false}
use Rattle.search.specs.Count.{bit, count}
use Rattle.calls.specs.Hits.{hits}
use Rattle.placing.specs.Less.{Less}

module _ (q : ℕ → Bool) (at : ℕ → ℕ) where
  pub hits-none : (c : ℕ) → hits q at 0 c ≡ 0
  unfolding hits count
  hits-none c = refl

  -- one that does not pass changes nothing
  pub hits_miss : (n c : ℕ) → T (not (q n)) → hits q at (n + 1) c ≡ hits q at n c
  unfolding hits count bit
  hits_miss n c t = rw (add-one, is_false (q n) t) (omega arith)

  -- one that passes counts one more at its own call, and nothing elsewhere
  pub hits_hit : (n c : ℕ) → T (q n) → at n ≡ c → hits q at (n + 1) c ≡ suc (hits q at n c)
  unfolding hits count bit
  hits_hit n c t e = rw (add-one, is_true (q n) t, e, is_true (eqb c c) (eqb_refl c)) (omega arith)

  pub hits_on : (n c : ℕ) → T (q n) → hits q at (n + 1) c ≡ hits q at n c + bit (eqb (at n) c)
  unfolding hits count
  hits_on n c t = rw (add-one, is_true (q n) t) (omega arith)

  pub hits-other : (n c : ℕ) → at n ≢ c → hits q at (n + 1) c ≡ hits q at n c
  unfolding hits count bit
  hits-other n c ne = rw (add-one, is_false (eqb (at n) c) (eq_false (at n) c ne)) (go (q n))
    where
      go : (b : Bool) → bit (b && false) + count (λ i. q i && eqb (at i) c) n
          ≡ count (λ i. q i && eqb (at i) c) n
      go true = omega arith
      go false = omega arith

  pub hits_more : (k n c : ℕ) → k ≤ n → hits q at k c ≤ hits q at n c
  unfolding hits count
  hits_more zero zero c h = omega arith
  hits_more (suc k) zero c h = absurd (omega arith)
  hits_more k (suc n) c h = elim (ℕ_discrete k (suc n)) [
    | yes e ↦ rw e (omega arith)
    | no ne ↦ omega (arith, hits_more k n c (omega arith))
  ]

-- ---- a loop that lowers one count for each that passes

pub less_none : (q : ℕ → Bool) (at : ℕ → ℕ) (w : List ℕ) → Less (hits q at 0) w w
less_none q at w = record { long = refl; less = λ c. omega (arith, hits-none q at c) }

pub less_as : (a b : ℕ → ℕ) (high low : List ℕ) → ((c : ℕ) → a c ≡ b c) → Less a high low
    → Less b high low
less_as a b high low e l = record { long = l.long; less = λ c. omega (arith, l.less c, e c) }

module _ (q : ℕ → Bool) (at : ℕ → ℕ) (k : ℕ) where
  pub less_miss : (high low : List ℕ) → T (not (q k)) → Less (hits q at k) high low
      → Less (hits q at (k + 1)) high low
  less_miss high low t =
      less_as (hits q at k) (hits q at (k + 1)) high low (λ c. sym (hits_miss q at k c t))

  pub lower_some : (n : ℕ) (high low : List ℕ) → k < n → T (q k)
      → ((c : ℕ) → hits q at n c ≤ get_or high c 0) → Less (hits q at k) high low
      → 0 < get_or low (at k) 0
  lower_some n high low h t enough l =
      omega (
        arith,
        l.less (at k),
        enough (at k),
        hits_hit q at k (at k) t refl,
        hits_more q at (k + 1) n (at k) (omega arith),
      )

  -- ---- a loop that raises one count for each that passes
  pub raise_room : (n : ℕ) (high low : List ℕ) → k < n → T (q k)
      → ((c : ℕ) → get_or low c 0 + hits q at n c ≤ 255) → Less (hits q at k) high low
      → get_or high (at k) 0 < 255
  raise_room n high low h t room l =
      omega (
        arith,
        l.less (at k),
        room (at k),
        hits_hit q at k (at k) t refl,
        hits_more q at (k + 1) n (at k) (omega arith),
      )

  pub raise_hit : (high low : List ℕ) → T (q k) → at k < length low → Less (hits q at k) high low
      → Less (hits q at (k + 1)) (set high (at k) (get_or high (at k) 0 + 1)) low
  raise_hit high low t i l = record {
    long = l.long ∙ sym (length-set high (at k) (get_or high (at k) 0 + 1));
    less = λ c. elim (ℕ_discrete c (at k)) [
      | yes e ↦
          rw (e, get_or-set_same high (at k) (get_or high (at k) 0 + 1) 0 (omega (arith, l.long)))
          (omega (arith, l.less (at k), hits_hit q at k (at k) t refl))
      | no ne ↦
          rw (get_or-set_other high (at k) c (get_or high (at k) 0 + 1) 0 ne)
          (omega (arith, l.less c, hits-other q at k c (λ e. ne (sym e))))
    ];
  }

-- What the words hold after a number is put in or taken out, and which is the lowest.
use Rattle.std.specs.Prelude.{
  ℕ,
  zero,
  suc,
  ◌+◌,
  ◌*◌,
  ◌/◌,
  ◌%◌,
  ◌^◌,
  ◌<◌,
  ◌≤◌,
  ◌≡◌,
  refl,
  Bool,
  false,
  ◌&&◌,
  ◌||◌,
  List,
  get_or,
  set,
  T,
  eqb,
  ltb,
}
use Rattle.std.proofs.Common.{sym, ap, ◌∙◌, length-set, lit<}
use Rattle.std.proofs.Math.Path.{fun_ext}
use Rattle.std.proofs.Math.Bool.{not, and-false}
use native.Mathlib.Omega.{arith}
use Rattle.std.proofs.Math.Nat.{zero-div}
use Rattle.std.proofs.Math.Decide.{dec_lt, ℕ_discrete}
use Rattle.std.proofs.Math.Seq.{get_or-set_same, get_or-set_other}
use Rattle.std.specs.Int.Bits.{bit_or, bit_xor}
use Rattle.std.proofs.lemmas.Nat.{or_lt, xor_lt}
use Rattle.std.proofs.lemmas.Nat.Bits.{bit_at-trailing_zeros}
use mir.Syntax.{w64}
use Rattle.std.specs.Int.Count.{count_trailing_zeros, trailing_of_zero}
use Rattle.std.proofs.Math.Pow.{pow-lt}
use borrow.Author.Tests.{eq-eqb, ne_eqb, lt-ltb, le-ltb}
use Rattle.search.specs.Sets.{none, add}
use Rattle.search.specs.Least.{least_from, found, not_found}
use Rattle.bits.specs.Bits.{has, put, drop, empty, Words, without}
use Rattle.bits.specs.Digits.{bit, bit-put, bit-drop, one_bit, trailing_zero, trailing_one}

-- ---- one word changed
pub set_words : (ws : List ℕ) (i v : ℕ) → i < 4 → v < 2 ^ 64 → Words ws → Words (set ws i v)
set_words ws i v h s w = record {
  long = length-set ws i v ∙ w.long;
  small = λ j hj. elim (ℕ_discrete j i) [
    | yes e ↦ rw (e, get_or-set_same ws i v 0 (omega (arith, w.long))) s
    | no e ↦ rw (get_or-set_other ws i j v 0 e) (w.small j hj)
  ];
}

same_place : (c d : ℕ) → d / 64 ≡ c / 64 → eqb (d % 64) (c % 64) ≡ eqb d c
same_place c d e = elim (ℕ_discrete d c) [
  | yes q ↦ rw (q, eq-eqb (c % 64) (c % 64) refl, eq-eqb c c refl)
  | no q ↦ rw (ne_eqb d c q, ne_eqb (d % 64) (c % 64) (λ r. q (omega arith)))
]

module _ (ws : List ℕ) (c v : ℕ) (g : Bool → Bool → Bool) (hc : c < 256) (w : Words ws)
    (here : (j : ℕ) → eqb (bit v j) 1 ≡ g (eqb j (c % 64)) (eqb (bit (get_or ws (c / 64) 0) j) 1))
    (other : (b : Bool) → g false b ≡ b) where
  set-has : (d : ℕ) → has (set ws (c / 64) v) d ≡ g (eqb d c) (has ws d)
  unfolding has
  set-has d = elim (dec_lt d 256) [
    | no n ↦ rw (le-ltb d 256 (omega arith), ne_eqb d c (λ q. n (omega arith))) (sym (other false))
    | yes hd ↦ elim (ℕ_discrete (d / 64) (c / 64)) [
      | yes e ↦
          rw (
            lt-ltb d 256 hd,
            e,
            get_or-set_same ws (c / 64) v 0 (omega (arith, w.long)),
            here (d % 64),
            same_place c d e,
          )
      | no e ↦
          rw (
            lt-ltb d 256 hd,
            get_or-set_other ws (c / 64) (d / 64) v 0 e,
            ne_eqb d c (λ q. e (ap (λ (x : ℕ). x / 64) q)),
          )
          (sym (other _))
    ]
  ]

-- ---- put in, taken out
module _ (ws : List ℕ) (c : ℕ) (h : c < 256) (w : Words ws) where
  word : get_or ws (c / 64) 0 < 2 ^ 64
  word = w.small (c / 64) (omega arith)

  pow_small : 2 ^ (c % 64) < 2 ^ 64
  pow_small = let g : c % 64 < 64 = omega arith in pow-lt g

  pub put-words : Words (put ws c)
  unfolding put
  put-words =
      rw (lt-ltb c 256 h) (set_words ws (c / 64) _ (omega arith) (or_lt 64 _ _ word pow_small) w)

  pub put_has : has (put ws c) ≡ add c (has ws)
  unfolding put
  put_has =
      fun_ext
      (λ d.
      rw (lt-ltb c 256 h)
      (set-has ws c (bit_or (get_or ws (c / 64) 0) (2 ^ (c % 64))) (λ a b. a || b) h w
      (λ j. bit-put (get_or ws (c / 64) 0) (c % 64) j) (λ b. refl) d))

  pub drop-words : Words (drop ws c)
  unfolding drop
  drop-words =
      rw (lt-ltb c 256 h)
      (set_words ws (c / 64) _ (omega arith)
      (xor_lt 64 _ _ (or_lt 64 _ _ word pow_small) pow_small) w)

  pub drop-has : has (drop ws c) ≡ without c (has ws)
  unfolding drop
  drop-has =
      fun_ext
      (λ d.
      rw (lt-ltb c 256 h)
      (set-has ws c (bit_xor (bit_or (get_or ws (c / 64) 0) (2 ^ (c % 64))) (2 ^ (c % 64)))
      (λ a b. not a && b) h w (λ j. bit-drop (get_or ws (c / 64) 0) (c % 64) j) (λ b. refl) d))

-- ---- what the code reads and writes
module _ (ws : List ℕ) (c : ℕ) where
  pub has_out : 256 ≤ c → false ≡ has ws c
  unfolding has
  has_out h = rw (le-ltb c 256 h)

  pub has_in : c < 256 → eqb (get_or ws (c / 64) 0 / 2 ^ (c % 64) % 2) 1 ≡ has ws c
  unfolding has
  has_in h = rw (lt-ltb c 256 h)

  pub put_out : 256 ≤ c → ws ≡ put ws c
  unfolding put
  put_out h = rw (le-ltb c 256 h)

  pub put_in : c < 256
      → set ws (c / 64) (bit_or (get_or ws (c / 64) 0) (1 * 2 ^ (c % 64) % 2 ^ 64)) ≡ put ws c
  unfolding put
  put_in h = rw (lt-ltb c 256 h, one_bit (c % 64) (omega arith))

  pub drop_out : 256 ≤ c → ws ≡ drop ws c
  unfolding drop
  drop_out h = rw (le-ltb c 256 h)

  pub drop_in : c < 256
      → set ws (c / 64)
      (bit_xor (bit_or (get_or ws (c / 64) 0) (1 * 2 ^ (c % 64) % 2 ^ 64))
      (1 * 2 ^ (c % 64) % 2 ^ 64))
      ≡ drop ws c
  unfolding drop
  drop_in h = rw (lt-ltb c 256 h, one_bit (c % 64) (omega arith))

-- ---- the lowest: the words before word i hold none
module _ (ws : List ℕ) where
  -- none of the numbers below n
  abbrev pub Clear : ℕ → Type 0
  Clear n = (k : ℕ) → k < n → T (not (has ws k))

  not_in : (i k : ℕ) → k / 64 ≡ i → bit (get_or ws i 0) (k % 64) ≡ 0 → T (not (has ws k))
  unfolding has
  not_in i k e z = rw (e, z, and-false (ltb k 256)) tt

  pub clear_starts : Clear (64 * 0)
  clear_starts k h = absurd (omega arith)

  pub clear_on : (i : ℕ) → Clear (64 * i) → 64 ≤ count_trailing_zeros 64 (get_or ws i 0)
      → Clear (64 * (i + 1))
  clear_on i l z k h = elim (dec_lt k (64 * i)) [
    | yes p ↦ l k p
    | no p ↦
        let j : k % 64 < 64 = omega arith in
        not_in i k (omega arith) (trailing_zero 64 (get_or ws i 0) (k % 64) (omega arith))
  ]

  pub clear-found : (i : ℕ) → i < 4 → Clear (64 * i) → count_trailing_zeros 64 (get_or ws i 0) < 64
      → 64 * i + count_trailing_zeros 64 (get_or ws i 0) ≡ least_from (has ws) 256 0
  unfolding has
  clear-found i h l small =
      let t = count_trailing_zeros 64 (get_or ws i 0) in
      let word : (64 * i + t) / 64 ≡ i = omega arith in
      let place : (64 * i + t) % 64 ≡ t = omega arith in
      found (has ws) 256 (64 * i + t) (omega arith)
      (λ k g. elim (dec_lt k (64 * i)) [
        | yes q ↦ l k q
        | no q ↦
            let j : k % 64 < t = omega arith in
            not_in i k (omega arith) (trailing_zero 64 (get_or ws i 0) (k % 64) j)
      ])
      (rw (
        lt-ltb (64 * i + t) 256 (omega arith),
        word,
        place,
        trailing_one 64 (get_or ws i 0) small,
      ) tt)

  pub clear-ends : (i : ℕ) → 4 ≤ i → Clear (64 * i) → 256 ≡ least_from (has ws) 256 0
  clear-ends i h l =
      not_found (has ws) 256 256 (omega arith) (omega arith) (λ k g. l k (omega arith))

  -- the same of word i as a number: 0, or with the lowest member; and of all four
  pub word_none : (i : ℕ) → Clear (64 * i) → get_or ws i 0 ≡ 0 → Clear (64 * (i + 1))
  word_none i l z =
      clear_on i l (let e = trailing_of_zero 64 in omega (arith, rw (← z) at e))

  pub word-found : Words ws → (i : ℕ) → i < 4 → Clear (64 * i) → (get_or ws i 0 ≡ 0 → ⊥)
      → (64 * i + count_trailing_zeros 64 (get_or ws i 0) < 256)
      × (least_from (has ws) 256 0 ≡ 64 * i + count_trailing_zeros 64 (get_or ws i 0))
  word-found w i h l n =
      let small = (bit_at-trailing_zeros w64 (get_or ws i 0) (omega arith) (w.small i h)).0 in
      (omega (arith, small), sym (clear-found i h l small))

  pub words_none : (i : ℕ) → 4 ≤ i → Clear (64 * i) → least_from (has ws) 256 0 ≡ 256
  words_none i h l = sym (clear-ends i h l)

-- ---- four words of 0 hold none
empty-word : (i : ℕ) → get_or empty i 0 ≡ 0
empty-word zero = refl
empty-word (suc zero) = refl
empty-word (suc (suc zero)) = refl
empty-word (suc (suc (suc zero))) = refl
empty-word (suc (suc (suc (suc i)))) = refl

pub empty-words : Words empty
empty-words = record { long = refl; small = λ i h. rw (empty-word i) (lit< tt) }

pub empty-has : has empty ≡ none
unfolding has
empty-has = fun_ext (λ d. rw (empty-word (d / 64), zero-div (2 ^ (d % 64)), and-false (ltb d 256)))

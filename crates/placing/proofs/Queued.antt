-- When two queues are the same.
use mathlib.Core.Path.{◌≡◌, refl, sym, ap, ap₂, ◌∙◌, fun_ext}
use mathlib.Core.List.{List}
use Prim.Native.Nat.{ℕ, zero, suc, ◌+◌, ◌*◌, ◌/◌, ◌%◌, ◌<◌}
use native.Mathlib.Omega.{arith}
use native.Mathlib.Decide.{dec_lt}
use lib.Dec.{eqb}
use lib.ListN.{get_or}
use lib.Seq.{ext_get_or}
use Rattle.std.specs.Int.{bit_at}
use Rattle.std.proofs.lemmas.Nat.Bits.{bit_at-lt, same_from_bits_below}
use Rattle.search.specs.Sets.{none}
use Rattle.search.specs.Least.{least_from, lowest-is}
use Rattle.search.specs.Truth.{is_false}
use Rattle.bits.specs.Bits.{has, Words}
use Rattle.bits.specs.Laws.{has_in, has_out}
use Rattle.bits.specs.declared.Bits.{Bits}
use Rattle.bits.proofs.Sets.{one_set}
use Rattle.placing.specs.declared.queue.Queue.{Queue}

-- a set without a lowest member has none
pub none-found : (ws : List ℕ) → least_from (has ws) 256 0 ≡ 256 → has ws ≡ none
none-found ws e =
    fun_ext
    (λ c. elim (dec_lt c 256) [
      | yes h ↦ is_false (has ws c) ((lowest-is (has ws) 256).below c (omega (arith, e)))
      | no h ↦ sym (has_out ws c (omega arith))
    ])

-- sets with the same members are the same
same_digit : (x y : ℕ) → x < 2 → y < 2 → eqb x 1 ≡ eqb y 1 → x ≡ y
same_digit zero zero h k e = refl
same_digit zero (suc zero) h k e = absurd (cc)
same_digit (suc zero) zero h k e = absurd (cc)
same_digit (suc zero) (suc zero) h k e = refl
same_digit (suc (suc x)) y h k e = absurd (omega arith)
same_digit x (suc (suc y)) h k e = absurd (omega arith)

module _ (a b : List ℕ) (u : Words a) (v : Words b) (e : has a ≡ has b) where
  same_bit : (i j : ℕ) → i < 4 → j < 64 → bit_at (get_or a i 0) j ≡ bit_at (get_or b i 0) j
  same_bit i j h k =
      let c = 64 * i + j in
      let word : c / 64 ≡ i = omega arith in
      let place : c % 64 ≡ j = omega arith in
      let small : c < 256 = omega arith in
      same_digit (bit_at (get_or a i 0) j) (bit_at (get_or b i 0) j) (bit_at-lt _ j) (bit_at-lt _ j)
      (rw (word, place) at (has_in a c small ∙ ap (λ q. q c) e ∙ sym (has_in b c small)))

  one_words : a ≡ b
  one_words =
      ext_get_or 0 a b (u.long ∙ sym v.long)
      (λ i h.
      let few : i < 4 = omega (arith, u.long) in
      same_from_bits_below 64 (get_or a i 0) (get_or b i 0) (u.small i few) (v.small i few)
      (λ j k. same_bit i j few k))

abbrev queue : List ℕ → Bits → Queue
queue counts bits = record { waiting = counts; ready = bits }

pub one_queue : (a b : Queue) → a.waiting ≡ b.waiting → has a.ready.words ≡ has b.ready.words
    → a ≡ b
one_queue a b e f =
    ap₂ queue e
    (one_set a.ready b.ready
    (one_words a.ready.words b.ready.words a.ready.whole b.ready.whole f))

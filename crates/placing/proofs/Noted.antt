-- Laws of blocks that are noted one after the other.
use mathlib.Core.Path.{◌≡◌, refl, sym, subst, ◌∙◌}
use mathlib.Core.List.{List}
use Prim.Native.Nat.{ℕ, ◌+◌, ◌/◌, ◌%◌, ◌^◌, ◌*◌, ◌≤◌, ◌<◌}
use native.Mathlib.Omega.{arith}
use native.Mathlib.Decide.{ℕ_discrete}
use native.Mathlib.Nat.{one-mul}
use Rattle.std.proofs.Math.Nat.{div-lt_iff_lt-mul}
use lib.Dec.{T, eqb, eqb→eq, eqb_refl, lit<}
use lib.Bits.{bit_or}
use lib.Pow.{shl_exact}
use lib.ListN.{length, get_or, set, length-set}
use lib.Seq.{get_or-set_same, get_or-set_other}
use Rattle.search.specs.Truth.{eq_true, or_left, or_right}
use Rattle.bits.specs.Digits.{bit, bit-put}
use Rattle.placing.specs.Blocks.{Block, Noting}

-- a one shifted within a byte is a power of two
pub byte-bit : (k : ℕ) → k < 8 → 1 * 2 ^ k % 2 ^ 8 ≡ 2 ^ k
byte-bit k h = shl_exact 1 k 8 (lit< tt) (omega arith) ∙ one-mul (2 ^ k)

-- a place of the first four blocks has its bit within a byte
pub bit_fits : (low size n i : ℕ) → low ≤ 4 → n ≤ 4 * size → i < n → low + i / size < 8
bit_fits low size n i h k l =
    let some : 0 < size = omega arith in
    omega (arith, (div-lt_iff_lt-mul {k = size} {x = i} {y = 4} some).1 (omega arith))

-- ---- one more block noted
block_kept : (n i b : ℕ) → Block n b → Block (bit_or n (2 ^ i)) b
block_kept n i b h =
    eqb→eq (bit (bit_or n (2 ^ i)) b) 1
    (subst T (sym (bit-put n i b)) (or_right (eqb b i) (eqb (bit n b) 1) (eq_true (bit n b) 1 h)))

block_put : (n i : ℕ) → Block (bit_or n (2 ^ i)) i
block_put n i =
    eqb→eq (bit (bit_or n (2 ^ i)) i) 1
    (subst T (sym (bit-put n i i)) (or_left (eqb i i) (eqb (bit n i) 1) (eqb_refl i)))

module _ (key : ℕ → ℕ) (size low : ℕ) where
  pub noting_starts : (notes : List ℕ) → Noting key size low 0 notes notes
  noting_starts notes = record {
    long = refl;
    kept = λ k b h. h;
    noted = λ i h. absurd (omega arith);
  }

  module _ (n : ℕ) (old new : List ℕ) (fits : key n < length new)
      (g : Noting key size low n old new) where
    abbrev value : ℕ
    value = bit_or (get_or new (key n) 0) (2 ^ (low + n / size))

    stays : (k b : ℕ) → Block (get_or new k 0) b → Block (get_or (set new (key n) value) k 0) b
    stays k b h = elim (ℕ_discrete k (key n)) [
      | yes e ↦
          rw (e, get_or-set_same new (key n) value 0 fits)
          (block_kept (get_or new (key n) 0) (low + n / size) b
          (subst (λ z. Block (get_or new z 0) b) e h))
      | no ne ↦ rw (get_or-set_other new (key n) k value 0 ne) h
    ]

    pub noting_on : Noting key size low (n + 1) old (set new (key n) value)
    noting_on = record {
      long = length-set new (key n) value ∙ g.long;
      kept = λ k b h. stays k b (g.kept k b h);
      noted = λ i h. elim (ℕ_discrete i n) [
        | yes e ↦
            rw (e, get_or-set_same new (key n) value 0 fits)
            (block_put (get_or new (key n) 0) (low + n / size))
        | no ne ↦ stays (key i) (low + i / size) (g.noted i (omega arith))
      ];
    }

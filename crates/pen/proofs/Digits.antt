-- A number spelled from its last digit: what is left to spell goes before the digits there are.
use Prim.Native.Nat.{ℕ, suc, ◌+◌, ◌-◌, ◌/◌, ◌%◌, ◌^◌, ◌≤◌, ◌<◌}
use mathlib.Core.Path.{◌≡◌, refl, sym, ap, ◌∙◌}
use mathlib.Core.List.{List, [], ◌∷◌}
use native.Mathlib.Omega.{arith}
use lib.ListN.{length, take, drop, set, length-set, length-drop, drop_of_length-le}
use lib.Seq.{drop-cons, get_or-set_same, drop-set-lt, take_all}
use borrow.Author.Tests.{lt-ltb, le-ltb}
use Rattle.pen.specs.Decimal.{spell, decimal}
use Rattle.pen.specs.Chain.{tenth_below}

-- m is left to spell, in at most suc i digits, before the digits s
pub record Spelling (n i m : ℕ) (s : List ℕ) : Type 0 where
  pub all : length s + suc i ≡ 20
  pub small : m < 10 ^ suc i
  pub left : decimal n ≡ spell (suc i) m s

pub spelling_starts : (n : ℕ) → n < 2 ^ 64 → Spelling n 19 n []
unfolding decimal
spelling_starts n h = record { all = refl; small = omega arith; left = refl }

module _ {n i m : ℕ} {s : List ℕ} (p : Spelling n i m s) where
  pub spelling_some : 10 ≤ m → 0 < i
  spelling_some h = go (tenth_below i m h p.small)
    where
      go : (j : ℕ) × (i ≡ suc j) × (m / 10 < 10 ^ suc j) → 0 < i
      go (j, e, q) = omega arith

  pub spelling_on : 10 ≤ m → Spelling n (i - 1) (m / 10) ((48 + m % 10) ∷ s)
  unfolding spell
  spelling_on h = go (tenth_below i m h p.small)
    where
      go : (j : ℕ) × (i ≡ suc j) × (m / 10 < 10 ^ suc j)
          → Spelling n (i - 1) (m / 10) ((48 + m % 10) ∷ s)
      go (j, e, q) =
          let z : i - 1 ≡ j = omega arith in
          rw z (record {
            all = omega (arith, p.all);
            small = q;
            left = p.left
                ∙ rw (le-ltb m 10 h, e);
          })

  pub spelling_ends : m < 10 → decimal n ≡ (48 + m) ∷ s
  unfolding spell
  spelling_ends h = p.left ∙ rw (lt-ltb m 10 h)

-- a digit stored in front of those that are there
push : (b : List ℕ) (i v : ℕ) → i < length b → drop i (set b i v) ≡ v ∷ drop (suc i) b
push b i v h =
    drop-cons (set b i v) i 0 (rw (length-set b i v) h)
    ∙ ap {B = List ℕ} (λ x. x ∷ drop (suc i) (set b i v)) (get_or-set_same b i v 0 h)
    ∙ ap {B = List ℕ} (λ x. v ∷ x) (drop-set-lt (suc i) b i v (omega arith))

-- the digits behind place i of the array are there
pub record Stored (n : ℕ) (b : List ℕ) (i m : ℕ) : Type 0 where
  pub room : length b ≡ 20
  pub within : i < 20
  pub left : Spelling n i m (drop (suc i) b)

pub stored_starts : (n : ℕ) (b : List ℕ) → length b ≡ 20 → n < 2 ^ 64 → Stored n b 19 n
stored_starts n b l h =
    record {
      room = l;
      within = omega arith;
      left = rw (drop_of_length-le b {i = 20} (omega arith))
          (spelling_starts n h);
    }

module _ {n : ℕ} {b : List ℕ} {i m : ℕ} (p : Stored n b i m) where
  pub stored_on : 10 ≤ m → Stored n (set b i (48 + m % 10)) (i - 1) (m / 10)
  stored_on h =
      let e : suc (i - 1) ≡ i = omega (arith, spelling_some p.left h) in
      record {
        room = length-set b i (48 + m % 10) ∙ p.room;
        within = omega (arith, p.within);
        left = rw (e, push b i (48 + m % 10) (omega (arith, p.room, p.within)))
            (spelling_on p.left h);
      }

  pub stored_ends : m < 10 → take (20 - i) (drop i (set b i (48 + m))) ≡ decimal n
  stored_ends h =
      take_all (20 - i) (drop i (set b i (48 + m)))
      (omega (arith, length-drop i (set b i (48 + m)), length-set b i (48 + m), p.room))
      ∙ push b i (48 + m) (omega (arith, p.room, p.within)) ∙ sym (spelling_ends p.left h)

-- so many digits are counted, with the one that is next
pub record Counted (n count m : ℕ) : Type 0 where
  pub digits : List ℕ
  pub size : count ≡ suc (length digits)
  pub left : Spelling n (20 - count) m digits

pub counted_starts : (n : ℕ) → n < 2 ^ 64 → Counted n 1 n
counted_starts n h = record { digits = []; size = refl; left = spelling_starts n h }

module _ {n count m : ℕ} (p : Counted n count m) where
  pub counted-few : count < 21
  counted-few = omega (arith, p.left.all, p.size)

  pub counted_on : 10 ≤ m → Counted n (count + 1) (m / 10)
  counted_on h =
      let e : 20 - (count + 1) ≡ 20 - count - 1 = omega arith in
      record {
        digits = (48 + m % 10)
            ∷ p.digits;
        size = omega (arith, p.size);
        left = rw e (spelling_on p.left h);
      }

  pub counted-ends : m < 10 → count ≡ length (decimal n)
  counted-ends h = rw (spelling_ends p.left h) p.size

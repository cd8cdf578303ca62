-- One law for each return of the check of the whole text, and of its first line.
use Prim.Native.Nat.{ℕ, suc, ◌+◌, ◌-◌, ◌≤◌, ◌<◌}
use mathlib.Core.Path.{◌≡◌, refl, sym, ◌∙◌}
use mathlib.Core.Bool.{Bool, true, false, cond}
use mathlib.Core.List.{List, [], ◌∷◌}
use native.Mathlib.Numerals.{add-one}
use native.Mathlib.Omega.{arith}
use lib.ListN.{length, get_or, take}
use lib.Seq.{length-take-le}
use lib.Dec.{eqb}
use borrow.Author.Tests.{eq-eqb, ne_eqb, lt-ltb, le-ltb}
use Rattle.grammar.specs.Quoted.{ascii}
use Rattle.grammar.specs.Words.{lf, same}
use Rattle.grammar.specs.Rows.{word, times, line_of, first_bad}
use Rattle.grammar.specs.Reading.{reading, version}
use Rattle.text.specs.Walked.{Whole}

pub times-le : (c : ℕ) (t : List ℕ) → times c t ≤ length t
unfolding times
times-le c [] = omega arith
times-le c (x ∷ xs) = go (eqb x c) (times-le c xs)
  where
    go : (b : Bool) → times c xs ≤ length xs
        → cond b (suc (times c xs)) (times c xs) ≤ suc (length xs)
    go true h = omega arith
    go false h = omega arith

take_whole : (t : List ℕ) → take (length t) t ≡ t
take_whole [] = refl
take_whole (x ∷ xs) = rw (take_whole xs)

module _ (t : List ℕ) where
  pub check-empty : length t ≡ 0 → Whole t (record { number = 20; place = 0 })
  unfolding reading
  check-empty e = record { ended = λ z. absurd (omega arith); left = λ room. rw e }

  module _ (n : length t ≡ 0 → ⊥) where
    pub check-long : 24576 < length t → Whole t (record { number = 20; place = 0 })
    unfolding reading
    check-long h = record {
      ended = λ z. absurd (omega arith);
      left = λ room. rw (ne_eqb (length t) 0 n, lt-ltb 24576 (length t) h);
    }

    module _ (h : length t ≤ 24576) where
      pub check_21 : (get_or t (length t - 1) 0 ≡ 10 → ⊥) → (k : ℕ) → k ≡ times lf t
          → Whole t (record { number = 21; place = k + 1 })
      unfolding reading line_of
      check_21 l k e = record {
        ended = λ z. absurd (omega arith);
        left = λ room. rw (
          ne_eqb (length t) 0 n,
          le-ltb 24576 (length t) h,
          ne_eqb _ 10 l,
          take_whole t,
          ← e,
          add-one k,
        );
      }

      module _ (l : get_or t (length t - 1) 0 ≡ 10) (b : ℕ) (q : b ≡ first_bad t) where
        pub check_22 : b < length t → (k : ℕ) → k ≡ times lf (take b t)
            → Whole t (record { number = 22; place = k + 1 })
        unfolding reading line_of
        check_22 g k e = record {
          ended = λ z. absurd (omega arith);
          left = λ room. rw (
            ne_eqb (length t) 0 n,
            le-ltb 24576 (length t) h,
            eq-eqb _ 10 l,
            ← q,
            lt-ltb b (length t) g,
            ← e,
            add-one k,
          );
        }

        pub check-passed : length t ≤ b → Whole t (record { number = 0; place = 0 })
        unfolding reading
        check-passed g = record {
          ended = λ z. record { some = omega arith; short = h; last = l };
          left = λ room. rw (
            ne_eqb (length t) 0 n,
            le-ltb 24576 (length t) h,
            eq-eqb _ 10 l,
            ← q,
            le-ltb b (length t) g,
          );
        }

-- ---- the first line

module _ (f : List (List ℕ)) (k : ℕ) (e : k ≡ length f) where
  pub version-count : (k ≡ 2 → ⊥) → 0 ≡ version f
  unfolding version
  version-count n = rw (ne_eqb (length f) 2 (λ q. n (e ∙ q)))

  module _ (z : k ≡ 2) (v : List ℕ) (q : v ≡ word f 0) where
    pub version-word : same v (ascii "cosim") ≡ false → 0 ≡ version f
    unfolding version
    version-word h = rw (eq-eqb (length f) 2 (sym e ∙ z), ← q, h)

    module _ (h : same v (ascii "cosim") ≡ true) (w : List ℕ) (r : w ≡ word f 1) where
      pub version-other : same w (ascii "1") ≡ false → 0 ≡ version f
      unfolding version
      version-other g = rw (eq-eqb (length f) 2 (sym e ∙ z), ← q, h, ← r, g)

      pub version-one : same w (ascii "1") ≡ true → 1 ≡ version f
      unfolding version
      version-one g = rw (eq-eqb (length f) 2 (sym e ∙ z), ← q, h, ← r, g)

pub times-part : (c n : ℕ) (t : List ℕ) → n ≤ length t → times c (take n t) ≤ n
times-part c n t h = omega (arith, times-le c (take n t), length-take-le n t h)

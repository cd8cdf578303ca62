-- A packed table by its parts: where each part stands.
use Rattle.std.specs.Prelude.{ℕ, zero, suc, ◌+◌, ◌*◌, ◌<◌, ◌≡◌, refl, get_or, drop}
use Rattle.std.proofs.Math.Path.{ap}
use Rattle.std.proofs.Common.{sym, ◌∙◌, drop_at, drop-drop}
use mathlib.Core.List.{List, [], ◌∷◌, ◌++◌, map}
use native.Mathlib.Omega.{arith}
use Rattle.std.proofs.Math.ListN.{length, take, length-append}
use Rattle.std.proofs.Math.Seq.{take_at}
use Rattle.grammar.specs.Draft.{Feed}
use Rattle.grammar.specs.Reading.{pairs as feed_pairs}
use Rattle.table.specs.Packed.{outputs, inputs, feeds, output_owners}
use Rattle.table.specs.Packed.{input_owners, kinds, sources, pairs, asked}
use Rattle.reading.specs.Proper.{no_feed}

pub map_in : {A B : Type 0} (f : A → B) (e : A) (z : B) (xs : List A) (i : ℕ) → i < length xs
    → get_or (map f xs) i z ≡ f (get_or xs i e)
map_in f e z [] i h = absurd (omega arith)
map_in f e z (x ∷ xs) zero h = refl
map_in f e z (x ∷ xs) (suc i) h = map_in f e z xs i (omega arith)

pub map_at : {A : Type 0} (f : A → ℕ) (e : A) (xs : List A) (i : ℕ) → i < length xs
    → get_or (map f xs) i 0 ≡ f (get_or xs i e)
map_at f e xs i h = map_in f e 0 xs i h

pub pairs-long : (fs : List Feed) → length (feed_pairs fs) ≡ 2 * length fs
unfolding feed_pairs
pairs-long [] = refl
pairs-long (f ∷ fs) = let q = pairs-long fs in omega arith

pub pairs-input : (fs : List Feed) (k : ℕ) → k < length fs
    → get_or (feed_pairs fs) (2 * k) 0 ≡ (get_or fs k no_feed).input
unfolding feed_pairs
pairs-input [] k h = absurd (omega arith)
pairs-input (f ∷ fs) zero h = refl
pairs-input (f ∷ fs) (suc k) h =
    let z : 2 * suc k ≡ suc (suc (2 * k)) = omega arith in rw z (pairs-input fs k (omega arith))

pub pairs-output : (fs : List Feed) (k : ℕ) → k < length fs
    → get_or (feed_pairs fs) (2 * k + 1) 0 ≡ (get_or fs k no_feed).output
unfolding feed_pairs
pairs-output [] k h = absurd (omega arith)
pairs-output (f ∷ fs) zero h = refl
pairs-output (f ∷ fs) (suc k) h =
    let z : 2 * suc k + 1 ≡ suc (suc (2 * k + 1)) =
    omega arith in rw z (pairs-output fs k (omega arith))

module _ (u y x f : ℕ) (a b c e q : List ℕ)
    (la : length a ≡ y) (lb : length b ≡ x) (lc : length c ≡ x) (le : length e ≡ x)
    (lq : length q ≡ 2 * f) where
  abbrev t : List ℕ
  t = u ∷ (y ∷ (x ∷ (f ∷ (a ++ (b ++ (c ++ (e ++ q)))))))

  pub long : length t ≡ asked t
  unfolding asked outputs inputs feeds
  long =
      omega (
        arith,
        length-append a (b ++ (c ++ (e ++ q))),
        length-append b (c ++ (e ++ q)),
        length-append c (e ++ q),
        length-append e q,
      )

  tail₁ : drop (4 + y) t ≡ b ++ (c ++ (e ++ q))
  tail₁ = sym (drop-drop y 4 t) ∙ drop_at a (b ++ (c ++ (e ++ q))) y la

  tail₂ : drop (4 + y + x) t ≡ c ++ (e ++ q)
  tail₂ = sym (drop-drop x (4 + y) t) ∙ ap (drop x) tail₁ ∙ drop_at b (c ++ (e ++ q)) x lb

  tail₃ : drop (4 + y + 2 * x) t ≡ e ++ q
  tail₃ =
      let z : 4 + y + 2 * x ≡ 4 + y + x + x = omega arith in
      rw z (sym (drop-drop x (4 + y + x) t) ∙ ap (drop x) tail₂ ∙ drop_at c (e ++ q) x lc)

  tail₄ : drop (4 + y + 3 * x) t ≡ q
  tail₄ =
      let z : 4 + y + 3 * x ≡ 4 + y + 2 * x + x = omega arith in
      rw z (sym (drop-drop x (4 + y + 2 * x) t) ∙ ap (drop x) tail₃ ∙ drop_at e q x le)

  pub output-owners : output_owners t ≡ a
  unfolding output_owners outputs
  output-owners = take_at a (b ++ (c ++ (e ++ q))) y la

  pub input-owners : input_owners t ≡ b
  unfolding input_owners outputs inputs
  input-owners = ap (take x) tail₁ ∙ take_at b (c ++ (e ++ q)) x lb

  pub kinds-are : kinds t ≡ c
  unfolding kinds outputs inputs
  kinds-are = ap (take x) tail₂ ∙ take_at c (e ++ q) x lc

  pub sources-are : sources t ≡ e
  unfolding sources outputs inputs
  sources-are = ap (take x) tail₃ ∙ take_at e q x le

  pub pairs-are : pairs t ≡ q
  unfolding pairs outputs inputs feeds
  pairs-are = ap (take (2 * f)) tail₄ ∙ all q (2 * f) lq
    where
      all : (xs : List ℕ) (n : ℕ) → length xs ≡ n → take n xs ≡ xs
      all xs n s = ap (take n) (sym (mathlib.Core.List.append-nil xs)) ∙ take_at xs [] n s

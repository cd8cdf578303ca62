-- A whole listing: its first line, room for all of it, and what is answered.
use Prim.Native.Nat.{ℕ, ◌+◌, ◌-◌, ◌<◌, ◌≤◌}
use mathlib.Core.Path.{◌≡◌, ap, sym}
use mathlib.Core.Bool.{true, false}
use mathlib.Core.List.{List, [], ◌∷◌, ◌++◌, append_assoc}
use native.Mathlib.Omega.{arith}
use lib.ListN.{length, take, drop, length-append}
use lib.Seq.{take_at}
use lib.Dec.{leb}
use borrow.Author.Tests.{lt-ltb, le-ltb, leb-true, leb-false, eq-eqb, ne_eqb}
use Rattle.search.specs.Front.{fronted}
use Rattle.grammar.specs.Quoted.{ascii}
use Rattle.grammar.specs.Words.{tab, lf}
use Rattle.table.specs.Packed.{part}
use Rattle.table.specs.declared.Answer.{Answer}
use Rattle.table.specs.Outcome.{outcome}
use Rattle.declarations.specs.Noted.{begins_from, Noted}
use Rattle.pen.specs.Decimal.{decimal}
use Rattle.pen.specs.Chain.{Wrote, wrote_then, wrote-long, wrote-front}
use Rattle.printing.specs.Printed.{printed}
use Rattle.printing.specs.Entries.{calls_text, refusal_text, outcome_text}
use Rattle.printing.specs.Indexed.{the_unit_lines, output_lines, input_lines}
use Rattle.printing.specs.Indexed.{entries_of, calls_of, outcome_of}
use Rattle.printing.specs.Lengths.{calls-long}
use Rattle.printing.specs.Listed.{listed}
use Rattle.printing.proofs.Fielded.{ended-long}

abbrev pub short : Answer
short = record { number = 34; place = 0 }

-- the text s was asked for in the buffer o: the answer a, and what the buffer holds after
abbrev pub Listed : List ℕ → List ℕ → List ℕ → Answer → Type 0
Listed s o after a =
    (a ≡ (listed s (length o)).answer) × (after ≡ fronted (listed s (length o)).bytes o)

pub listed-not : (s o : List ℕ) → length o < length s → Listed s o o short
unfolding listed
listed-not s o h = (rw (lt-ltb (length o) (length s) h), rw (lt-ltb (length o) (length s) h))

pub listed-all :
    {s o after : List ℕ} {k : ℕ} → Wrote o 0 s after k
    → Listed s o after (record { number = 0; place = k })
unfolding listed
listed-all {s} {o} {after} {k} w =
    let f = wrote-front w in
    let h : length s ≤ length o = omega (arith, w.room) in
    (rw (le-ltb (length o) (length s) h, f.0), rw (le-ltb (length o) (length s) h) f.1)

-- ---- the first line

two_fields : (w d : List ℕ) → (w ++ (tab ∷ [])) ++ (d ++ (lf ∷ [])) ≡ printed (w ∷ d ∷ [])
unfolding printed
two_fields w d = append_assoc w (tab ∷ []) (d ++ (lf ∷ []))

module _ (t w cs : List ℕ) where
  long : length (calls_of t w cs) ≡ length w + length (decimal (length cs)) + 2
      + length (entries_of t 0 cs)
  long = calls-long (the_unit_lines t) (output_lines t) (input_lines t) w cs

  module _ (o : List ℕ) where
    pub calls-not-1 :
        (n : ℕ) → n ≡ length (decimal (length cs)) → length o < length w + n + 2 →
        Listed (calls_of t w cs) o o short
    calls-not-1 n e h = listed-not _ o (omega (arith, long))

    module _ (n : ℕ) (e : n ≡ length (decimal (length cs))) (h : length w + n + 2 ≤ length o) where
      pub calls-not-2 :
          leb (length (entries_of t 0 cs)) (length o - (length w + n + 2)) ≡ false →
          Listed (calls_of t w cs) o o short
      calls-not-2 f =
          listed-not _ o
          (omega (
            arith,
            long,
            leb-false (length (entries_of t 0 cs))
                (length o - (length w + n + 2)) f,
          ))

      module _ (f : leb (length (entries_of t 0 cs)) (length o - (length w + n + 2)) ≡ true) where
        fits : length w + n + 2 + length (entries_of t 0 cs) ≤ length o
        fits = omega (
          arith,
          leb-true (length (entries_of t 0 cs)) (length o - (length w + n + 2))
              f,
        )

        pub room_a : 0 + (length w + 1) ≤ length o
        room_a = omega (arith, fits)

        module _ {o₁ : List ℕ} {k₁ : ℕ} (w₁ : Wrote o 0 (w ++ (tab ∷ [])) o₁ k₁) where
          pub room_b : k₁ + (length (decimal (length cs)) + 1) ≤ length o₁
          room_b = omega (arith, fits, w₁.place, wrote-long w₁, ended-long w tab)

          module _ {o₂ : List ℕ} {k₂ : ℕ}
              (w₂ : Wrote o₁ k₁ (decimal (length cs) ++ (lf ∷ [])) o₂ k₂) where
            pub room_c : k₂ + length (entries_of t 0 cs) ≤ length o₂
            room_c =
                omega (
                  arith,
                  fits,
                  w₁.place,
                  wrote-long w₁,
                  ended-long w tab,
                  w₂.place,
                  wrote-long w₂,
                  ended-long (decimal (length cs)) lf,
                )

            pub calls-all :
                {o₃ : List ℕ} {k₃ : ℕ} → Wrote o₂ k₂ (entries_of t 0 cs) o₃ k₃ →
                Listed (calls_of t w cs) o o₃ (record { number = 0; place = k₃ })
            unfolding calls_text
            calls-all w₃ =
                listed-all (rw (two_fields w (decimal (length cs))) at
                (wrote_then (wrote_then w₁ w₂) w₃))

-- ---- a refusal

module _ (n k : ℕ) where
  three-fields :
      ((ascii "refused" ++ (tab ∷ [])) ++ (decimal n ++ (tab ∷ []))) ++ (decimal k ++ (lf ∷ []))
      ≡ refusal_text n k
  unfolding refusal_text printed
  three-fields = simp append_assoc

  module _ {o₁ o₂ o₃ : List ℕ} {o : List ℕ} {k₁ k₂ k₃ : ℕ} where
    pub refusal-all :
        Wrote o 0 (ascii "refused" ++ (tab ∷ [])) o₁ k₁
        → Wrote o₁ k₁ (decimal n ++ (tab ∷ [])) o₂ k₂ →
        Wrote o₂ k₂ (decimal k ++ (lf ∷ [])) o₃ k₃ →
        Listed (refusal_text n k) o o₃ (record { number = 0; place = k₃ })
    refusal-all w₁ w₂ w₃ = listed-all (rw three-fields at (wrote_then (wrote_then w₁ w₂) w₃))

-- ---- the places noted

pub noted-part :
    {w t places after : List ℕ} {n : ℕ} →
    Noted w t places after n → take n after ≡ take (length places) (begins_from w t 0)
noted-part {w} {t} {places} {after} {n} g =
    rw g.front (take_at (take (length places) (begins_from w t 0)) _ n (sym g.count))

pub noted-fits : {w t places after : List ℕ} {n : ℕ} → Noted w t places after n → n ≤ length after
noted-fits {w} {t} {places} {after} {n} g =
    let x = take (length places) (begins_from w t 0) in
    omega (arith, g.count, ap length g.front, length-append x (drop (length x) places))

-- ---- what an ordering answered

module _ (t : List ℕ) (n k : ℕ) (calls cs : List ℕ) where
  pub outcome-order :
      cs ≡ part calls 0 k → n ≡ 0
      → calls_of t (ascii "order") cs ≡ outcome_of t (outcome n k (part calls 0 k))
  unfolding outcome_text
  outcome-order e z = rw (e, eq-eqb n 0 z)

  pub outcome-cycle :
      cs ≡ part calls 0 k → (n ≡ 0 → ⊥) → n ≡ 9 →
      calls_of t (ascii "cycle") cs ≡ outcome_of t (outcome n k (part calls 0 k))
  unfolding outcome_text
  outcome-cycle e z o = rw (e, ne_eqb n 0 z, eq-eqb n 9 o)

pub outcome-refused :
    (t : List ℕ) (n k : ℕ) (cs : List ℕ) → (n ≡ 0 → ⊥) → (n ≡ 9 → ⊥) →
    refusal_text n k ≡ outcome_of t (outcome n k cs)
unfolding outcome_text
outcome-refused t n k cs z o = rw (ne_eqb n 0 z, ne_eqb n 9 o)

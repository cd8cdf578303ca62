-- A text that is refused: its refusal names the line that is said.
use Rattle.std.specs.Prelude.{
  ℕ,
  suc,
  ◌+◌,
  ◌-◌,
  ◌≤◌,
  ◌≡◌,
  ◌⊎◌,
  ◌↔◌,
  not,
  List,
  ◌∷◌,
  length,
  get_or,
  drop,
  eqb,
}
use Rattle.std.proofs.Math.Path.{refl}
use Rattle.std.proofs.Common.{ap, sym, ◌∙◌, subst}
use Rattle.std.proofs.Math.Logic.{inl, inr}
use native.Mathlib.Omega.{arith}
use Rattle.grammar.specs.Words.{lf}
use Rattle.grammar.specs.Quoted.{ascii}
use Rattle.grammar.specs.Rows.{rows, word, place, line_of, first_bad}
use Rattle.grammar.specs.Opening.{Row}
use Rattle.grammar.specs.Draft.{Draft, blank}
use Rattle.grammar.specs.Reading.{Reading, reading, stopped}
use Rattle.reading.specs.Proper.{Proper}
use Rattle.reading.specs.Takes.{Runs}
use Rattle.reading.specs.Reads.{Closes, closes_33, closes_31, closes_34, closes_0}
use Rattle.reading.specs.Reads.{Comes, to-line, to_end, Reads, reads_20, reads_21}
use Rattle.reading.specs.Reads.{reads_22, reads_23, reads_lines, text_reads}
use Rattle.reading.specs.Numbers.{is_loose}
use Rattle.reading.specs.First.{loose-below}
use Rattle.reading.proofs.Loose.{loose-line}
use Rattle.reading.specs.WhichLine.{line_count, refusals, Lined}
use Rattle.reading.proofs.Counted.{line-within, count-some, count-rows, last_line}
use Rattle.reading.specs.Refused.{LineNumber, refusals-numbers}

-- ---- a number that is not 20 or 34, at a line that is not 0
some : (n k : ℕ) → (n ≡ 20 → ⊥) → (n ≡ 34 → ⊥) → 1 ≤ k → (k ≡ 0) ↔ ((n ≡ 20) ⊎ (n ≡ 34))
some n k a b h = (λ z. absurd (omega arith), λ s. absurd (elim s [ inl e ↦ a e | inr e ↦ b e ]))

module _ (room : ℕ) (t : List ℕ) where
  lined-none : (n : ℕ) → (n ≡ 20) ⊎ (n ≡ 34) → Lined t (stopped n 0)
  unfolding stopped
  lined-none n s = record {
    none = (λ z. s, λ z. refl);
    within = omega arith;
    last = λ e. absurd (other 21 (omega arith) (omega arith) e);
    byte = λ e. absurd (other 22 (omega arith) (omega arith) e);
    first = λ e. absurd (elim e [
      | inl e ↦ other 23 (omega arith) (omega arith) e
      | inr e ↦ other 33 (omega arith) (omega arith) e
    ]);
    loose = λ e. absurd (other 31 (omega arith) (omega arith) e);
    refused = λ a b c. absurd (elim s [ inl e ↦ omega arith | inr e ↦ omega arith ]);
  }
    where
      other : (m : ℕ) → (m ≡ 20 → ⊥) → (m ≡ 34 → ⊥) → n ≡ m → ⊥
      other m a b e = elim s [ inl z ↦ a (sym e ∙ z) | inr z ↦ b (sym e ∙ z) ]

  lined-one : (n : ℕ) → (n ≡ 23) ⊎ (n ≡ 33) → 1 ≤ line_count t → Lined t (stopped n 1)
  unfolding stopped
  lined-one n s h = record {
    none = some n 1 (other 20 (omega arith) (omega arith)) (other 34 (omega arith) (omega arith))
        (omega arith);
    within = h;
    last = λ e. absurd (other 21 (omega arith) (omega arith) e);
    byte = λ e. absurd (other 22 (omega arith) (omega arith) e);
    first = λ e. refl;
    loose = λ e. absurd (other 31 (omega arith) (omega arith) e);
    refused = λ a b c. absurd (elim s [ inl e ↦ omega arith | inr e ↦ omega arith ]);
  }
    where
      other : (m : ℕ) → (m ≡ 23 → ⊥) → (m ≡ 33 → ⊥) → n ≡ m → ⊥
      other m a b e = elim s [ inl z ↦ a (sym e ∙ z) | inr z ↦ b (sym e ∙ z) ]

  lined-last : (k : ℕ) → 1 ≤ k → k ≡ line_count t → Lined t (stopped 21 k)
  unfolding stopped
  lined-last k s e = record {
    none = some 21 k (omega arith) (omega arith) s;
    within = omega arith;
    last = λ z. e;
    byte = λ z. absurd (omega arith);
    first = λ z. absurd (elim z [ inl z ↦ omega arith | inr z ↦ omega arith ]);
    loose = λ z. absurd (omega arith);
    refused = λ a b c. absurd (omega arith);
  }

  lined-byte : (k : ℕ) → 1 ≤ k → k ≤ line_count t → k ≡ line_of t (first_bad t)
      → Lined t (stopped 22 k)
  unfolding stopped
  lined-byte k s h e = record {
    none = some 22 k (omega arith) (omega arith) s;
    within = h;
    last = λ z. absurd (omega arith);
    byte = λ z. e;
    first = λ z. absurd (elim z [ inl z ↦ omega arith | inr z ↦ omega arith ]);
    loose = λ z. absurd (omega arith);
    refused = λ a b c. absurd (omega arith);
  }

  lined-loose : (k : ℕ) → k ≡ suc (place (is_loose (rows t)) (rows t)) → k ≤ line_count t
      → Lined t (stopped 31 k)
  unfolding stopped
  lined-loose k e h = record {
    none = some 31 k (omega arith) (omega arith) (omega arith);
    within = h;
    last = λ z. absurd (omega arith);
    byte = λ z. absurd (omega arith);
    first = λ z. absurd (elim z [ inl z ↦ omega arith | inr z ↦ omega arith ]);
    loose = λ z. e;
    refused = λ a b c. absurd (c refl);
  }

  lined-line : (n k : ℕ) → 24 ≤ n → n ≤ 32 → (n ≡ 31 → ⊥) → 1 ≤ k → k ≤ line_count t
      → let numbers =
      refusals blank 2 (drop 1 (rows t)) in let i = place (λ n. not (eqb n 0)) numbers in
      (k ≡ 2 + i) × (n ≡ get_or numbers i 0) → Lined t (stopped n k)
  unfolding stopped
  lined-line n k a b c s h f = record {
    none = some n k (λ z. omega arith) (λ z. omega arith) s;
    within = h;
    last = λ z. absurd (omega arith);
    byte = λ z. absurd (omega arith);
    first = λ z. absurd (elim z [ inl z ↦ omega arith | inr z ↦ omega arith ]);
    loose = λ z. absurd (c z);
    refused = λ a b c. f;
  }

  -- ---- the end, the lines, the text
  module _ (ended : get_or t (length t - 1) 0 ≡ lf) (first : Row) (fs : List Row)
      (lines : rows t ≡ first ∷ fs)
      (opened : word first 0 ≡ ascii "cosim") where
    many : line_count t ≡ suc (length fs)
    many = count-rows t ended ∙ ap length lines

    lined-end : (last : Draft) (r : Reading) → Runs blank 2 fs last → Proper last
        → Closes room last r
        → (r.number ≡ 0 → ⊥) → Lined t r
    lined-end last r c g (closes_33 z) n = lined-one 33 (inr refl) (count-some t ended)
    lined-end last r c g (closes_31 z) n =
        let (e, l) = loose-line last fs c g z in
        let b : place (is_loose (rows t)) (rows t) ≡ suc (place (is_loose fs) fs) =
        ap (λ l. place (is_loose l) l) lines ∙ loose-below first fs opened in
        lined-loose _ (omega arith) (omega (arith, many))
    lined-end last r c g (closes_34 h) n = lined-none 34 (inr refl)
    lined-end last r c g (closes_0 u j) n = absurd (n refl)

    lined-come : (r : Reading) → Comes room blank 2 fs r → (r.number ≡ 0 → ⊥) → Lined t r
    lined-come r (to-line i j n h p a q z) x =
        let (b, c, e) = subst LineNumber q (refusals-numbers blank 2 fs i) z in
        lined-line n j b c e (omega arith) (omega (arith, many)) (rw (lines, a) (p, sym q))
    lined-come r (to_end last s c h g z) x = lined-end last s c g z x

  lined : (r : Reading) → Reads room t r → (r.number ≡ 0 → ⊥) → Lined t r
  unfolding line_of
  lined r reads_20 n = lined-none 20 (inl refl)
  lined r (reads_21 s l) n = lined-last (line_of t (length t)) (omega arith) (last_line t s l)
  lined r (reads_22 l h) n = lined-byte (line_of t (first_bad t)) (omega arith)
      (line-within t l (first_bad t) h) refl
  lined r (reads_23 l) n = lined-one 23 (inl refl) (count-some t l)
  lined r (reads_lines s first fs l p o c) n = lined-come l first fs p o s c n

-- where a text that is refused is refused
pub refusal-lined : (room : ℕ) (t : List ℕ) → ((reading room t).number ≡ 0 → ⊥)
    → Lined t (reading room t)
refusal-lined room t n = lined room t (reading room t) (text_reads room t) n

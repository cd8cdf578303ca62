-- The line of the first input that no line joins.
use Rattle.std.specs.Prelude.{
  ℕ,
  suc,
  ◌+◌,
  ◌<◌,
  ◌≡◌,
  refl,
  Bool,
  true,
  false,
  not,
  cond,
  ◌&&◌,
  T,
  leb,
}
use Rattle.std.proofs.Math.Path.{ap, sym}
use Rattle.std.proofs.Common.{◌∙◌, leb→le, le→leb, ne_eqb}
use mathlib.Core.List.{List, [], ◌∷◌, ◌++◌, map, append-nil, map-append}
use native.Mathlib.Omega.{arith}
use Rattle.std.proofs.Math.ListN.{length, get_or}
use Rattle.std.proofs.Math.Seq.{append_snoc, map-set_same}
use Rattle.std.proofs.Math.Dec.{eqb}
use Rattle.std.proofs.lemmas.Bool.{lt-leb}
use Rattle.search.specs.Truth.{is_true, is_false, same_test}
use Rattle.grammar.specs.Quoted.{ascii}
use Rattle.grammar.specs.Words.{same}
use Rattle.grammar.specs.Same.{same_self}
use Rattle.grammar.specs.Rows.{word, place}
use Rattle.grammar.specs.Opening.{Row, lines_of}
use Rattle.grammar.specs.Draft.{Draft, Input, blank, unjoined, no_input, unit_named, output_named}
use Rattle.grammar.specs.Draft.{loose, add_unit, add_output, add_input, add_feed, add_join, joined}
use Rattle.reading.specs.Proper.{Proper}
use Rattle.reading.specs.Parts.{map_in}
use Rattle.reading.specs.Takes.{takes-unit, takes-output, takes-input}
use Rattle.reading.specs.Takes.{takes-feed, takes-join, Takes, Runs, ends, goes_on}
use Rattle.reading.specs.Found.{place-most, place-along}
use Rattle.reading.specs.Joined.{join_input, join_output, source_by}
use Rattle.reading.specs.Numbers.{join_place, is_loose}
use Rattle.reading.proofs.Named.{inputs-count}
use Rattle.reading.proofs.Sourced.{source-by, join-place}

-- the numbers of the lines that open with w, the first of all lines being line k
unfoldable line_numbers : List ℕ → ℕ → List Row → List ℕ
line_numbers w k [] = []
line_numbers w k (f ∷ fs) =
    cond (same (word f 0) w) (k ∷ line_numbers w (suc k) fs) (line_numbers w (suc k) fs)

-- the lines of the inputs there were, and behind them those of the inputs that the lines declare
unfoldable with_lines : List ℕ → ℕ → List Row → List ℕ
with_lines ls k fs = ls ++ line_numbers (ascii "in") k fs

module _ (ls : List ℕ) (k : ℕ) where
  lines-first : ls ≡ with_lines ls k []
  unfolding with_lines line_numbers
  lines-first = sym (append-nil ls)

  lines-one : (f : Row) (fs : List Row) → word f 0 ≡ ascii "in"
      → with_lines (ls ++ (k ∷ [])) (suc k) fs ≡ with_lines ls k (f ∷ fs)
  unfolding with_lines line_numbers
  lines-one f fs e = rw (e, is_true (same (ascii "in") (ascii "in")) (same_self (ascii "in")))
      (append_snoc ls k (line_numbers (ascii "in") (suc k) fs))

  lines_none : (f : Row) (fs : List Row) (v : List ℕ) → word f 0 ≡ v → T (not (same v (ascii "in")))
      → with_lines ls (suc k) fs ≡ with_lines ls k (f ∷ fs)
  unfolding with_lines line_numbers
  lines_none f fs v e n = rw (e, is_false (same v (ascii "in")) n)

abbrev line_of : Input → ℕ
line_of i = i.line

lines-run : {d last : Draft} {k : ℕ} {fs : List Row} → Runs d k fs last
    → map line_of last.inputs ≡ with_lines (map line_of d.inputs) k fs
unfolding same add_unit add_output add_input add_feed add_join joined
lines-run ends = lines-first _ _
lines-run {d} (goes_on {last = last} {k = k} {f = f} {fs = fs} t r) = step t (lines-run r)
  where
    step : {e : Draft} → Takes d k f e
        → map line_of last.inputs ≡ with_lines (map line_of e.inputs) (suc k) fs
        → map line_of last.inputs ≡ with_lines (map line_of d.inputs) k (f ∷ fs)
    step (takes-unit w n) b = b ∙ lines_none _ _ _ _ _ w tt
    step (takes-output w u n) b = b ∙ lines_none _ _ _ _ _ w tt
    step (takes-input w u n) b =
        b ∙ ap (λ l. with_lines l (suc k) fs) (map-append line_of d.inputs _)
        ∙ lines-one (map line_of d.inputs) k _ fs w
    step (takes-feed w u x y) b = b ∙ lines_none _ _ _ _ _ w tt
    step (takes-join w u y v x s) b =
        b ∙ ap (λ l. with_lines l (suc k) fs) (map-set_same line_of d.inputs _ _ no_input refl)
        ∙ lines_none _ _ _ _ _ w tt

-- the first of the lines that open with w and pass is the first line that opens with w and passes
first-line : (w : List ℕ) (p : Row → Bool) (k : ℕ) (fs : List Row)
    → place p (lines_of fs w) < length (lines_of fs w)
    → (get_or (line_numbers w k fs) (place p (lines_of fs w)) 0 ≡ k
    + place (λ f. same (word f 0) w && p f) fs)
    × (place (λ f. same (word f 0) w && p f) fs < length fs)
unfolding line_numbers lines_of place
first-line w p k [] h = absurd (omega arith)
first-line w p k (f ∷ fs) h = go (same (word f 0) w) (first-line w p (suc k) fs) h
  where
    numbers : List ℕ
    numbers = line_numbers w (suc k) fs

    rest : ℕ
    rest = place (λ f. same (word f 0) w && p f) fs

    among : ℕ
    among = place p (lines_of fs w)

    opened : (b : Bool) → (among < length (lines_of fs w)
        → (get_or numbers among 0 ≡ suc k + rest) × (rest < length fs))
        → cond b 0 (suc among) < suc (length (lines_of fs w))
        → (get_or (k ∷ numbers) (cond b 0 (suc among)) 0 ≡ k + cond b 0 (suc rest))
        × (cond b 0 (suc rest) < suc (length fs))
    opened true ih h = (omega arith, omega arith)
    opened false ih h = let (e, l) = ih (omega arith) in (omega arith, omega arith)

    go : (a : Bool) → (among < length (lines_of fs w)
        → (get_or numbers among 0 ≡ suc k + rest) × (rest < length fs))
        → place p (cond a (f ∷ lines_of fs w) (lines_of fs w))
        < length (cond a (f ∷ lines_of fs w) (lines_of fs w))
        → (get_or (cond a (k ∷ numbers) numbers)
        (place p (cond a (f ∷ lines_of fs w) (lines_of fs w))) 0
        ≡ k + cond (a && p f) 0 (suc rest))
        × (cond (a && p f) 0 (suc rest) < suc (length fs))
    go true ih h = opened (p f) ih h
    go false ih h = let (e, l) = ih h in (omega arith, omega arith)

leb-suc : (a b : ℕ) → leb a b ≡ leb (suc a) (suc b)
leb-suc a b = same_test (leb a b) (leb (suc a) (suc b))
    (λ t. le→leb (suc a) (suc b) (omega (arith, leb→le a b t)))
    (λ t. le→leb a b (omega (arith, leb→le (suc a) (suc b) t)))

-- an input has no source exactly when no line joins it
by-none : (d : Draft) (x : ℕ) (js : List Row) → ((f : Row) → join_output d f < unjoined)
    → eqb (source_by d x js) unjoined ≡ leb (length js) (place (λ f. eqb (join_input d f) x) js)
unfolding source_by place
by-none d x [] low = refl
by-none d x (f ∷ fs) low = go (eqb (join_input d f) x) (by-none d x fs low)
  where
    go : (b : Bool) → eqb (source_by d x fs) unjoined
        ≡ leb (length fs) (place (λ f. eqb (join_input d f) x) fs)
        → eqb (cond b (join_output d f) (source_by d x fs)) unjoined
        ≡ leb (suc (length fs)) (cond b 0 (suc (place (λ f. eqb (join_input d f) x) fs)))
    go true ih = ne_eqb (join_output d f) 255 (λ e. omega (arith, low f))
        ∙ sym (lt-leb (suc (length fs)) 0 (omega arith))
    go false ih = ih ∙ leb-suc (length fs) (place (λ f. eqb (join_input d f) x) fs)

module _ (d : Draft) (fs : List Row) (r : Runs blank 2 fs d) (g : Proper d) where
  abbrev input_lines : List Row
  input_lines = lines_of fs (ascii "in")

  abbrev free : Row → Bool
  free f = leb (length (lines_of fs (ascii "join"))) (join_place fs (word f 1) (word f 2))

  low : (f : Row) → join_output d f < unjoined
  unfolding output_named
  low f = omega (
    arith,
    place-most (λ o. eqb o.owner (unit_named d (word f 1)) && same o.name (word f 2))
        d.outputs,
    g.outputs-most,
  )

  -- the first input that is not joined is declared by the first `in` line whose input no line joins
  loose-place : loose d ≡ place free input_lines
  unfolding loose
  loose-place = place-along (λ i. eqb i.source unjoined) free no_input [] d.inputs input_lines
      (inputs-count d fs r g)
      (λ x h.
      let k : x < length input_lines = rw (← inputs-count d fs r g) h in
      ap (λ s. eqb s 255) (sym (map_in (λ (i : Input). i.source) no_input 255 d.inputs x h)
      ∙ source-by d fs r g x)
      ∙ by-none d x (lines_of fs (ascii "join")) low
      ∙ ap (leb (length (lines_of fs (ascii "join")))) (join-place d fs r g x k))

  pub loose-line : loose d < length d.inputs
      → ((get_or d.inputs (loose d) no_input).line ≡ 2 + place (is_loose fs) fs)
      × (place (is_loose fs) fs < length fs)
  unfolding is_loose with_lines blank
  loose-line h =
      let l : place free input_lines < length input_lines =
      rw (← loose-place, ← inputs-count d fs r g) h in
      let (e, k) = first-line (ascii "in") free 2 fs l in (
        sym (map_in line_of no_input 0 d.inputs (loose d) h)
            ∙ ap (λ l. get_or l (loose d) 0) (lines-run r)
            ∙ ap (λ x. get_or (line_numbers (ascii "in") 2 fs) x 0) loose-place ∙ e,
        k,
      )

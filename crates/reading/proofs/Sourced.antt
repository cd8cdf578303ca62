-- The source of each input stands in the line that joins it; an input that no line joins has none.
use Rattle.std.specs.Prelude.{
  ℕ,
  suc,
  ◌<◌,
  ◌≤◌,
  ◌≡◌,
  refl,
  Bool,
  true,
  false,
  cond,
  ◌&&◌,
  length,
  T,
  eqb,
}
use Rattle.std.proofs.Math.Path.{ap}
use Rattle.std.proofs.Common.{sym, ◌∙◌, subst, arith, ext_get_or, eqb→eq}
use mathlib.Core.List.{List, [], ◌∷◌, map}
use Rattle.std.proofs.Math.Decide.{dec_lt}
use Rattle.std.proofs.Math.ListN.{get_or}
use Rattle.std.proofs.lemmas.List.{length-map}
use Rattle.search.specs.Truth.{T_and, and_T, same_test, eq_true, clash}
use Rattle.grammar.specs.Quoted.{ascii}
use Rattle.grammar.specs.Words.{same}
use Rattle.grammar.specs.Same.{same_true, same_self}
use Rattle.grammar.specs.Rows.{word, place}
use Rattle.grammar.specs.Places.{place_is}
use Rattle.grammar.specs.Opening.{Row, lines_of}
use Rattle.grammar.specs.Draft.{Draft, Input, blank, unjoined}
use Rattle.grammar.specs.Draft.{no_input, unit_named, input_named, loose}
use Rattle.reading.specs.Proper.{Proper}
use Rattle.reading.specs.Parts.{map_in}
use Rattle.reading.specs.Reads.{not-loose}
use Rattle.reading.specs.Takes.{Runs}
use Rattle.reading.specs.Found.{place-alike}
use Rattle.reading.specs.Joined.{join_input, join_output, source_by, source_at, or_by, sources-run}
use Rattle.reading.specs.JoinedOnce.{Apart, joins_apart}
use Rattle.reading.specs.Numbers.{port_number, join_place, join_of, source_number}
use Rattle.reading.proofs.Named.{inputs-count, output-named, input-named, input-at}

both_true : (a b c e : List ℕ) → T (same a b && same c e) → (a ≡ b) × (c ≡ e)
both_true a b c e t =
    let (p, q) = T_and (same a b) (same c e) t in (same_true a b p, same_true c e q)

both-same : (a b c e : List ℕ) → a ≡ b → c ≡ e → T (same a b && same c e)
both-same a b c e p q = rw (p, q) (and_T (same b b) (same e e) (same_self b) (same_self e))

-- a source that is there is that of the first line that joins the input
first-join : (d : Draft) (x : ℕ) (fs : List Row) → (source_by d x fs ≡ unjoined → ⊥)
    → source_by d x fs ≡ join_output d (get_or fs (place (λ f. eqb (join_input d f) x) fs) [])
unfolding source_by place
first-join d x [] n = absurd (n refl)
first-join d x (f ∷ fs) n = go (eqb (join_input d f) x) (first-join d x fs) n
  where
    go : (b : Bool) → ((source_by d x fs ≡ unjoined → ⊥)
        → source_by d x fs ≡ join_output d (get_or fs (place (λ f. eqb (join_input d f) x) fs) []))
        → (cond b (join_output d f) (source_by d x fs) ≡ unjoined → ⊥)
        → cond b (join_output d f) (source_by d x fs)
        ≡ join_output d (get_or (f ∷ fs) (cond b 0 (suc (place (λ f. eqb (join_input d f) x) fs)))
        [])
    go true ih n = refl
    go false ih n = ih n

module _ (d : Draft) (fs : List Row) (r : Runs blank 2 fs d) (g : Proper d) where
  abbrev input_lines : List Row
  input_lines = lines_of fs (ascii "in")

  abbrev join_lines : List Row
  join_lines = lines_of fs (ascii "join")

  pub source-by : (x : ℕ) → source_at d x ≡ source_by d x join_lines
  unfolding blank or_by
  source-by x = sources-run r (omega (arith, g.outputs-most)) x

  -- a line joins input x when it names its unit and its name
  joins_alike : (x : ℕ) → x < length input_lines → (f : Row)
      → eqb (join_input d f) x
      ≡ same (word f 3) (word (get_or input_lines x []) 1)
      && same (word f 4) (word (get_or input_lines x []) 2)
  unfolding port_number
  joins_alike x h f = same_test (eqb (join_input d f) x)
      (same (word f 3) (word i 1) && same (word f 4) (word i 2)) there back
    where
      i : Row
      i = get_or input_lines x []

      test : Row → Bool
      test j = same (word j 1) (word f 3) && same (word j 2) (word f 4)

      -- the line at the number that is found has the unit and the name
      passes : place test input_lines ≡ x → T (test i)
      passes e = subst (λ k. T (test (get_or input_lines k []))) e
          ((place_is test [] input_lines).passes (rw e h))

      there : T (eqb (join_input d f) x)
          → T (same (word f 3) (word i 1) && same (word f 4) (word i 2))
      there t =
          let (a, b) = both_true _ _ _ _
          (passes (sym (input-named d fs r g (word f 3) (word f 4)) ∙ eqb→eq _ _ t)) in
          both-same _ _ _ _ (sym a) (sym b)

      back : T (same (word f 3) (word i 1) && same (word f 4) (word i 2))
          → T (eqb (join_input d f) x)
      back t =
          let (a, b) = both_true (word f 3) (word i 1) (word f 4) (word i 2) t in
          eq_true (join_input d f) x (input-named d fs r g (word f 3) (word f 4)
          ∙ rw (a, b) (input-at d fs r g x h))

  -- the place of the line that joins input x
  pub join-place : (x : ℕ) → x < length input_lines → let i = get_or input_lines x [] in
      place (λ f. eqb (join_input d f) x) join_lines ≡ join_place fs (word i 1) (word i 2)
  unfolding join_place
  join-place x h = place-alike _ _ [] join_lines (λ i l. joins_alike x h (get_or join_lines i []))

  pub source_is : (x : ℕ) → x < length input_lines → (source_at d x ≡ unjoined → ⊥)
      → let i = get_or input_lines x [] in source_at d x ≡ source_number fs (word i 1) (word i 2)
  unfolding source_number join_of
  source_is x h n =
      let i = get_or input_lines x [] in
      let j = get_or join_lines (join_place fs (word i 1) (word i 2)) [] in
      source-by x ∙ first-join d x join_lines (λ e. n (source-by x ∙ e))
      ∙ ap (λ k. join_output d (get_or join_lines k [])) (join-place x h)
      ∙ output-named d fs r g (word j 1) (word j 2)

  -- all inputs are joined
  pub sources-are : length d.inputs ≤ loose d → map (λ (i : Input). i.source) d.inputs
      ≡ map (λ f. source_number fs (word f 1) (word f 2)) input_lines
  sources-are all = ext_get_or unjoined _ _ long each
    where
      long : length (map (λ (i : Input). i.source) d.inputs)
          ≡ length (map (λ f. source_number fs (word f 1) (word f 2)) input_lines)
      long = length-map d.inputs _ ∙ inputs-count d fs r g ∙ sym (length-map input_lines _)

      joined : (x : ℕ) → x < length d.inputs → source_at d x ≡ unjoined → ⊥
      joined x h e = not-loose d all x h
          (sym (map_in (λ (i : Input). i.source) no_input unjoined d.inputs x h) ∙ e)

      each : (x : ℕ) → x < length (map (λ (i : Input). i.source) d.inputs)
          → source_at d x ≡ get_or (map (λ f. source_number fs (word f 1) (word f 2)) input_lines) x
          unjoined
      each x h =
          let l : x < length d.inputs =
          rw (← length-map d.inputs (λ (i : Input). i.source)) h in
          let k : x < length input_lines = rw (← inputs-count d fs r g) l in
          source_is x k (joined x l)
          ∙ sym (map_in (λ f. source_number fs (word f 1) (word f 2)) [] unjoined input_lines x k)

  -- each line that joins is the one that joins its input
  pub join-at : (j : ℕ) → j < length join_lines
      → join_of fs (word (get_or join_lines j []) 3) (word (get_or join_lines j []) 4)
      ≡ get_or join_lines j []
  unfolding join_of join_place Apart
  join-at j h = ap (λ k. get_or join_lines k []) found
    where
      f : Row
      f = get_or join_lines j []

      test : Row → Bool
      test i = same (word i 3) (word f 3) && same (word i 4) (word f 4)

      found : place test join_lines ≡ j
      found = elim (dec_lt (place test join_lines) j) [
        | yes l ↦
            let (a, b) = both_true _ _ _ _ ((place_is test [] join_lines).passes (omega arith)) in
            absurd (joins_apart r (omega (arith, g.outputs-most)) (place test join_lines) j l h
            (ap (λ v. input_named d (unit_named d v)
            (word (get_or join_lines (place test join_lines) []) 4)) a
            ∙ ap (input_named d (unit_named d (word f 3))) b))
        | no l ↦ elim (dec_lt j (place test join_lines)) [
          | yes k ↦ absurd (clash (test f)
              (both-same (word f 3) (word f 3) (word f 4) (word f 4) refl refl)
              ((place_is test [] join_lines).below j k))
          | no k ↦ omega arith
        ]
      ]

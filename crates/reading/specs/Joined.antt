-- The source of each input: the output of the first line that joins the input.
use Rattle.std.specs.Prelude.{
  ℕ,
  zero,
  suc,
  ◌<◌,
  ◌≤◌,
  ◌≡◌,
  refl,
  Bool,
  true,
  false,
  not,
  cond,
  List,
  [],
  ◌∷◌,
  ◌++◌,
  map,
  length,
  set,
  T,
  eqb,
}
use Rattle.std.proofs.Math.Path.{ap}
use Rattle.std.proofs.Common.{
  sym,
  ◌∙◌,
  arith,
  length-append,
  get_or-set_same,
  get_or-set_other,
  eqb-true,
  eq-eqb,
  ne_eqb,
}
use Rattle.std.proofs.lemmas.List.{map-append, length-map}
use Rattle.std.proofs.Math.Decide.{ℕ_discrete}
use Rattle.std.proofs.Math.ListN.{get_or}
use Rattle.search.specs.Truth.{is_true, is_false}
use Rattle.grammar.specs.Quoted.{ascii}
use Rattle.grammar.specs.Words.{same}
use Rattle.grammar.specs.Same.{same_self}
use Rattle.grammar.specs.Rows.{word}
use Rattle.grammar.specs.Opening.{Row, lines_of}
use Rattle.grammar.specs.Draft.{Draft, Input, unjoined, no_input, unit_named, output_named}
use Rattle.grammar.specs.Draft.{
  input_named,
  add_unit,
  add_output,
  add_input,
  add_feed,
  add_join,
  joined,
}
use Rattle.reading.specs.Takes.{takes-unit, takes-output, takes-input}
use Rattle.reading.specs.Takes.{takes-feed, takes-join, Takes, Runs, ends, goes_on}
use Rattle.reading.specs.Parts.{map_in}
use Rattle.reading.specs.Declared.{onward, outputs-run, unit-stays, output-stays, input-stays}

-- the input and the output that a line joins, with numbers from the draft d
abbrev pub join_input : Draft → Row → ℕ
join_input d f = input_named d (unit_named d (word f 3)) (word f 4)

abbrev pub join_output : Draft → Row → ℕ
join_output d f = output_named d (unit_named d (word f 1)) (word f 2)

-- the output that the first of these lines joins input x to
unfoldable pub source_by : Draft → ℕ → List Row → ℕ
source_by d x [] = unjoined
source_by d x (f ∷ fs) = cond (eqb (join_input d f) x) (join_output d f) (source_by d x fs)

-- the source of input x; what is no input is not joined
abbrev pub source_at : Draft → ℕ → ℕ
source_at d x = get_or (map (λ (i : Input). i.source) d.inputs) x unjoined

-- ---- lists
more_default : {A : Type 0} (xs : List A) (a : A) (i : ℕ) → get_or (xs ++ (a ∷ [])) i a
    ≡ get_or xs i a
more_default [] a zero = refl
more_default [] a (suc i) = refl
more_default (x ∷ xs) a zero = refl
more_default (x ∷ xs) a (suc i) = more_default xs a i

map-set : {A B : Type 0} (f : A → B) (xs : List A) (i : ℕ) (a : A)
    → map f (set xs i a) ≡ set (map f xs) i (f a)
map-set f [] i a = refl
map-set f (x ∷ xs) zero a = refl
map-set f (x ∷ xs) (suc i) a = ap (λ r. f x ∷ r) (map-set f xs i a)

-- ---- the lines that open with w, with one line more
pub first_more : (w : List ℕ) (f : Row) (fs : List Row) → word f 0 ≡ w
    → lines_of (f ∷ fs) w ≡ f ∷ lines_of fs w
unfolding lines_of
first_more w f fs e = rw (e, is_true (same w w) (same_self w))

pub none_more : (w : List ℕ) (f : Row) (fs : List Row) (v : List ℕ) → word f 0 ≡ v
    → T (not (same v w))
    → lines_of (f ∷ fs) w ≡ lines_of fs w
unfolding lines_of
none_more w f fs v e n = rw (e, is_false (same v w) n)

-- s where it is joined, else the source by these lines
unfoldable pub or_by : ℕ → Draft → ℕ → List Row → ℕ
or_by s d x fs = cond (eqb s unjoined) (source_by d x (lines_of fs (ascii "join"))) s

or_first : (s : ℕ) (d : Draft) (x : ℕ) → s ≡ or_by s d x []
unfolding or_by source_by lines_of
or_first s d x = go (eqb s 255) refl
  where
    go : (b : Bool) → eqb s 255 ≡ b → s ≡ cond b 255 s
    go true e = eqb-true s 255 e
    go false e = refl

or_none : (s : ℕ) (d : Draft) (x : ℕ) (f : Row) (fs : List Row) (v : List ℕ)
    → word f 0 ≡ v → T (not (same v (ascii "join"))) → or_by s d x fs ≡ or_by s d x (f ∷ fs)
unfolding or_by
or_none s d x f fs v e n = rw (none_more (ascii "join") f fs v e n)

-- a line that joins input x, which was not joined, to output y; and one that joins another
or_joins : (d : Draft) (x y : ℕ) (f : Row) (fs : List Row) → word f 0 ≡ ascii "join"
    → join_input d f ≡ x → join_output d f ≡ y → (y ≡ unjoined → ⊥)
    → or_by y d x fs ≡ or_by unjoined d x (f ∷ fs)
unfolding or_by source_by
or_joins d x y f fs e p q n =
    rw (ne_eqb y 255 n, first_more (ascii "join") f fs e, p, eq-eqb x x refl, q)

or_other : (s : ℕ) (d : Draft) (x : ℕ) (f : Row) (fs : List Row) → word f 0 ≡ ascii "join"
    → (join_input d f ≡ x → ⊥) → or_by s d x fs ≡ or_by s d x (f ∷ fs)
unfolding or_by source_by
or_other s d x f fs e n = rw (first_more (ascii "join") f fs e, ne_eqb (join_input d f) x n)

-- ---- the sources after an input more, and after a join
pub source_more : (d : Draft) (i : Input) → i.source ≡ unjoined → (x : ℕ)
    → source_at (add_input d i) x ≡ source_at d x
unfolding add_input
source_more d i e x =
    ap (λ l. get_or l x 255) (map-append (λ (i : Input). i.source) d.inputs (i ∷ []))
    ∙ rw e (more_default (map (λ (i : Input). i.source) d.inputs) 255 x)

module _ (d : Draft) (a y : ℕ) where
  abbrev were : List ℕ
  were = map (λ (i : Input). i.source) d.inputs

  join_source : (x : ℕ) → source_at (add_join d a y) x ≡ get_or (set were a y) x unjoined
  unfolding add_join joined
  join_source x = ap (λ l. get_or l x 255) (map-set (λ (i : Input). i.source) d.inputs a _)

  pub source-joined : a < length d.inputs → source_at (add_join d a y) a ≡ y
  source-joined h = join_source a
      ∙ get_or-set_same were a y 255 (rw (length-map d.inputs (λ (i : Input). i.source)) h)

  pub source-other : (x : ℕ) → (x ≡ a → ⊥) → source_at (add_join d a y) x ≡ source_at d x
  source-other x n = join_source x ∙ get_or-set_other were a x y 255 n

  pub source_free : a < length d.inputs → (get_or d.inputs a no_input).source ≡ unjoined
      → source_at d a ≡ unjoined
  source_free h e = map_in (λ (i : Input). i.source) no_input 255 d.inputs a h ∙ e

  -- a line that joins input a, which was not joined, to output y
  or_join : (last : Draft) (f : Row) (fs : List Row) → word f 0 ≡ ascii "join"
      → join_input last f ≡ a
      → join_output last f ≡ y → a < length d.inputs
      → (get_or d.inputs a no_input).source ≡ unjoined
      → y < unjoined
      → (x : ℕ) → or_by (source_at (add_join d a y) x) last x fs
      ≡ or_by (source_at d x) last x (f ∷ fs)
  or_join last f fs w p q h e l x = elim (ℕ_discrete x a) [
    | yes z ↦ rw z (ap (λ s. or_by s last a fs) (source-joined h)
        ∙ or_joins last a y f fs w p q (λ z. omega arith)
        ∙ ap (λ s. or_by s last a (f ∷ fs)) (sym (source_free h e)))
    | no z ↦ ap (λ s. or_by s last x fs) (source-other x z)
        ∙ or_other (source_at d x) last x f fs w (λ i. z (sym i ∙ p))
  ]

-- ---- a join line's input and output keep their numbers
module _ {d last : Draft} {k : ℕ} {fs : List Row} (r : Runs d k fs last) (f : Row) where
  pub join-input-stays : unit_named d (word f 3) < length d.units
      → join_input d f < length d.inputs
      → join_input last f ≡ join_input d f
  join-input-stays u x =
      ap (λ u. input_named last u (word f 4)) (sym (unit-stays r (word f 3) u))
      ∙ sym (input-stays r _ (word f 4) x)

  join-output-stays : unit_named d (word f 1) < length d.units
      → join_output d f < length d.outputs
      → join_output last f ≡ join_output d f
  join-output-stays u y =
      ap (λ u. output_named last u (word f 2)) (sym (unit-stays r (word f 1) u))
      ∙ sym (output-stays r _ (word f 2) y)

pub outputs-more : {d last : Draft} {k : ℕ} {fs : List Row} → Runs d k fs last
    → length d.outputs ≤ length last.outputs
unfolding onward
outputs-more r = rw (outputs-run r, length-append) (omega arith)

pub sources-run : {d last : Draft} {k : ℕ} {fs : List Row} → Runs d k fs last
    → length last.outputs ≤ 255 → (x : ℕ) → source_at last x ≡ or_by (source_at d x) last x fs
unfolding same add_unit add_output add_feed
sources-run ends m x = or_first _ _ _
sources-run {d} (goes_on {last = last} {k = k} {f = f} {fs = fs} t r) m x =
    step t (sources-run r m x)
  where
    step : {e : Draft} → Takes d k f e
        → source_at last x ≡ or_by (source_at e x) last x fs
        → source_at last x ≡ or_by (source_at d x) last x (f ∷ fs)
    step (takes-unit w n) b = b ∙ or_none _ _ _ _ _ _ w tt
    step (takes-output w u n) b = b ∙ or_none _ _ _ _ _ _ w tt
    step (takes-input w u n) b =
        b ∙ ap (λ s. or_by s last x fs) (source_more d _ refl x) ∙ or_none _ _ _ _ _ _ w tt
    step (takes-feed w u y z) b = b ∙ or_none _ _ _ _ _ _ w tt
    step (takes-join w u y v z s) b =
        let g = goes_on t r in
        b ∙ or_join d _ _ last f fs w (join-input-stays g f v z) (join-output-stays g f u y) z s
        (omega (arith, outputs-more g)) x

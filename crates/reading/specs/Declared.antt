-- What the lines that are taken declare, in line order, with numbers from the draft they end at.
use Rattle.std.specs.Prelude.{
  ℕ,
  ◌<◌,
  ◌≡◌,
  refl,
  Bool,
  not,
  ◌&&◌,
  List,
  [],
  ◌∷◌,
  ◌++◌,
  map,
  length,
  T,
  eqb,
}
use Rattle.std.proofs.Common.{ap, ◌∙◌, append-nil}
use Rattle.std.proofs.Math.Path.{sym}
use Rattle.std.proofs.lemmas.List.{map-append, length-map}
use Rattle.std.proofs.Math.Seq.{append_snoc, map-set_same}
use Rattle.search.specs.Truth.{is_true, is_false}
use Rattle.grammar.specs.Quoted.{ascii}
use Rattle.grammar.specs.Words.{same}
use Rattle.grammar.specs.Same.{same_self}
use Rattle.grammar.specs.Rows.{word, place}
use Rattle.grammar.specs.Opening.{Row, lines_of}
use Rattle.grammar.specs.Draft.{Draft, Output, Input, Feed, no_input, unit_named, output_named}
use Rattle.grammar.specs.Draft.{
  input_named,
  add_unit,
  add_output,
  add_input,
  add_feed,
  add_join,
  joined,
}
use Rattle.grammar.specs.Lines.{kind_of}
use Rattle.reading.specs.Takes.{takes-unit, takes-output, takes-input}
use Rattle.reading.specs.Takes.{takes-feed, takes-join, Takes, Runs, ends, goes_on}
use Rattle.reading.specs.Found.{place-front, place_map}

-- what there was, and behind it what each line that opens with w gives
unfoldable pub onward : {B : Type 0} → List ℕ → (Row → B) → List B → List Row → List B
onward w g xs fs = xs ++ map g (lines_of fs w)

-- ---- one line more that opens with w, or with another word
module _ {B : Type 0} (w : List ℕ) (g : Row → B) (xs : List B) where
  at_first : xs ≡ onward w g xs []
  unfolding onward lines_of
  at_first = sym (append-nil xs)

  module _ (f : Row) (fs : List Row) where
    one-more : (x : B) → word f 0 ≡ w → x ≡ g f
        → onward w g (xs ++ (x ∷ [])) fs ≡ onward w g xs (f ∷ fs)
    unfolding onward lines_of
    one-more x e s =
        rw (e, is_true (same w w) (same_self w), s) (append_snoc xs (g f) (map g (lines_of fs w)))

    no_more : (v : List ℕ) → word f 0 ≡ v → T (not (same v w))
        → onward w g xs fs ≡ onward w g xs (f ∷ fs)
    unfolding onward lines_of
    no_more v e n = rw (e, is_false (same v w) n)

pub units-run : {d last : Draft} {k : ℕ} {fs : List Row} → Runs d k fs last
    → last.units ≡ onward (ascii "unit") (λ f. word f 1) d.units fs
unfolding same add_unit add_output add_input add_feed add_join
units-run ends = at_first _ _ _
units-run {d} (goes_on {last = last} {k = k} {f = f} {fs = fs} t r) = step t (units-run r)
  where
    step : {e : Draft} → Takes d k f e
        → last.units ≡ onward (ascii "unit") (λ f. word f 1) e.units fs
        → last.units ≡ onward (ascii "unit") (λ f. word f 1) d.units (f ∷ fs)
    step (takes-unit w n) b = b ∙ one-more _ _ d.units _ _ _ w refl
    step (takes-output w u n) b = b ∙ no_more _ _ _ _ _ _ w tt
    step (takes-input w u n) b = b ∙ no_more _ _ _ _ _ _ w tt
    step (takes-feed w u x y) b = b ∙ no_more _ _ _ _ _ _ w tt
    step (takes-join w u y v x s) b = b ∙ no_more _ _ _ _ _ _ w tt

-- ---- what a line declares, with numbers from the draft d

abbrev pub output_by : Draft → Row → Output
output_by d f = record { owner = unit_named d (word f 1); name = word f 2 }

-- an input without its source and its line
abbrev pub bare : Input → Input
bare i = record { owner = i.owner; name = i.name; kind = i.kind; source = 0; line = 0 }

abbrev pub input_by : Draft → Row → Input
input_by d f = record {
  owner = unit_named d (word f 1);
  name = word f 2;
  kind = kind_of (word f 3);
  source = 0;
  line = 0;
}

abbrev pub feed_by : Draft → Row → Feed
feed_by d f = record {
  input = input_named d (unit_named d (word f 1)) (word f 2);
  output = output_named d (unit_named d (word f 1)) (word f 3);
}

-- ---- a name keeps its number

pub unit-stays : {d last : Draft} {k : ℕ} {fs : List Row} → Runs d k fs last
    → (w : List ℕ) → unit_named d w < length d.units → unit_named d w ≡ unit_named last w
unfolding unit_named onward
unit-stays {d} r w h = rw (units-run r) (sym (place-front (λ n. same n w) d.units _ h))

pub outputs-run : {d last : Draft} {k : ℕ} {fs : List Row} → Runs d k fs last
    → last.outputs ≡ onward (ascii "out") (output_by last) d.outputs fs
unfolding same add_unit add_output add_input add_feed add_join
outputs-run ends = at_first _ _ _
outputs-run {d} (goes_on {last = last} {k = k} {f = f} {fs = fs} t r) = step t (outputs-run r)
  where
    step : {e : Draft} → Takes d k f e
        → last.outputs ≡ onward (ascii "out") (output_by last) e.outputs fs
        → last.outputs ≡ onward (ascii "out") (output_by last) d.outputs (f ∷ fs)
    step (takes-unit w n) b = b ∙ no_more _ _ _ _ _ _ w tt
    step (takes-output w u n) b =
        let s = unit-stays (goes_on t r) _ u in b ∙ one-more _ _ d.outputs _ _ _ w (rw s)
    step (takes-input w u n) b = b ∙ no_more _ _ _ _ _ _ w tt
    step (takes-feed w u x y) b = b ∙ no_more _ _ _ _ _ _ w tt
    step (takes-join w u y v x s) b = b ∙ no_more _ _ _ _ _ _ w tt

pub output-stays : {d last : Draft} {k : ℕ} {fs : List Row} → Runs d k fs last
    → (u : ℕ) (w : List ℕ) → output_named d u w < length d.outputs
    → output_named d u w ≡ output_named last u w
unfolding output_named onward
output-stays {d} r u w h =
    rw (outputs-run r) (sym
    (place-front (λ o. eqb o.owner u && same o.name w) d.outputs _ h))

-- a join changes no more than a source
pub bare-join : (d : Draft) (x y : ℕ) → map bare (add_join d x y).inputs ≡ map bare d.inputs
unfolding add_join joined
bare-join d x y = map-set_same bare d.inputs x _ no_input refl

pub inputs-run : {d last : Draft} {k : ℕ} {fs : List Row} → Runs d k fs last
    → map bare last.inputs ≡ onward (ascii "in") (input_by last) (map bare d.inputs) fs
unfolding same add_unit add_output add_input add_feed
inputs-run ends = at_first _ _ _
inputs-run {d} (goes_on {last = last} {k = k} {f = f} {fs = fs} t r) = step t (inputs-run r)
  where
    step : {e : Draft} → Takes d k f e
        → map bare last.inputs ≡ onward (ascii "in") (input_by last) (map bare e.inputs) fs
        → map bare last.inputs ≡ onward (ascii "in") (input_by last) (map bare d.inputs) (f ∷ fs)
    step (takes-unit w n) b = b ∙ no_more _ _ _ _ _ _ w tt
    step (takes-output w u n) b = b ∙ no_more _ _ _ _ _ _ w tt
    step (takes-input w u n) b =
        let s = unit-stays (goes_on t r) _ u in
        b ∙ ap (λ z. onward (ascii "in") (input_by last) z fs) (map-append bare d.inputs _)
        ∙ one-more _ _ (map bare d.inputs) _ _ _ w (rw s)
    step (takes-feed w u x y) b = b ∙ no_more _ _ _ _ _ _ w tt
    step (takes-join w u y v x s) b =
        b ∙ ap (λ z. onward (ascii "in") (input_by last) z fs) (bare-join d _ _)
        ∙ no_more _ _ _ _ _ _ w tt

-- an input is found by what is left without its source and its line
pub named-bare : (d : Draft) (u : ℕ) (w : List ℕ)
    → place (λ i. eqb i.owner u && same i.name w) (map bare d.inputs) ≡ input_named d u w
unfolding input_named
named-bare d u w = place_map (λ i. eqb i.owner u && same i.name w) bare d.inputs

pub input-stays : {d last : Draft} {k : ℕ} {fs : List Row} → Runs d k fs last
    → (u : ℕ) (w : List ℕ) → input_named d u w < length d.inputs
    → input_named d u w ≡ input_named last u w
unfolding onward
input-stays {d} {last} r u w h =
    let p : Input → Bool = λ i. eqb i.owner u && same i.name w in
    let b : place p (map bare d.inputs) < length (map bare d.inputs) =
    rw (named-bare d u w, length-map d.inputs bare) h in
    sym (named-bare d u w) ∙ sym (place-front p (map bare d.inputs) _ b)
    ∙ ap (place p) (sym (inputs-run r)) ∙ named-bare last u w

pub feeds-run : {d last : Draft} {k : ℕ} {fs : List Row} → Runs d k fs last
    → last.feeds ≡ onward (ascii "feed") (feed_by last) d.feeds fs
unfolding same add_unit add_output add_input add_feed add_join
feeds-run ends = at_first _ _ _
feeds-run {d} (goes_on {last = last} {k = k} {f = f} {fs = fs} t r) = step t (feeds-run r)
  where
    step : {e : Draft} → Takes d k f e
        → last.feeds ≡ onward (ascii "feed") (feed_by last) e.feeds fs
        → last.feeds ≡ onward (ascii "feed") (feed_by last) d.feeds (f ∷ fs)
    step (takes-unit w n) b = b ∙ no_more _ _ _ _ _ _ w tt
    step (takes-output w u n) b = b ∙ no_more _ _ _ _ _ _ w tt
    step (takes-input w u n) b = b ∙ no_more _ _ _ _ _ _ w tt
    step (takes-feed w u x y) b =
        let g = goes_on t r in
        b ∙ one-more _ _ d.feeds _ _ _ w
        (rw (input-stays g _ _ x, output-stays g _ _ y, unit-stays g _ u))
    step (takes-join w u y v x s) b = b ∙ no_more _ _ _ _ _ _ w tt

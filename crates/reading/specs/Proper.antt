-- What every draft keeps, and how one declaration more keeps it.
use Rattle.std.specs.Prelude.{ℕ, ◌+◌, ◌<◌, ◌≤◌, ◌≡◌, ◌⊎◌, get_or, set}
use Rattle.std.proofs.Math.Path.{ap}
use Rattle.std.proofs.Common.{sym, ◌∙◌, get_or-set_other}
use Rattle.std.proofs.Math.Logic.{inl, inr}
use mathlib.Core.List.{List, [], ◌∷◌, ◌++◌}
use native.Mathlib.Omega.{arith}
use Rattle.std.proofs.Math.Decide.{dec_lt, ℕ_discrete}
use Rattle.std.proofs.Math.ListN.{length, length-append, length-set, get_or-append}
use Rattle.std.proofs.Math.Seq.{get_or-append_seam, get_or-set_same}
use Rattle.grammar.specs.Draft.{Draft, Output, Input, Feed, blank, unjoined, no_input}
use Rattle.grammar.specs.Draft.{add_unit, add_output, add_input, add_feed, add_join, joined}

abbrev pub no_output : Output
no_output = record { owner = 0; name = [] }

abbrev pub no_feed : Feed
no_feed = record { input = 0; output = 0 }

pub record Proper (d : Draft) : Type 0 where
  pub units-most : length d.units ≤ 32
  pub outputs-most : length d.outputs ≤ 96
  pub inputs-most : length d.inputs ≤ 96
  pub feeds-most : length d.feeds ≤ 128
  pub output-owned : (y : ℕ) → y < length d.outputs
      → (get_or d.outputs y no_output).owner < length d.units
  pub input-owned : (x : ℕ) → x < length d.inputs
      → (get_or d.inputs x no_input).owner < length d.units
  pub kind-known : (x : ℕ) → x < length d.inputs → (get_or d.inputs x no_input).kind ≤ 1
  pub sourced : (x : ℕ) → x < length d.inputs
      → ((get_or d.inputs x no_input).source ≡ unjoined) ⊎
      ((get_or d.inputs x no_input).source < length d.outputs)
  pub feed-input : (k : ℕ) → k < length d.feeds
      → (get_or d.feeds k no_feed).input < length d.inputs
  pub feed-output : (k : ℕ) → k < length d.feeds
      → (get_or d.feeds k no_feed).output < length d.outputs
  pub feed-unit : (k : ℕ) → k < length d.feeds
      → (get_or d.inputs (get_or d.feeds k no_feed).input no_input).owner
      ≡ (get_or d.outputs (get_or d.feeds k no_feed).output no_output).owner
  pub feed-once : (j k : ℕ) → j < k → k < length d.feeds
      → (get_or d.feeds j no_feed).input ≡ (get_or d.feeds k no_feed).input
      → (get_or d.feeds j no_feed).output ≡ (get_or d.feeds k no_feed).output → ⊥

pub blank-proper : Proper blank
unfolding blank
blank-proper = record {
  units-most = omega arith;
  outputs-most = omega arith;
  inputs-most = omega arith;
  feeds-most = omega arith;
  output-owned = λ i h. absurd (omega arith);
  input-owned = λ i h. absurd (omega arith);
  kind-known = λ i h. absurd (omega arith);
  sourced = λ i h. absurd (omega arith);
  feed-input = λ i h. absurd (omega arith);
  feed-output = λ i h. absurd (omega arith);
  feed-unit = λ i h. absurd (omega arith);
  feed-once = λ j k h l. absurd (omega arith);
}

-- a property of each element, after one more
pub each_more : {A : Type 0} (P : A → Type 0) (xs : List A) (x e : A)
    → ((i : ℕ) → i < length xs → P (get_or xs i e)) → P x
    → (i : ℕ) → i < length (xs ++ (x ∷ [])) → P (get_or (xs ++ (x ∷ [])) i e)
each_more P xs x e h p i g =
    let q : length (xs ++ (x ∷ [])) ≡ length xs + 1 = length-append xs (x ∷ []) in
    elim (dec_lt i (length xs)) [
      | yes k ↦ rw (get_or-append xs (x ∷ []) e i k) (h i k)
      | no k ↦ let z : i ≡ length xs = omega arith in rw (z, get_or-append_seam xs x [] e) p
    ]

module _ (d : Draft) (g : Proper d) where
  pub unit-proper : (n : List ℕ) → length d.units < 32 → Proper (add_unit d n)
  unfolding add_unit
  unit-proper n k =
      let q : length (d.units ++ (n ∷ [])) ≡ length d.units + 1 =
      length-append d.units (n ∷ []) in
      record {
        units-most = omega arith;
        outputs-most = g.outputs-most;
        inputs-most = g.inputs-most;
        feeds-most = g.feeds-most;
        output-owned = λ i h. omega (arith, g.output-owned i h);
        input-owned = λ i h. omega (arith, g.input-owned i h);
        kind-known = g.kind-known;
        sourced = g.sourced;
        feed-input = g.feed-input;
        feed-output = g.feed-output;
        feed-unit = g.feed-unit;
        feed-once = g.feed-once;
      }

  pub output-proper : (o : Output) → o.owner < length d.units → length d.outputs < 96
      → Proper (add_output d o)
  unfolding add_output
  output-proper o p k =
      let q : length (d.outputs ++ (o ∷ [])) ≡ length d.outputs + 1 =
      length-append d.outputs (o ∷ []) in
      record {
        units-most = g.units-most;
        outputs-most = omega arith;
        inputs-most = g.inputs-most;
        feeds-most = g.feeds-most;
        output-owned =
            each_more (λ z. z.owner < length d.units) d.outputs o no_output
            g.output-owned p;
        input-owned = g.input-owned;
        kind-known = g.kind-known;
        sourced = λ i h. elim (g.sourced i h) [ inl z ↦ inl z | inr z ↦ inr (omega arith) ];
        feed-input = g.feed-input;
        feed-output = λ i h. omega (arith, g.feed-output i h);
        feed-unit = λ i h. g.feed-unit i h ∙ ap (λ (z : Output). z.owner)
            (sym (get_or-append d.outputs (o ∷ []) no_output (get_or d.feeds i no_feed).output
            (g.feed-output i h)));
        feed-once = g.feed-once;
      }

  pub input-proper : (i : Input) → i.owner < length d.units → i.kind ≤ 1 → i.source ≡ unjoined
      → length d.inputs < 96 → Proper (add_input d i)
  unfolding add_input
  input-proper i p r s k =
      let q : length (d.inputs ++ (i ∷ [])) ≡ length d.inputs + 1 =
      length-append d.inputs (i ∷ []) in
      record {
        units-most = g.units-most;
        outputs-most = g.outputs-most;
        inputs-most = omega arith;
        feeds-most = g.feeds-most;
        output-owned = g.output-owned;
        input-owned =
            each_more (λ z. z.owner < length d.units) d.inputs i no_input g.input-owned p;
        kind-known = each_more (λ z. z.kind ≤ 1) d.inputs i no_input g.kind-known r;
        sourced =
            each_more (λ z. (z.source ≡ unjoined) ⊎ (z.source < length d.outputs))
            d.inputs i no_input
            g.sourced (inl s);
        feed-input = λ j h. omega (arith, g.feed-input j h);
        feed-output = g.feed-output;
        feed-unit = λ j h. ap (λ (z : Input). z.owner)
            (get_or-append d.inputs (i ∷ []) no_input (get_or d.feeds j no_feed).input
            (g.feed-input j h))
            ∙ g.feed-unit j h;
        feed-once = g.feed-once;
      }

  pub feed-proper : (f : Feed) → f.input < length d.inputs → f.output < length d.outputs
      → (get_or d.inputs f.input no_input).owner ≡ (get_or d.outputs f.output no_output).owner
      → ((k : ℕ) → k < length d.feeds → (get_or d.feeds k no_feed).input ≡ f.input
      → (get_or d.feeds k no_feed).output ≡ f.output → ⊥)
      → length d.feeds < 128 → Proper (add_feed d f)
  unfolding add_feed
  feed-proper f x y o n k =
      let q : length (d.feeds ++ (f ∷ [])) ≡ length d.feeds + 1 =
      length-append d.feeds (f ∷ []) in
      record {
        units-most = g.units-most;
        outputs-most = g.outputs-most;
        inputs-most = g.inputs-most;
        feeds-most = omega arith;
        output-owned = g.output-owned;
        input-owned = g.input-owned;
        kind-known = g.kind-known;
        sourced = g.sourced;
        feed-input =
            each_more (λ z. z.input < length d.inputs) d.feeds f no_feed g.feed-input x;
        feed-output =
            each_more (λ z. z.output < length d.outputs) d.feeds f no_feed g.feed-output y;
        feed-unit = each_more
            (λ z. (get_or d.inputs z.input no_input).owner
            ≡ (get_or d.outputs z.output no_output).owner)
            d.feeds f no_feed g.feed-unit o;
        feed-once = λ j i h l.
            let b : j < length d.feeds = omega arith in
            elim (dec_lt i (length d.feeds)) [
              | yes m ↦ rw (
                get_or-append d.feeds (f ∷ []) no_feed j b,
                get_or-append d.feeds (f ∷ []) no_feed i m,
              )
                  (g.feed-once j i h m)
              | no m ↦ let z : i ≡ length d.feeds = omega arith in
                  rw (
                    get_or-append d.feeds (f ∷ []) no_feed j b,
                    z,
                    get_or-append_seam d.feeds f [] no_feed,
                  ) (n j b)
            ];
      }

  -- ---- input x joined to output y
  module _ (x y : ℕ) (h : x < length d.inputs) where
    abbrev now : Input
    now = joined (get_or d.inputs x no_input) y

    set-each : (P : Input → Type 0)
        → ((i : ℕ) → i < length d.inputs → P (get_or d.inputs i no_input)) → P now
        → (i : ℕ) → i < length (set d.inputs x now) → P (get_or (set d.inputs x now) i no_input)
    set-each P a b i l = elim (ℕ_discrete i x) [
      | yes z ↦ rw (z, get_or-set_same d.inputs x now no_input h) b
      | no z ↦ rw (get_or-set_other d.inputs x i now no_input z)
          (a i (rw (← length-set d.inputs x now) l))
    ]

    set-owner : (i : ℕ) → (get_or (set d.inputs x now) i no_input).owner
        ≡ (get_or d.inputs i no_input).owner
    unfolding joined
    set-owner i = elim (ℕ_discrete i x) [
      | yes z ↦ rw (z, get_or-set_same d.inputs x now no_input h)
      | no z ↦ rw (get_or-set_other d.inputs x i now no_input z)
    ]

    pub join-proper : y < length d.outputs → Proper (add_join d x y)
    unfolding add_join joined
    join-proper l =
        let q = length-set d.inputs x now in
        record {
          units-most = g.units-most;
          outputs-most = g.outputs-most;
          inputs-most = rw q g.inputs-most;
          feeds-most = g.feeds-most;
          output-owned = g.output-owned;
          input-owned =
              set-each (λ z. z.owner < length d.units) g.input-owned (g.input-owned x h);
          kind-known = set-each (λ z. z.kind ≤ 1) g.kind-known (g.kind-known x h);
          sourced =
              set-each (λ z. (z.source ≡ unjoined) ⊎ (z.source < length d.outputs))
              g.sourced (inr l);
          feed-input = λ k m. rw q (g.feed-input k m);
          feed-output = g.feed-output;
          feed-unit = λ k m. set-owner (get_or d.feeds k no_feed).input ∙ g.feed-unit k m;
          feed-once = g.feed-once;
        }

-- One declaration more in the notes is one more in the draft, and the notes still fit.
use Prim.Native.Nat.{ℕ, ◌+◌, ◌*◌, ◌≤◌, ◌<◌}
use mathlib.Core.Path.{◌≡◌, refl, sym, ap, ◌∙◌}
use mathlib.Core.List.{List}
use native.Mathlib.Omega.{arith}
use native.Mathlib.Nat.{zero-add}
use borrow.Author.Count.{below_more}
use lib.ListN.{length, get_or, set, length-set}
use lib.Seq.{get_or-set_same, get_or-set_other}
use Rattle.grammar.specs.Rows.{field_at}
use Rattle.grammar.specs.Draft.{
  add_unit,
  add_output,
  add_input,
  add_feed,
  add_join,
  joined,
  no_input,
}
use Rattle.notes.specs.Layout.{outputs_base, inputs_base, lines_base, owners_base}
use Rattle.notes.specs.Layout.{output_owners, input_owners, kinds_base, sources_base}
use Rattle.notes.specs.Layout.{feeds_base, fed_base, places_size, slots_size}
use Rattle.notes.specs.Listed.{listed, listed_more, listed-set, listed_at}
use Rattle.notes.specs.declared.Counts.{Counts}
use Rattle.notes.specs.Ranks.{name_at, Ranked}
use Rattle.notes.specs.Notes.{output_at, input_at, feed_at, draft_of, Fit, Stands}
use Rattle.notes.specs.Noted.{Kept, NameNoted, more_units, more_outputs, more_inputs, more_feeds}
use Rattle.notes.proofs.Kept.{kept-all, kept_set, units-kept, outputs-kept}
use Rattle.notes.proofs.Kept.{inputs-kept, feeds-kept, ranked-kept}
use Rattle.notes.proofs.Named.{others_ranked}

sums : (a b x n : ℕ) → n ≡ a + b → n + x ≡ a + (b + x)
sums a b x n e = omega arith

module _ (t p s : List ℕ) (c : Counts) (f : Fit t p s c) where
  -- a unit more; its owner's slot is 0
  module _ (q r : List ℕ) (b : ℕ) (h : c.units < 32)
      (n : NameNoted t p s q r 0 c.units b 0) where
    unit-fits : Fit t q r (more_units c)
    unit-fits = record {
      places-long = n.places-long ∙ f.places-long;
      slots-long = n.slots-long ∙ f.slots-long;
      units-most = omega arith;
      outputs-most = f.outputs-most;
      inputs-most = f.inputs-most;
      feeds-most = f.feeds-most;
      units-ranked = n.ranked;
      units-free = below_more _ _
          (λ i g. (n.slots_kept (owners_base + i) (owners_base + i + 1) (λ j a z x y. omega arith)
          (λ j a z e. omega arith)).at (owners_base + i)
          (omega arith) (omega arith) ∙ f.units-free i g)
          (ap (λ k. get_or r (owners_base + k) 0) (sym (zero-add c.units)) ∙ n.owner);
      outputs-ranked = others_ranked t p s q r 0 c.units b 0 outputs_base c.outputs n
          (omega arith) (λ j a z x y. omega arith) f.outputs-ranked;
      inputs-ranked = others_ranked t p s q r 0 c.units b 0 inputs_base c.inputs n
          (omega arith) (λ j a z x y. omega arith) f.inputs-ranked;
    }

    pub unit-noted : Stands t q r (more_units c) (add_unit (draft_of t p s c) (field_at t b))
    unfolding draft_of add_unit name_at
    unit-noted = record {
      fit = unit-fits;
      is = rw (
        listed_more (name_at t p) (name_at t q) c.units (field_at t b)
            (units-kept t p s q r c.units (n.places-kept 0 c.units (λ j a z e. omega arith)))
            (ap (λ k. field_at t (get_or q k 0)) (sym (zero-add c.units))
            ∙ ap (field_at t) n.place),
        outputs-kept t p s q r c.outputs
            (n.places-kept outputs_base (outputs_base + c.outputs) (λ j a z e. omega arith))
            (n.slots_kept output_owners (output_owners + c.outputs) (λ j a z x y. omega arith)
            (λ j a z e. omega arith)),
        inputs-kept t p s q r c.inputs
            (n.places-kept inputs_base (inputs_base + c.inputs) (λ j a z e. omega arith))
            (n.places-kept lines_base (lines_base + c.inputs) (λ j a z e. omega arith))
            (n.slots_kept input_owners (input_owners + c.inputs) (λ j a z x y. omega arith)
            (λ j a z e. omega arith))
            (n.slots_kept kinds_base (kinds_base + c.inputs) (λ j a z x y. omega arith)
            (λ j a z e. omega arith))
            (n.slots_kept sources_base (sources_base + c.inputs) (λ j a z x y. omega arith)
            (λ j a z e. omega arith)),
        feeds-kept t p s q r c.feeds
            (n.slots_kept feeds_base (feeds_base + 2 * c.feeds) (λ j a z x y. omega arith)
            (λ j a z e. omega arith)),
      );
    }

  -- an output more, of unit u
  module _ (q r : List ℕ) (b u : ℕ) (h : c.outputs < 96)
      (n : NameNoted t p s q r outputs_base c.outputs b u) where
    output-fits : Fit t q r (more_outputs c)
    output-fits = record {
      places-long = n.places-long ∙ f.places-long;
      slots-long = n.slots-long ∙ f.slots-long;
      units-most = f.units-most;
      outputs-most = omega arith;
      inputs-most = f.inputs-most;
      feeds-most = f.feeds-most;
      units-ranked = others_ranked t p s q r outputs_base c.outputs b u 0 c.units n
          (omega arith) (λ j a z x y. omega (arith, f.units-most)) f.units-ranked;
      units-free =
          λ i g.
          (n.slots_kept (owners_base + i) (owners_base + i + 1)
          (λ j a z x y. omega (arith, f.units-most))
          (λ j a z e. omega (arith, f.units-most))).at (owners_base + i)
          (omega arith) (omega arith) ∙ f.units-free i g;
      outputs-ranked = n.ranked;
      inputs-ranked = others_ranked t p s q r outputs_base c.outputs b u inputs_base c.inputs n
          (omega arith) (λ j a z x y. omega arith) f.inputs-ranked;
    }

    pub output-noted : Stands t q r (more_outputs c)
        (add_output (draft_of t p s c) (record { owner = u; name = field_at t b }))
    unfolding draft_of add_output output_at name_at
    output-noted = record {
      fit = output-fits;
      is = rw (
        units-kept t p s q r c.units
            (n.places-kept 0 c.units (λ j a z e. omega (arith, f.units-most))),
        listed_more (output_at t p s) (output_at t q r) c.outputs
            (record { owner = u; name = field_at t b })
            (outputs-kept t p s q r c.outputs
            (n.places-kept outputs_base (outputs_base + c.outputs) (λ j a z e. omega arith))
            (n.slots_kept output_owners (output_owners + c.outputs) (λ j a z x y. omega arith)
            (λ j a z e. omega arith)))
            (rw (
              n.place,
              ap (λ i. get_or r i 0)
                  (sums owners_base outputs_base c.outputs output_owners (omega arith)),
              n.owner,
            )),
        inputs-kept t p s q r c.inputs
            (n.places-kept inputs_base (inputs_base + c.inputs) (λ j a z e. omega arith))
            (n.places-kept lines_base (lines_base + c.inputs) (λ j a z e. omega arith))
            (n.slots_kept input_owners (input_owners + c.inputs) (λ j a z x y. omega arith)
            (λ j a z e. omega arith))
            (n.slots_kept kinds_base (kinds_base + c.inputs) (λ j a z x y. omega arith)
            (λ j a z e. omega arith))
            (n.slots_kept sources_base (sources_base + c.inputs) (λ j a z x y. omega arith)
            (λ j a z e. omega arith)),
        feeds-kept t p s q r c.feeds
            (n.slots_kept feeds_base (feeds_base + 2 * c.feeds) (λ j a z x y. omega arith)
            (λ j a z e. omega arith)),
      );
    }

  -- an input more, of unit u: its name, then its kind, its line and that it is not joined
  module _ (q r : List ℕ) (b u kind line : ℕ) (h : c.inputs < 96)
      (n : NameNoted t p s q r inputs_base c.inputs b u) where
    abbrev lined : List ℕ
    lined = set q (lines_base + c.inputs) line

    abbrev kinded : List ℕ
    kinded = set (set r (kinds_base + c.inputs) kind) (sources_base + c.inputs) 255

    places_stay : (a e : ℕ) → ((i : ℕ) → a ≤ i → i < e → i ≡ inputs_base + c.inputs → ⊥)
        → ((i : ℕ) → a ≤ i → i < e → i ≡ lines_base + c.inputs → ⊥) → Kept a e p lined
    places_stay a e i j = kept_set (lines_base + c.inputs) line (n.places-kept a e i) j

    slots_stay : (a e : ℕ) →
        ((i : ℕ) → a ≤ i → i < e → inputs_base ≤ i → i ≤ inputs_base + c.inputs → ⊥)
        → ((i : ℕ) → a ≤ i → i < e → i ≡ owners_base + (inputs_base + c.inputs) → ⊥)
        → ((i : ℕ) → a ≤ i → i < e → i ≡ kinds_base + c.inputs → ⊥)
        → ((i : ℕ) → a ≤ i → i < e → i ≡ sources_base + c.inputs → ⊥) → Kept a e s kinded
    slots_stay a e i j k l =
        kept_set (sources_base + c.inputs) 255
        (kept_set (kinds_base + c.inputs) kind (n.slots_kept a e i j) k) l

    -- ranks of the names after the name was noted
    ranks_stay : (d m : ℕ) → Ranked t q r d m → Ranked t lined kinded d m
    ranks_stay d m g =
        ranked-kept t q r lined kinded d m
        (kept_set (lines_base + c.inputs) line kept-all (λ j a z e. omega (arith, g.low)))
        (kept_set (sources_base + c.inputs) 255
        (kept_set (kinds_base + c.inputs) kind kept-all (λ j a z e. omega (arith, g.low)))
        (λ j a z e. omega (arith, g.low)))
        (kept_set (sources_base + c.inputs) 255
        (kept_set (kinds_base + c.inputs) kind kept-all (λ j a z e. omega (arith, g.low)))
        (λ j a z e. omega (arith, g.low)))
        g

    kinded-long : length kinded ≡ slots_size
    kinded-long =
        length-set (set r (kinds_base + c.inputs) kind) (sources_base + c.inputs) 255
        ∙ length-set r (kinds_base + c.inputs) kind
        ∙ n.slots-long ∙ f.slots-long

    input-fits : Fit t lined kinded (more_inputs c)
    input-fits = record {
      places-long = length-set q (lines_base + c.inputs) line ∙ n.places-long ∙ f.places-long;
      slots-long = kinded-long;
      units-most = f.units-most;
      outputs-most = f.outputs-most;
      inputs-most = omega arith;
      feeds-most = f.feeds-most;
      units-ranked = ranks_stay 0 c.units
          (others_ranked t p s q r inputs_base c.inputs b u 0 c.units n (omega arith)
          (λ j a z x y. omega (arith, f.units-most)) f.units-ranked);
      units-free =
          λ i g.
          (slots_stay (owners_base + i) (owners_base + i + 1)
          (λ j a z x y. omega (arith, f.units-most))
          (λ j a z e. omega (arith, f.units-most))
          (λ j a z e. omega (arith, f.units-most)) (λ j a z e. omega (arith, f.units-most))).at
          (owners_base + i)
          (omega arith) (omega arith) ∙ f.units-free i g;
      outputs-ranked = ranks_stay outputs_base c.outputs
          (others_ranked t p s q r inputs_base c.inputs b u outputs_base c.outputs n
          (omega arith) (λ j a z x y. omega (arith, f.outputs-most)) f.outputs-ranked);
      inputs-ranked = ranks_stay inputs_base (c.inputs + 1) n.ranked;
    }

    input-is : input_at t lined kinded c.inputs
        ≡ record { owner = u; name = field_at t b; kind = kind; source = 255; line = line }
    unfolding input_at name_at
    input-is =
        let x = c.inputs in
        let k = set r (kinds_base + x) kind in
        let long : length k ≡ slots_size =
        length-set r (kinds_base + x) kind ∙ n.slots-long ∙ f.slots-long in
        let room : length q ≡ places_size = n.places-long ∙ f.places-long in
        let wide : length r ≡ slots_size = n.slots-long ∙ f.slots-long in
        rw (
          get_or-set_other q (lines_base + x) (inputs_base + x) line 0 (λ e. omega arith),
          n.place,
          get_or-set_other k (sources_base + x) (input_owners + x) 255 0 (λ e. omega arith),
          get_or-set_other r (kinds_base + x) (input_owners + x) kind 0 (λ e. omega arith),
          ap (λ i. get_or r i 0) (sums owners_base inputs_base x input_owners (omega arith)),
          n.owner,
          get_or-set_other k (sources_base + x) (kinds_base + x) 255 0 (λ e. omega arith),
          get_or-set_same r (kinds_base + x) kind 0 (omega arith),
          get_or-set_same k (sources_base + x) 255 0 (omega arith),
          get_or-set_same q (lines_base + x) line 0 (omega arith),
        )

    pub input-noted : Stands t lined kinded (more_inputs c)
        (add_input (draft_of t p s c)
        (record { owner = u; name = field_at t b; kind = kind; source = 255; line = line }))
    unfolding draft_of add_input
    input-noted = record {
      fit = input-fits;
      is = rw (
        units-kept t p s lined kinded c.units
            (places_stay 0 c.units (λ j a z e. omega (arith, f.units-most))
            (λ j a z e. omega (arith, f.units-most))),
        outputs-kept t p s lined kinded c.outputs
            (places_stay outputs_base (outputs_base + c.outputs)
            (λ j a z e. omega (arith, f.outputs-most)) (λ j a z e. omega (arith, f.outputs-most)))
            (slots_stay output_owners (output_owners + c.outputs)
            (λ j a z x y. omega (arith, f.outputs-most))
            (λ j a z e. omega (arith, f.outputs-most))
            (λ j a z e. omega (arith, f.outputs-most))
            (λ j a z e. omega (arith, f.outputs-most))),
        listed_more (input_at t p s) (input_at t lined kinded) c.inputs
            (record { owner = u; name = field_at t b; kind = kind; source = 255; line = line })
            (inputs-kept t p s lined kinded c.inputs
            (places_stay inputs_base (inputs_base + c.inputs) (λ j a z e. omega arith)
            (λ j a z e. omega arith))
            (places_stay lines_base (lines_base + c.inputs) (λ j a z e. omega arith)
            (λ j a z e. omega arith))
            (slots_stay input_owners (input_owners + c.inputs) (λ j a z x y. omega arith)
            (λ j a z e. omega arith) (λ j a z e. omega arith) (λ j a z e. omega arith))
            (slots_stay kinds_base (kinds_base + c.inputs) (λ j a z x y. omega arith)
            (λ j a z e. omega arith) (λ j a z e. omega arith) (λ j a z e. omega arith))
            (slots_stay sources_base (sources_base + c.inputs) (λ j a z x y. omega arith)
            (λ j a z e. omega arith) (λ j a z e. omega arith) (λ j a z e. omega arith)))
            input-is,
        feeds-kept t p s lined kinded c.feeds
            (slots_stay feeds_base (feeds_base + 2 * c.feeds) (λ j a z x y. omega arith)
            (λ j a z e. omega arith) (λ j a z e. omega arith) (λ j a z e. omega arith)),
      );
    }

  -- ---- slots behind the names alone
  module _ (r : List ℕ) (long : length r ≡ slots_size) (k : Kept 0 kinds_base s r) where
    names_fit : (m : Counts) → m.units ≡ c.units → m.outputs ≡ c.outputs → m.inputs ≡ c.inputs
        → m.feeds ≤ 128 → Fit t p r m
    names_fit m a b d e = record {
      places-long = f.places-long;
      slots-long = long;
      units-most = rw a f.units-most;
      outputs-most = rw b f.outputs-most;
      inputs-most = rw d f.inputs-most;
      feeds-most = e;
      units-ranked = rw a (still 0 c.units f.units-ranked);
      units-free =
          λ i g. k.at (owners_base + i) (omega arith) (omega (arith, f.units-most))
          ∙ f.units-free i (omega arith);
      outputs-ranked = rw b (still outputs_base c.outputs f.outputs-ranked);
      inputs-ranked = rw d (still inputs_base c.inputs f.inputs-ranked);
    }
      where
        still : (x n : ℕ) → Ranked t p s x n → Ranked t p r x n
        still x n g = ranked-kept t p s p r x n kept-all
            (record { at = λ j a z. k.at j (omega arith) (omega (arith, g.low)) })
            (record { at = λ j a z. k.at j (omega arith) (omega (arith, g.low)) })
            g

  -- a feed more
  module _ (x y : ℕ) (h : c.feeds < 128) where
    abbrev fed : List ℕ
    fed = set (set s (feeds_base + 2 * c.feeds) x) (fed_base + 2 * c.feeds) y

    fed-kept : (a e : ℕ) → e ≤ feeds_base + 2 * c.feeds → Kept a e s fed
    fed-kept a e g =
        kept_set (fed_base + 2 * c.feeds) y
        (kept_set (feeds_base + 2 * c.feeds) x kept-all (λ i b z q. omega arith))
        (λ i b z q. omega arith)

    feed-is : feed_at fed c.feeds ≡ record { input = x; output = y }
    unfolding feed_at
    feed-is =
        let k = feeds_base + 2 * c.feeds in
        let long : length (set s k x) ≡ slots_size = length-set s k x ∙ f.slots-long in
        let wide : length s ≡ slots_size = f.slots-long in
        rw (
          get_or-set_other (set s k x) (fed_base + 2 * c.feeds) k y 0 (λ e. omega arith),
          get_or-set_same s k x 0 (omega arith),
          get_or-set_same (set s k x) (fed_base + 2 * c.feeds) y 0 (omega arith),
        )

    pub feed-noted : Stands t p fed (more_feeds c)
        (add_feed (draft_of t p s c) (record { input = x; output = y }))
    unfolding draft_of add_feed
    feed-noted = record {
      fit = names_fit fed
          (length-set (set s (feeds_base + 2 * c.feeds) x) (fed_base + 2 * c.feeds) y
          ∙ length-set s (feeds_base + 2 * c.feeds) x ∙ f.slots-long)
          (fed-kept 0 kinds_base (omega arith)) (more_feeds c) refl refl refl (omega arith);
      is = rw (
        outputs-kept t p s p fed c.outputs kept-all
            (fed-kept output_owners (output_owners + c.outputs) (omega (arith, f.outputs-most))),
        inputs-kept t p s p fed c.inputs kept-all kept-all
            (fed-kept input_owners (input_owners + c.inputs) (omega (arith, f.inputs-most)))
            (fed-kept kinds_base (kinds_base + c.inputs) (omega (arith, f.inputs-most)))
            (fed-kept sources_base (sources_base + c.inputs) (omega (arith, f.inputs-most))),
        listed_more (feed_at s) (feed_at fed) c.feeds (record { input = x; output = y })
            (feeds-kept t p s p fed c.feeds
            (fed-kept feeds_base (feeds_base + 2 * c.feeds) (omega arith))) feed-is,
      );
    }

  -- input x joined to output y
  module _ (x y : ℕ) (h : x < c.inputs) where
    abbrev sourced : List ℕ
    sourced = set s (sources_base + x) y

    sourced-kept : (a e : ℕ) → ((i : ℕ) → a ≤ i → i < e → i ≡ sources_base + x → ⊥)
        → Kept a e s sourced
    sourced-kept a e n = kept_set (sources_base + x) y kept-all n

    join-here : input_at t p sourced x
        ≡ joined (get_or (listed (input_at t p s) c.inputs) x no_input) y
    unfolding joined input_at
    join-here =
        let long : length s ≡ slots_size = f.slots-long in
        let most : c.inputs ≤ 96 = f.inputs-most in
        rw (
          listed_at (input_at t p s) c.inputs x no_input h,
          get_or-set_other s (sources_base + x) (input_owners + x) y 0 (λ e. omega arith),
          get_or-set_other s (sources_base + x) (kinds_base + x) y 0 (λ e. omega arith),
          get_or-set_same s (sources_base + x) y 0 (omega arith),
        )

    join-there : (i : ℕ) → i < c.inputs → (i ≡ x → ⊥) → input_at t p sourced i ≡ input_at t p s i
    unfolding input_at
    join-there i g n =
        let most : c.inputs ≤ 96 = f.inputs-most in
        rw (
          get_or-set_other s (sources_base + x) (input_owners + i) y 0 (λ e. omega arith),
          get_or-set_other s (sources_base + x) (kinds_base + i) y 0 (λ e. omega arith),
          get_or-set_other s (sources_base + x) (sources_base + i) y 0 (λ e. n (omega arith)),
        )

    pub join-noted : Stands t p sourced c (add_join (draft_of t p s c) x y)
    unfolding draft_of add_join
    join-noted =
        let most : c.inputs ≤ 96 = f.inputs-most in
        record {
          fit = names_fit sourced (length-set s (sources_base + x) y ∙ f.slots-long)
              (sourced-kept 0 kinds_base (λ i a z e. omega arith)) c refl refl refl f.feeds-most;
          is = rw (
            outputs-kept t p s p sourced c.outputs kept-all
                (sourced-kept output_owners (output_owners + c.outputs)
                (λ i a z e. omega (arith, f.outputs-most))),
            listed-set (input_at t p s) (input_at t p sourced) c.inputs x
                (joined (get_or (listed (input_at t p s) c.inputs) x no_input) y) h join-here
                join-there,
            feeds-kept t p s p sourced c.feeds
                (sourced-kept feeds_base (feeds_base + 2 * c.feeds) (λ i a z e. omega arith)),
          );
        }

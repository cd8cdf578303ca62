-- One law for each return of the lines that feed and join.
use Prim.Native.Nat.{ℕ, ◌+◌, ◌≤◌, ◌<◌}
use mathlib.Core.Path.{◌≡◌, refl, ap, ◌∙◌}
use mathlib.Core.Logic.{inl, inr}
use mathlib.Core.List.{List}
use native.Mathlib.Omega.{arith}
use lib.ListN.{get_or}
use borrow.Author.Tests.{eq-eqb, ne_eqb}
use Rattle.search.specs.Least.{least_from}
use Rattle.grammar.specs.Rows.{word}
use Rattle.grammar.specs.Draft.{
  Draft,
  unit_named,
  output_named,
  input_named,
  feed_of,
  add_feed,
  add_join,
}
use Rattle.grammar.specs.Lines.{refused, refuse, taken, feed_line, join_line}
use Rattle.notes.specs.Layout.{outputs_base, inputs_base, sources_base}
use Rattle.notes.specs.declared.Counts.{Counts}
use Rattle.notes.specs.Notes.{draft_of, Fit, named, is_fed}
use Rattle.notes.specs.Noted.{feed, join}
use Rattle.notes.proofs.Slots.{feeds-are, source_is, feed-found}
use Rattle.notes.proofs.Found.{unit-found, output-found, input-found}
use Rattle.lines.specs.declared.Port.{Port}
use Rattle.lines.specs.Took.{wire_entry, feed_entry, join_entry, Ported, Took}
use Rattle.lines.proofs.Counted.{Lets}
use Rattle.lines.proofs.Outcomes.{takes, declared, full, space, is-unit, no_unit, is-output}
use Rattle.lines.proofs.Outcomes.{no-output, is-input, no-input, is-feed, no-feed}

module _ (t p s : List ℕ) (c : Counts) (fit : Fit t p s c) (f : List (List ℕ)) (k : ℕ) where
  abbrev d : Draft
  d = draft_of t p s c

  -- the unit that a port's fields name
  unit-is : (i b n : ℕ) (r : Port) → Ported t p s c f i b n r → r.unit ≡ unit_named d (word f i)
  unit-is i b n r x = x.unit ∙ unit-found t p s c fit (word f i)

  -- ---- `feed`, unit, input, output
  module _ (h : Lets f 4 3) (r : Port) (x : Ported t p s c f 1 inputs_base c.inputs r) where
    feed-unit : r.unit ≡ unit_named d (word f 1)
    feed-unit = unit-is 1 inputs_base c.inputs r x

    pub feed_27 : (r.field ≡ 0 → ⊥) → refused 27 d ≡ feed_line d f
    unfolding feed_line refuse
    feed_27 n = elim (x.none n) [
      | inl g ↦ rw (h.counted, h.named, ← feed-unit, no_unit t p s c r.unit g)
      | inr (g, i) ↦ rw (
        h.counted,
        h.named,
        ← feed-unit,
        is-unit t p s c r.unit g,
        no-input t p s c (input_named d r.unit (word f 2))
            (omega (arith, input-found t p s c fit r.unit (word f 2))),
      )
    ]

    module _ (z : r.field ≡ 0) where
      feed-input : r.number ≡ input_named d r.unit (word f 2)
      feed-input = (x.some z).1.1 ∙ input-found t p s c fit r.unit (word f 2)

      module _ (v : List ℕ) (e : v ≡ word f 3) (y : ℕ)
          (q : y ≡ least_from (named t p s outputs_base r.unit v) c.outputs 0) where
        feed-output : y ≡ output_named d r.unit (word f 3)
        feed-output = q ∙ output-found t p s c fit r.unit v ∙ ap (output_named d r.unit) e

        pub feed_27_output : c.outputs ≤ y → refused 27 d ≡ feed_line d f
        unfolding feed_line refuse
        feed_27_output i =
            rw (
              h.counted,
              h.named,
              ← feed-unit,
              is-unit t p s c r.unit (x.some z).0,
              ← feed-input,
              is-input t p s c r.number (x.some z).1.0,
              ← feed-output,
              no-output t p s c y i,
            )

        module _ (i : y < c.outputs) (n : ℕ)
            (j : n ≡ least_from (is_fed s r.number y) c.feeds 0) where
          feed-is : n ≡ feed_of d r.number y
          feed-is = j ∙ feed-found t p s c r.number y

          pub feed_32 : n < c.feeds → refused 32 d ≡ feed_line d f
          unfolding feed_line refuse
          feed_32 w =
              rw (
                h.counted,
                h.named,
                ← feed-unit,
                is-unit t p s c r.unit (x.some z).0,
                ← feed-input,
                is-input t p s c r.number (x.some z).1.0,
                ← feed-output,
                is-output t p s c y i,
                ← feed-is,
                is-feed t p s c n w,
              )

          module _ (w : c.feeds ≤ n) where
            pub feed_29 : 128 ≤ c.feeds → refused 29 d ≡ feed_line d f
            unfolding feed_line refuse
            feed_29 m =
                rw (
                  h.counted,
                  h.named,
                  ← feed-unit,
                  is-unit t p s c r.unit (x.some z).0,
                  ← feed-input,
                  is-input t p s c r.number (x.some z).1.0,
                  ← feed-output,
                  is-output t p s c y i,
                  ← feed-is,
                  no-feed t p s c n w,
                  full _ _ 128 (feeds-are t p s c) m,
                )

            feed-more : c.feeds < 128
                → taken (add_feed d (record { input = r.number; output = y })) ≡ feed_line d f
            unfolding feed_line refuse
            feed-more m =
                rw (
                  h.counted,
                  h.named,
                  ← feed-unit,
                  is-unit t p s c r.unit (x.some z).0,
                  ← feed-input,
                  is-input t p s c r.number (x.some z).1.0,
                  ← feed-output,
                  is-output t p s c y i,
                  ← feed-is,
                  no-feed t p s c n w,
                  space _ _ 128 (feeds-are t p s c) m,
                )

            feed-entry : wire_entry 4 r.number y ≡ feed_entry d f 0
            unfolding feed_entry
            feed-entry = rw (← feed-unit, ← feed-input, ← feed-output)

            pub feed-takes : c.feeds < 128
                → Took t p s c k (feed_entry d f) (takes (wire_entry 4 r.number y)) (feed_line d f)
            feed-takes m =
                declared t p s c k (feed_entry d f) (feed_line d f) (wire_entry 4 r.number y) _
                (feed (wire_entry 4 r.number y) refl refl m) (feed-more m) feed-entry

  -- ---- `join`, unit, output, unit, input
  module _ (h : Lets f 5 4) (r : Port) (x : Ported t p s c f 1 outputs_base c.outputs r) where
    from-unit : r.unit ≡ unit_named d (word f 1)
    from-unit = unit-is 1 outputs_base c.outputs r x

    pub join_27_from : (r.field ≡ 0 → ⊥) → refused 27 d ≡ join_line d f
    unfolding join_line refuse
    join_27_from n = elim (x.none n) [
      | inl g ↦ rw (h.counted, h.named, ← from-unit, no_unit t p s c r.unit g)
      | inr (g, i) ↦ rw (
        h.counted,
        h.named,
        ← from-unit,
        is-unit t p s c r.unit g,
        no-output t p s c (output_named d r.unit (word f 2))
            (omega (arith, output-found t p s c fit r.unit (word f 2))),
      )
    ]

    module _ (z : r.field ≡ 0) (o : Port) (y : Ported t p s c f 3 inputs_base c.inputs o) where
      from-output : r.number ≡ output_named d r.unit (word f 2)
      from-output = (x.some z).1.1 ∙ output-found t p s c fit r.unit (word f 2)

      to-unit : o.unit ≡ unit_named d (word f 3)
      to-unit = unit-is 3 inputs_base c.inputs o y

      pub join_27_to : (o.field ≡ 0 → ⊥) → refused 27 d ≡ join_line d f
      unfolding join_line refuse
      join_27_to n = elim (y.none n) [
        | inl g ↦ rw (
          h.counted,
          h.named,
          ← from-unit,
          is-unit t p s c r.unit (x.some z).0,
          ← from-output,
          is-output t p s c r.number (x.some z).1.0,
          ← to-unit,
          no_unit t p s c o.unit g,
        )
        | inr (g, i) ↦ rw (
          h.counted,
          h.named,
          ← from-unit,
          is-unit t p s c r.unit (x.some z).0,
          ← from-output,
          is-output t p s c r.number (x.some z).1.0,
          ← to-unit,
          is-unit t p s c o.unit g,
          no-input t p s c (input_named d o.unit (word f 4))
              (omega (arith, input-found t p s c fit o.unit (word f 4))),
        )
      ]

      module _ (w : o.field ≡ 0) where
        to-input : o.number ≡ input_named d o.unit (word f 4)
        to-input = (y.some w).1.1 ∙ input-found t p s c fit o.unit (word f 4)

        pub join_30 : (get_or s (sources_base + o.number) 0 ≡ 255 → ⊥) → refused 30 d
            ≡ join_line d f
        unfolding join_line refuse
        join_30 n =
            rw (
              h.counted,
              h.named,
              ← from-unit,
              is-unit t p s c r.unit (x.some z).0,
              ← from-output,
              is-output t p s c r.number (x.some z).1.0,
              ← to-unit,
              is-unit t p s c o.unit (y.some w).0,
              ← to-input,
              is-input t p s c o.number (y.some w).1.0,
              source_is t p s c o.number (y.some w).1.0,
              ne_eqb (get_or s (sources_base + o.number) 0) 255 n,
            )

        join_more : get_or s (sources_base + o.number) 0 ≡ 255
            → taken (add_join d o.number r.number) ≡ join_line d f
        unfolding join_line refuse
        join_more n =
            rw (
              h.counted,
              h.named,
              ← from-unit,
              is-unit t p s c r.unit (x.some z).0,
              ← from-output,
              is-output t p s c r.number (x.some z).1.0,
              ← to-unit,
              is-unit t p s c o.unit (y.some w).0,
              ← to-input,
              is-input t p s c o.number (y.some w).1.0,
              source_is t p s c o.number (y.some w).1.0,
              eq-eqb (get_or s (sources_base + o.number) 0) 255 n,
            )

        join-entry : wire_entry 5 o.number r.number ≡ join_entry d f 0
        unfolding join_entry
        join-entry = rw (← from-unit, ← from-output, ← to-unit, ← to-input)

        pub join-takes : get_or s (sources_base + o.number) 0 ≡ 255
            → Took t p s c k (join_entry d f) (takes (wire_entry 5 o.number r.number))
            (join_line d f)
        join-takes n =
            declared t p s c k (join_entry d f) (join_line d f)
            (wire_entry 5 o.number r.number) _
            (join (wire_entry 5 o.number r.number) refl refl (y.some w).1.0)
            (join_more n) join-entry

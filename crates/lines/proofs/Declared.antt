-- One law for each return of the lines that declare a unit, an output or an input.
use Prim.Native.Nat.{ℕ, ◌≤◌, ◌<◌}
use mathlib.Core.Path.{◌≡◌, refl, sym, ap, subst, ◌∙◌}
use mathlib.Core.Bool.{Bool, true, false}
use mathlib.Core.List.{List}
use native.Mathlib.Omega.{arith}
use lib.ListN.{get_or}
use borrow.Author.Tests.{eq-eqb, ne_eqb}
use Rattle.search.specs.Least.{least_from}
use Rattle.grammar.specs.Rows.{row_at, word, field_at}
use Rattle.grammar.specs.Draft.{Draft, Input, unjoined, unit_named, output_named}
use Rattle.grammar.specs.Draft.{input_named, add_unit, add_output, add_input}
use Rattle.grammar.specs.Lines.{refused, refuse, taken, unit_line, out_line, in_line, kind_of}
use Rattle.fields.specs.declared.Fields.{Fields}
use Rattle.notes.specs.Layout.{outputs_base, inputs_base}
use Rattle.notes.specs.declared.Counts.{Counts}
use Rattle.notes.specs.Notes.{draft_of, Fit, named}
use Rattle.notes.specs.Ranks.{Between, Spotted}
use Rattle.notes.specs.Noted.{unit, output, input}
use Rattle.notes.proofs.Slots.{units-are, outputs-are, inputs_are}
use Rattle.notes.proofs.Found.{unit-found, unit-there, unit-new, output-there}
use Rattle.notes.proofs.Found.{output-new, input-there, input-new}
use Rattle.lines.specs.Took.{Told, name_entry, unit_entry, out_entry, in_entry, Took}
use Rattle.lines.proofs.Counted.{Lets}
use Rattle.lines.proofs.Outcomes.{takes, declared, is-unit, no_unit, is-output}
use Rattle.lines.proofs.Outcomes.{no-output, is-input, no-input, full, space}

module _ (t p s : List ℕ) (c : Counts) (fit : Fit t p s c) (a : ℕ) (l : Fields) (told : Told t a l)
    (k : ℕ) where
  abbrev d : Draft
  d = draft_of t p s c

  abbrev f : List (List ℕ)
  f = row_at t a

  -- where field i begins, and the field there
  abbrev from : ℕ → ℕ
  from i = get_or l.from i 0

  begins : (n m i : ℕ) → Lets f n m → i < 5 → i < n → field_at t (from i) ≡ word f i
  begins n m i h g j = told.words i g (omega (arith, told.count-is, h.long))

  -- ---- `unit`, name
  module _ (h : Lets f 2 1) (w : List ℕ) (e : w ≡ word f 1) (i : ℕ) (b : Bool)
      (o : Spotted t p s 0 c.units 0 w i b) where
    pub unit_26 : b ≡ true → refused 26 d ≡ unit_line d f
    unfolding unit_line refuse
    unit_26 z = rw (
      h.counted,
      h.named,
      ← e,
      is-unit t p s c (unit_named d w) (unit-there t p s c fit w i b o z),
    )

    module _ (z : b ≡ false) where
      pub unit_29 : 32 ≤ c.units → refused 29 d ≡ unit_line d f
      unfolding unit_line refuse
      unit_29 g =
          rw (
            h.counted,
            h.named,
            ← e,
            no_unit t p s c (unit_named d w) (unit-new t p s c fit w i b o z),
            full _ _ 32 (units-are t p s c) g,
          )

      unit-more : c.units < 32 → taken (add_unit d (field_at t (from 1))) ≡ unit_line d f
      unfolding unit_line refuse
      unit-more g =
          rw (
            begins 2 1 1 h (omega arith) (omega arith),
            h.counted,
            h.named,
            ← e,
            no_unit t p s c (unit_named d w) (unit-new t p s c fit w i b o z),
            space _ _ 32 (units-are t p s c) g,
          )

      pub unit-takes : c.units < 32
          → Took t p s c k (unit_entry l.from) (takes (name_entry 1 0 0 (from 1) i)) (unit_line d f)
      unfolding unit_entry
      unit-takes g =
          declared t p s c k (unit_entry l.from) (unit_line d f) (name_entry 1 0 0 (from 1) i) _
          (unit (name_entry 1 0 0 (from 1) i) refl refl g
          (subst (λ v. Between t p s 0 c.units 0 v i i)
          (e ∙ sym (begins 2 1 1 h (omega arith) (omega arith))) (o.free z)))
          (unit-more g) refl

  -- ---- `out`, unit, name
  module _ (h : Lets f 3 2) (v : List ℕ) (r : v ≡ word f 1) (u : ℕ)
      (q : u ≡ least_from (named t p s 0 0 v) c.units 0) where
    out_unit : u ≡ unit_named d (word f 1)
    out_unit = q ∙ unit-found t p s c fit v ∙ ap (unit_named d) r

    pub out_27 : c.units ≤ u → refused 27 d ≡ out_line d f
    unfolding out_line refuse
    out_27 g = rw (h.counted, h.named, ← out_unit, no_unit t p s c u g)

    module _ (g : u < c.units) (w : List ℕ) (e : w ≡ word f 2) (i : ℕ) (b : Bool)
        (o : Spotted t p s outputs_base c.outputs u w i b) where
      pub out_26 : b ≡ true → refused 26 d ≡ out_line d f
      unfolding out_line refuse
      out_26 z =
          rw (
            h.counted,
            h.named,
            ← out_unit,
            is-unit t p s c u g,
            ← e,
            is-output t p s c (output_named d u w) (output-there t p s c fit u w i b o z),
          )

      module _ (z : b ≡ false) where
        pub out_29 : 96 ≤ c.outputs → refused 29 d ≡ out_line d f
        unfolding out_line refuse
        out_29 x =
            rw (
              h.counted,
              h.named,
              ← out_unit,
              is-unit t p s c u g,
              ← e,
              no-output t p s c (output_named d u w) (output-new t p s c fit u w i b o z),
              full _ _ 96 (outputs-are t p s c) x,
            )

        out_more : c.outputs < 96
            → taken (add_output d (record { owner = u; name = field_at t (from 2) })) ≡ out_line d f
        unfolding out_line refuse
        out_more x =
            rw (
              begins 3 2 2 h (omega arith) (omega arith),
              h.counted,
              h.named,
              ← out_unit,
              is-unit t p s c u g,
              ← e,
              no-output t p s c (output_named d u w) (output-new t p s c fit u w i b o z),
              space _ _ 96 (outputs-are t p s c) x,
            )

        pub out_takes : c.outputs < 96
            → Took t p s c k (out_entry d f l.from) (takes (name_entry 2 u 0 (from 2) i))
            (out_line d f)
        unfolding out_entry
        out_takes x =
            declared t p s c k (out_entry d f l.from) (out_line d f) (name_entry 2 u 0 (from 2) i) _
            (output (name_entry 2 u 0 (from 2) i) refl x
            (subst (λ y. Between t p s outputs_base c.outputs u y i i)
            (e ∙ sym (begins 3 2 2 h (omega arith) (omega arith))) (o.free z)))
            (out_more x) (ap (λ y. name_entry 2 y 0 (from 2) i) out_unit)

  -- ---- `in`, unit, name, `delayed` or `reactive`
  module _ (h : Lets f 4 2) (x : List ℕ) (xe : x ≡ word f 3) (kind : ℕ) (kq : kind
      ≡ kind_of x) where
    in_kind : kind ≡ kind_of (word f 3)
    in_kind = kq ∙ ap kind_of xe

    pub in_28 : kind ≡ 2 → refused 28 d ≡ in_line d k f
    unfolding in_line refuse
    in_28 z = rw (h.counted, h.named, ← in_kind, eq-eqb kind 2 z)

    module _ (some : kind ≡ 2 → ⊥) (v : List ℕ) (r : v ≡ word f 1) (u : ℕ)
        (q : u ≡ least_from (named t p s 0 0 v) c.units 0) where
      in_unit : u ≡ unit_named d (word f 1)
      in_unit = q ∙ unit-found t p s c fit v ∙ ap (unit_named d) r

      pub in_27 : c.units ≤ u → refused 27 d ≡ in_line d k f
      unfolding in_line refuse
      in_27 g =
          rw (h.counted, h.named, ← in_kind, ne_eqb kind 2 some, ← in_unit, no_unit t p s c u g)

      module _ (g : u < c.units) (w : List ℕ) (e : w ≡ word f 2) (i : ℕ) (b : Bool)
          (o : Spotted t p s inputs_base c.inputs u w i b) where
        pub in_26 : b ≡ true → refused 26 d ≡ in_line d k f
        unfolding in_line refuse
        in_26 z =
            rw (
              h.counted,
              h.named,
              ← in_kind,
              ne_eqb kind 2 some,
              ← in_unit,
              is-unit t p s c u g,
              ← e,
              is-input t p s c (input_named d u w) (input-there t p s c fit u w i b o z),
            )

        module _ (z : b ≡ false) where
          pub in_29 : 96 ≤ c.inputs → refused 29 d ≡ in_line d k f
          unfolding in_line refuse
          in_29 y =
              rw (
                h.counted,
                h.named,
                ← in_kind,
                ne_eqb kind 2 some,
                ← in_unit,
                is-unit t p s c u g,
                ← e,
                no-input t p s c (input_named d u w) (input-new t p s c fit u w i b o z),
                full _ _ 96 (inputs_are t p s c) y,
              )

          abbrev new : Input
          new = record {
            owner = u;
            name = field_at t (from 2);
            kind = kind;
            source = unjoined;
            line = k;
          }

          in_more : c.inputs < 96 → taken (add_input d new) ≡ in_line d k f
          unfolding in_line refuse
          in_more y =
              rw (
                begins 4 2 2 h (omega arith) (omega arith),
                h.counted,
                h.named,
                ← in_kind,
                ne_eqb kind 2 some,
                ← in_unit,
                is-unit t p s c u g,
                ← e,
                no-input t p s c (input_named d u w) (input-new t p s c fit u w i b o z),
                space _ _ 96 (inputs_are t p s c) y,
              )

          in-entry : name_entry 3 u kind (from 2) i ≡ in_entry d f l.from i
          unfolding in_entry
          in-entry = rw (← in_unit, ← in_kind)

          pub in_takes : c.inputs < 96
              → Took t p s c k (in_entry d f l.from) (takes (name_entry 3 u kind (from 2) i))
              (in_line d k f)
          in_takes y =
              declared t p s c k (in_entry d f l.from) (in_line d k f)
              (name_entry 3 u kind (from 2) i) _
              (input (name_entry 3 u kind (from 2) i) refl y
              (subst (λ n. Between t p s inputs_base c.inputs u n i i)
              (e ∙ sym (begins 4 2 2 h (omega arith) (omega arith))) (o.free z)))
              (in_more y) in-entry

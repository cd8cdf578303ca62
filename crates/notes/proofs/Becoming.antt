-- What becomes of the notes, by what is declared.
use Prim.Native.Nat.{ℕ, ◌+◌}
use mathlib.Core.Path.{◌≡◌, refl, ap}
use mathlib.Core.List.{List}
use native.Mathlib.Omega.{arith}
use lib.ListN.{set}
use borrow.Author.Tests.{eq-eqb, ne_eqb}
use Rattle.notes.specs.Layout.{outputs_base, inputs_base, lines_base, kinds_base, sources_base}
use Rattle.notes.specs.declared.Counts.{Counts}
use Rattle.notes.specs.declared.Entry.{Entry}
use Rattle.notes.specs.Noted.{named_places, named_slots, input_places, input_slots}
use Rattle.notes.specs.Noted.{feed_slots, join_slots, more_units, more_outputs, more_inputs}
use Rattle.notes.specs.Noted.{more_feeds, counts_with, places_with, slots_with, Became}

module _ (p s : List ℕ) (c : Counts) (e : Entry) (k : ℕ) where
  module _ (q r : List ℕ) (m : Counts) where
    pub became_unit : e.what ≡ 1
        → Became q r m (named_places p 0 c.units e) (named_slots s 0 c.units e) (more_units c)
        → Became q r m (places_with p c e k) (slots_with s c e) (counts_with c e)
    unfolding places_with slots_with counts_with
    became_unit z b = rw (eq-eqb e.what 1 z) b

    pub became_output : e.what ≡ 2
        → Became q r m (named_places p outputs_base c.outputs e)
        (named_slots s outputs_base c.outputs e) (more_outputs c)
        → Became q r m (places_with p c e k) (slots_with s c e) (counts_with c e)
    unfolding places_with slots_with counts_with
    became_output z b = rw (ne_eqb e.what 1 (λ y. omega arith), eq-eqb e.what 2 z) b

    pub became_input : e.what ≡ 3
        → Became q r m (input_places p c.inputs e k) (input_slots s c.inputs e) (more_inputs c)
        → Became q r m (places_with p c e k) (slots_with s c e) (counts_with c e)
    unfolding places_with slots_with counts_with
    became_input z b =
        rw (
          ne_eqb e.what 1 (λ y. omega arith),
          ne_eqb e.what 2 (λ y. omega arith),
          eq-eqb e.what 3 z,
        ) b

  module _ (a : e.what ≡ 1 → ⊥) (b : e.what ≡ 2 → ⊥) (d : e.what ≡ 3 → ⊥) where
    pub became_feed : e.what ≡ 4 → (r : List ℕ) (m : Counts) → m ≡ more_feeds c
        → r ≡ feed_slots s c.feeds e
        → Became p r m (places_with p c e k) (slots_with s c e) (counts_with c e)
    unfolding places_with slots_with counts_with
    became_feed z r m x y =
        rw (ne_eqb e.what 1 a, ne_eqb e.what 2 b, ne_eqb e.what 3 d, eq-eqb e.what 4 z)
        (record { places = refl; slots = y; counts = x })

    module _ (f : e.what ≡ 4 → ⊥) where
      pub became_join : e.what ≡ 5 → (r : List ℕ) (m : Counts) → m ≡ c → r ≡ join_slots s e
          → Became p r m (places_with p c e k) (slots_with s c e) (counts_with c e)
      unfolding places_with slots_with counts_with
      became_join z r m x y =
          rw (
            ne_eqb e.what 1 a,
            ne_eqb e.what 2 b,
            ne_eqb e.what 3 d,
            ne_eqb e.what 4 f,
            eq-eqb e.what 5 z,
          )
          (record { places = refl; slots = y; counts = x })

      pub became_none : (e.what ≡ 5 → ⊥)
          → Became p s c (places_with p c e k) (slots_with s c e) (counts_with c e)
      unfolding places_with slots_with counts_with
      became_none g =
          rw (
            ne_eqb e.what 1 a,
            ne_eqb e.what 2 b,
            ne_eqb e.what 3 d,
            ne_eqb e.what 4 f,
            ne_eqb e.what 5 g,
          )
          (record { places = refl; slots = refl; counts = refl })

-- an input's name is noted, and then its line, its kind and that it is not joined
pub became_lined : (p s q r : List ℕ) (c : Counts) (e : Entry) (k : ℕ)
    → q ≡ named_places p inputs_base c.inputs e → r ≡ named_slots s inputs_base c.inputs e
    → Became (set q (lines_base + c.inputs) k)
    (set (set r (kinds_base + c.inputs) e.kind) (sources_base + c.inputs) 255) (more_inputs c)
    (input_places p c.inputs e k) (input_slots s c.inputs e) (more_inputs c)
unfolding input_places input_slots
became_lined p s q r c e k a b = record {
  places = ap (λ l. set l (lines_base + c.inputs) k) a;
  slots = ap (λ l. set (set l (kinds_base + c.inputs) e.kind) (sources_base + c.inputs) 255) b;
  counts = refl;
}

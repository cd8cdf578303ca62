-- What is declared has its room, and once it is noted the notes stand for the draft with it.
use Prim.Native.Nat.{ℕ, ◌+◌, ◌≤◌, ◌<◌}
use mathlib.Core.Path.{◌≡◌, sym, subst, ◌∙◌}
use mathlib.Core.List.{List}
use native.Mathlib.Omega.{arith}
use native.Mathlib.Decide.{ℕ_discrete}
use lib.ListN.{length, set, length-set}
use Rattle.grammar.specs.Rows.{field_at}
use Rattle.grammar.specs.Draft.{Draft}
use Rattle.notes.specs.Layout.{outputs_base, inputs_base, names_size, owners_base, slots_size}
use Rattle.notes.specs.declared.Counts.{Counts}
use Rattle.notes.specs.declared.Entry.{Entry}
use Rattle.notes.specs.Ranks.{Between}
use Rattle.notes.specs.Notes.{Fit, Stands}
use Rattle.notes.specs.Noted.{put_in, named_places, named_slots, input_places, input_slots}
use Rattle.notes.specs.Noted.{feed_slots, join_slots, counts_with, places_with, slots_with}
use Rattle.notes.specs.Noted.{Room, Declares, unit, output, input, feed, join}
use Rattle.notes.proofs.Ranks.{open_one}
use Rattle.notes.proofs.Putting.{put_in_does}
use Rattle.notes.proofs.Named.{name-noted}
use Rattle.notes.proofs.Added.{unit-noted, output-noted, input-noted, feed-noted, join-noted}

-- a number put in among the names' ranks
put_does : (s : List ℕ) (b n u i : ℕ) → length s ≡ slots_size → b + n < names_size → i ≤ n
    → Rattle.notes.specs.Noted.PutIn (set s (owners_base + (b + n)) u)
    (put_in (set s (owners_base + (b + n)) u) (b + i) (b + n) n) (b + i) (b + n) n
put_does s b n u i l h g =
    put_in_does (set s (owners_base + (b + n)) u) (b + i) (b + n) n (omega arith)
    (omega (arith, length-set s (owners_base + (b + n)) u))

module _ (t p s : List ℕ) (c : Counts) (k : ℕ) (fit : Fit t p s c) where
  pub declares-stands : {e : Entry} {d : Draft} → Declares t p s c k e d
      → Stands t (places_with p c e k) (slots_with s c e) (counts_with c e) d
  unfolding places_with slots_with counts_with named_places named_slots input_places input_slots
      feed_slots
      join_slots
  declares-stands (unit e w o h b) =
      rw (w, o)
      (unit-noted t p s c fit _ _ e.begin h
      (name-noted t p s 0 c.units e.begin 0 e.rank fit.units-ranked b (omega arith)
      fit.places-long fit.slots-long _
      (put_does s 0 c.units 0 e.rank fit.slots-long (omega arith) b.high)))
  declares-stands (output e w h b) =
      rw w
      (output-noted t p s c fit _ _ e.begin e.owner h
      (name-noted t p s outputs_base c.outputs e.begin e.owner e.rank
      fit.outputs-ranked b (omega arith)
      fit.places-long fit.slots-long _
      (put_does s outputs_base c.outputs e.owner e.rank fit.slots-long (omega arith)
      b.high)))
  declares-stands (input e w h b) =
      rw w
      (input-noted t p s c fit _ _ e.begin e.owner e.kind k h
      (name-noted t p s inputs_base c.inputs e.begin e.owner e.rank
      fit.inputs-ranked b (omega arith)
      fit.places-long fit.slots-long _
      (put_does s inputs_base c.inputs e.owner e.rank fit.slots-long (omega arith)
      b.high)))
  declares-stands (feed e w i h) = rw w (feed-noted t p s c fit e.input e.output h)
  declares-stands (join e w i h) = rw w (join-noted t p s c fit e.input e.output h)

  pub declares-room : {e : Entry} {d : Draft} → Declares t p s c k e d → Room p s c e
  declares-room (unit e w o h b) = record {
    places-long = fit.places-long;
    slots-long = fit.slots-long;
    unit = λ z. (h, b.high);
    output = λ z. absurd (omega arith);
    input = λ z. absurd (omega arith);
    feed = λ z. absurd (omega arith);
    join = λ z. absurd (omega arith);
  }
  declares-room (output e w h b) = record {
    places-long = fit.places-long;
    slots-long = fit.slots-long;
    unit = λ z. absurd (omega arith);
    output = λ z. (h, b.high);
    input = λ z. absurd (omega arith);
    feed = λ z. absurd (omega arith);
    join = λ z. absurd (omega arith);
  }
  declares-room (input e w h b) = record {
    places-long = fit.places-long;
    slots-long = fit.slots-long;
    unit = λ z. absurd (omega arith);
    output = λ z. absurd (omega arith);
    input = λ z. (h, b.high);
    feed = λ z. absurd (omega arith);
    join = λ z. absurd (omega arith);
  }
  declares-room (feed e w i h) = record {
    places-long = fit.places-long;
    slots-long = fit.slots-long;
    unit = λ z. absurd (omega arith);
    output = λ z. absurd (omega arith);
    input = λ z. absurd (omega arith);
    feed = λ z. h;
    join = λ z. absurd (omega arith);
  }
  declares-room (join e w i h) = record {
    places-long = fit.places-long;
    slots-long = fit.slots-long;
    unit = λ z. absurd (omega arith);
    output = λ z. absurd (omega arith);
    input = λ z. absurd (omega arith);
    feed = λ z. absurd (omega arith);
    join = λ z. omega (arith, fit.inputs-most);
  }

  -- ---- one rank at most

  -- where the name of an entry stands, by what it is
  pub record Rank (e : Entry) : Type 0 where
    pub unit : e.what ≡ 1 → Between t p s 0 c.units 0 (field_at t e.begin) e.rank e.rank
    pub output : e.what ≡ 2
        → Between t p s outputs_base c.outputs e.owner (field_at t e.begin) e.rank
        e.rank
    pub input : e.what ≡ 3
        → Between t p s inputs_base c.inputs e.owner (field_at t e.begin) e.rank e.rank
    pub none : (e.what ≡ 1 → ⊥) → (e.what ≡ 2 → ⊥) → (e.what ≡ 3 → ⊥) → e.rank ≡ 0

  rank_of : {e : Entry} {d : Draft} → Declares t p s c k e d → Rank e
  rank_of (unit e w o h b) = record {
    unit = λ z. b;
    output = λ z. absurd (omega arith);
    input = λ z. absurd (omega arith);
    none = λ x y z. absurd (x w);
  }
  rank_of (output e w h b) = record {
    unit = λ z. absurd (omega arith);
    output = λ z. b;
    input = λ z. absurd (omega arith);
    none = λ x y z. absurd (y w);
  }
  rank_of (input e w h b) = record {
    unit = λ z. absurd (omega arith);
    output = λ z. absurd (omega arith);
    input = λ z. b;
    none = λ x y z. absurd (z w);
  }
  rank_of (feed e w i h) = record {
    unit = λ z. absurd (omega arith);
    output = λ z. absurd (omega arith);
    input = λ z. absurd (omega arith);
    none = λ x y z. i;
  }
  rank_of (join e w i h) = record {
    unit = λ z. absurd (omega arith);
    output = λ z. absurd (omega arith);
    input = λ z. absurd (omega arith);
    none = λ x y z. i;
  }

  -- two entries that differ in their ranks at most have one rank
  pub rank-one : {e o : Entry} {d q : Draft} → Declares t p s c k e d → Declares t p s c k o q
      → e.what ≡ o.what → e.owner ≡ o.owner → e.begin ≡ o.begin → e.rank ≡ o.rank
  rank-one {e} {o} h g w u b = elim (ℕ_discrete e.what 1) [
    | yes z ↦ open_one t p s 0 c.units fit.units-ranked 0 (field_at t o.begin) e.rank
        o.rank
        (subst (λ n. Between t p s 0 c.units 0 (field_at t n) e.rank e.rank) b
        ((rank_of h).unit z))
        ((rank_of g).unit (sym w ∙ z))
    | no x ↦ elim (ℕ_discrete e.what 2) [
      | yes z ↦ open_one t p s outputs_base c.outputs fit.outputs-ranked o.owner
          (field_at t o.begin) e.rank o.rank
          (subst (λ n. Between t p s outputs_base c.outputs n (field_at t o.begin) e.rank
          e.rank) u
          (subst (λ n. Between t p s outputs_base c.outputs e.owner (field_at t n) e.rank
          e.rank) b ((rank_of h).output z)))
          ((rank_of g).output (sym w ∙ z))
      | no y ↦ elim (ℕ_discrete e.what 3) [
        | yes z ↦ open_one t p s inputs_base c.inputs fit.inputs-ranked o.owner
            (field_at t o.begin) e.rank o.rank
            (subst (λ n. Between t p s inputs_base c.inputs n (field_at t o.begin) e.rank
            e.rank) u
            (subst (λ n. Between t p s inputs_base c.inputs e.owner (field_at t n) e.rank
            e.rank) b ((rank_of h).input z)))
            ((rank_of g).input (sym w ∙ z))
        | no z ↦ (rank_of h).none x y z
            ∙ sym ((rank_of g).none (λ v. x (w ∙ v)) (λ v. y (w ∙ v)) (λ v. z (w ∙ v)))
      ]
    ]
  ]

-- The walk along the lines: what each notes, and that the lines left give what all of them give.
use Prim.Native.Nat.{ℕ, suc, ◌+◌, ◌-◌, ◌≤◌, ◌<◌}
use mathlib.Core.Path.{◌≡◌, refl, sym, ap, subst, ◌∙◌}
use mathlib.Core.Bool.{Bool, true, false, cond}
use mathlib.Core.List.{List, [], ◌∷◌}
use native.Mathlib.Numerals.{add-one}
use native.Mathlib.Omega.{arith}
use lib.ListN.{length, get_or, drop, length-drop}
use lib.Seq.{get_or-drop}
use lib.Dec.{eqb}
use borrow.Author.Tests.{ne_eqb}
use Rattle.grammar.specs.Words.{lf, tab}
use Rattle.grammar.specs.Rows.{rows, row_at, grown, parted}
use Rattle.grammar.specs.Draft.{blank}
use Rattle.grammar.specs.Lines.{line}
use Rattle.grammar.specs.Reading.{lines_from, stopped}
use Rattle.fields.specs.declared.Fields.{Fields}
use Rattle.fields.specs.Spans.{fields_at}
use Rattle.fields.specs.Promise.{fields_told}
use Rattle.notes.specs.Layout.{outputs_base, inputs_base, places_size, slots_size}
use Rattle.notes.specs.declared.Counts.{Counts}
use Rattle.notes.specs.Listed.{listed}
use Rattle.notes.specs.Notes.{draft_of, Fit, Stands}
use Rattle.names.proofs.Walk.{drop_all}
use Rattle.notes.proofs.Ranks.{none-ranked}
use Rattle.notes.specs.declared.Entry.{Entry}
use Rattle.notes.specs.Noted.{places_with, slots_with, counts_with, Became, Room}
use Rattle.notes.proofs.Declaring.{declares-stands, declares-room}
use Rattle.lines.specs.declared.Taken.{Taken}
use Rattle.lines.specs.Took.{Told, Took}
use Rattle.text.specs.Walked.{Ended, Walked}

-- ---- an ended text has a line at each of its places

abbrev Some : List (List (List ℕ)) → Type 0
Some rs = 0 < length (get_or rs 0 [])

some-grown : (x : ℕ) (rs : List (List (List ℕ))) → Some rs → Some (grown x rs)
unfolding grown
some-grown x [] h = absurd (omega arith)
some-grown x ([] ∷ rs) h = absurd (omega arith)
some-grown x ((f ∷ fs) ∷ rs) h = omega arith

some-parted : (rs : List (List (List ℕ))) → Some rs → Some (parted rs)
unfolding parted
some-parted [] h = absurd (omega arith)
some-parted (r ∷ rs) h = omega arith

rows-some : (xs : List ℕ) → 0 < length xs → get_or xs (length xs - 1) 0 ≡ 10 → Some (rows xs)
unfolding rows
rows-some [] h e = absurd (omega arith)
rows-some (x ∷ []) h e = rw e (omega arith)
rows-some (x ∷ y ∷ ys) h e = go (eqb x lf) (eqb x tab) (rows-some (y ∷ ys) (omega arith) (last e))
  where
    last : get_or (x ∷ y ∷ ys) (suc (suc (length ys)) - 1) 0 ≡ 10
        → get_or (y ∷ ys) (suc (length ys) - 1) 0 ≡ 10
    last q =
        ap (λ k. get_or (y ∷ ys) k 0) (let z : suc (length ys) - 1 ≡ length ys = omega arith in z)
        ∙ sym (ap (λ k. get_or (x ∷ y ∷ ys) k 0)
        (let z : suc (suc (length ys)) - 1 ≡ suc (length ys) = omega arith in z)) ∙ q

    go : (a b : Bool) → Some (rows (y ∷ ys))
        → Some (cond a (([] ∷ []) ∷ rows (y ∷ ys))
        (cond b (parted (rows (y ∷ ys))) (grown x (rows (y ∷ ys)))))
    go true b s = omega arith
    go false true s = some-parted (rows (y ∷ ys)) s
    go false false s = some-grown x (rows (y ∷ ys)) s

pub row-some : (t : List ℕ) (a : ℕ) → Ended t → a < length t → 0 < length (row_at t a)
unfolding row_at
row-some t a e h =
    rows-some (drop a t) (rw (length-drop a t) (omega arith))
    (get_or-drop a t (length (drop a t) - 1) 0
    ∙ ap (λ k. get_or t k 0) (let z : a + (length (drop a t) - 1)
    ≡ length t - 1 = omega (arith, length-drop a t) in z) ∙ e.last)

-- ---- the walk

-- the lines from place at on, of which the first is line k, are left; c is noted
pub record Going (t : List ℕ) (a : ℕ) (p s : List ℕ) (c : Counts) (at k : ℕ) : Type 0 where
  pub fit : Fit t p s c
  pub within : at ≤ length t
  pub low : k ≤ at + 2
  pub left : (room : ℕ) → lines_from room blank 2 (rows (drop a t))
      ≡ lines_from room (draft_of t p s c) k (rows (drop at t))

abbrev pub none_yet : Counts
none_yet = record { units = 0; outputs = 0; inputs = 0; feeds = 0 }

pub none-fits : (t p s : List ℕ) → length p ≡ places_size → length s ≡ slots_size
    → Fit t p s none_yet
none-fits t p s h g = record {
  places-long = h;
  slots-long = g;
  units-most = omega arith;
  outputs-most = omega arith;
  inputs-most = omega arith;
  feeds-most = omega arith;
  units-ranked = none-ranked t p s 0 (omega arith);
  units-free = λ i z. absurd (omega arith);
  outputs-ranked = none-ranked t p s outputs_base (omega arith);
  inputs-ranked = none-ranked t p s inputs_base (omega arith);
}

pub going_starts : (t : List ℕ) (a : ℕ) (p s : List ℕ) → length p ≡ places_size
    → length s ≡ slots_size → a ≤ length t
    → Going t a p s none_yet a 2
unfolding draft_of blank listed
going_starts t a p s h g w =
    record { fit = none-fits t p s h g; within = w; low = omega arith; left = λ room. refl }

module _ (t : List ℕ) (a : ℕ) (p s : List ℕ) (c : Counts) (at k : ℕ)
    (g : Going t a p s c at k) where
  module _ (l : Fields) (told : Told t at l) (entry : ℕ → Entry) (o : Taken)
      (took : Took t p s c k entry o (line (draft_of t p s c) k (row_at t at))) where
    left_then : (room : ℕ) → lines_from room blank 2 (rows (drop a t))
        ≡ cond (eqb o.number 0)
        (lines_from room (line (draft_of t p s c) k (row_at t at)).draft (suc k)
        (rows (drop l.next t))) (stopped o.number k)
    unfolding lines_from
    left_then room = g.left room ∙ rw told.rest (rw took.number)

    -- what the line declares has its room
    pub going_room : o.number ≡ 0 → Room p s c o.entry
    going_room z = declares-room t p s c k g.fit (took.declares z)

    pub going_on : (q r : List ℕ) (m : Counts) (n : ℕ) → o.number ≡ 0
        → Became q r m (places_with p c o.entry k) (slots_with s c o.entry)
        (counts_with c o.entry)
        → n ≡ l.next → Going t a q r m n (k + 1)
    going_on q r m n z b e = record {
      fit = stands.fit;
      within = omega (arith, told.inside);
      low = omega (arith, g.low, told.further);
      left = λ room. left_then room ∙ rw (z, e, add-one k, stands.is);
    }
      where
        stands : Stands t q r m (line (draft_of t p s c) k (row_at t at)).draft
        stands =
            rw (b.places, b.slots, b.counts)
            (declares-stands t p s c k g.fit (took.declares z))

    pub going_stop : (o.number ≡ 0 → ⊥)
        → Walked t p s (record { number = o.number; place = k; counts = c })
        (λ room. lines_from room blank 2 (rows (drop a t)))
    going_stop n = record {
      fit = g.fit;
      left = λ room. left_then room ∙ rw (ne_eqb o.number 0 n);
    }

  pub going_end : length t ≤ at
      → Walked t p s (record { number = 0; place = k; counts = c })
      (λ room. lines_from room blank 2 (rows (drop a t)))
  unfolding lines_from rows
  going_end h = record {
    fit = g.fit;
    left = λ room. g.left room ∙ rw (drop_all t at h);
  }

-- the fields that are read at a place of an ended text are told right
pub told-fields : (t : List ℕ) (at : ℕ) (l : Fields) → Ended t → at < length t → l ≡ fields_at t at
    → Told t at l
told-fields t at l e h q =
    subst (Told t at) (sym q) (fields_told t at (omega (arith, e.short)) (row-some t at e h))

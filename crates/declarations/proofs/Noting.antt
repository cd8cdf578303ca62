-- The loop over the lines: the places noted so far, and those to come from place a on.
use Prim.Native.Nat.{ℕ, ◌+◌, ◌-◌, ◌<◌, ◌≤◌}
use mathlib.Core.Path.{◌≡◌, refl, sym, ◌∙◌}
use mathlib.Core.Bool.{Bool, true, false}
use mathlib.Core.List.{List, [], ◌∷◌}
use native.Mathlib.Omega.{arith}
use lib.ListN.{length, take, set, take-append-drop}
use lib.Seq.{take_all, take_at, length-take-le}
use Rattle.search.specs.Front.{Fronting, fronting_starts, fronting_on, fronting_ends}
use Rattle.grammar.specs.Rows.{row_at}
use Rattle.grammar.specs.Lexed.{Lexed}
use Rattle.fields.specs.declared.Fields.{Fields}
use Rattle.fields.specs.Spans.{fields_at}
use Rattle.fields.specs.Parts.{Part, field_part}
use Rattle.declarations.specs.Noted.{opens, begins_from, Noted}
use Rattle.declarations.specs.Turn.{Turn}
use Rattle.declarations.specs.Begins.{told-small, begins-none, begins-here}
use Rattle.declarations.specs.Begins.{begins-later, line-told}

-- where the first field stands
pub first_part : {t : List ℕ} {a : ℕ} {l : Fields} → l ≡ fields_at t a → length t ≤ 65535
    → Part t a 0 l
first_part {t} {a} e h = rw e (field_part t a h 0 (omega arith))

pub turn-kept :
    (w t : List ℕ) (a n : ℕ) (places : List ℕ) → opens w (row_at t a) ≡ false
    → Turn w t a n places places n
turn-kept w t a n places e = record { front = rw e; count = rw e }

pub turn-noted :
    (w t : List ℕ) (a n : ℕ) (places : List ℕ) → opens w (row_at t a) ≡ true →
    Turn w t a n places (set places n a) (n + 1)
turn-noted w t a n places e = record { front = rw e; count = rw e }

-- a line that is told begins before its end, in a text of at most 65,535 bytes
module _ (t : List ℕ) (a : ℕ) (l : Fields) (e : l ≡ fields_at t a) (h : 0 < l.count) where
  told-count : 0 < (fields_at t a).count
  told-count = rw (← e) h

  pub line_small : length t ≤ 65535
  line_small = told-small t a told-count

  told : Lexed t a (fields_at t a).from (fields_at t a).to (fields_at t a).count
      (fields_at t a).next
  told = line-told [] t a told-count

  pub line-further : a < l.next
  line-further = rw e told.further

  pub line-inside : l.next ≤ length t
  line-inside = rw e told.inside

pub record Noting (w t places₀ places : List ℕ) (n a : ℕ) : Type 0 where
  pub within : a ≤ length t
  pub noted : Fronting (begins_from w t 0) (begins_from w t a) places₀ places n

pub noting_starts : (w t places : List ℕ) → Noting w t places places 0 0
noting_starts w t places =
    record { within = omega arith; noted = fronting_starts (begins_from w t 0) places }

module _ {w t places₀ places : List ℕ} {n a : ℕ} (g : Noting w t places₀ places n a) where
  pub noting_on :
      {l : Fields} {after : List ℕ} {m : ℕ} → l ≡ fields_at t a → 0 < l.count → n < length places →
      Turn w t a n places after m → Noting w t places₀ after m l.next
  noting_on {l} {after} {m} e h room turn = go (opens w (row_at t a)) refl
    where
      go : (b : Bool) → opens w (row_at t a) ≡ b → Noting w t places₀ after m l.next
      go true o =
          let f : after ≡ set places n a = turn.front ∙ rw o in
          let c : m ≡ n + 1 = turn.count ∙ rw o in
          let r : begins_from w t a ≡ a ∷ begins_from w t l.next =
          rw e (begins-here w t a (told-count t a l e h) o) in
          record {
            within = line-inside t a l e h;
            noted = rw (f, c) (fronting_on _ _ _ _ n a room (rw r at g.noted));
          }
      go false o =
          let f : after ≡ places = turn.front ∙ rw o in
          let c : m ≡ n = turn.count ∙ rw o in
          let r : begins_from w t a ≡ begins_from w t l.next =
          rw e (begins-later w t a (told-count t a l e h) o) in
          record { within = line-inside t a l e h; noted = rw (f, c) (rw r at g.noted) }

  -- no line is left
  pub noting_ends : {l : Fields} → l ≡ fields_at t a → l.count ≡ 0 → Noted w t places₀ places n
  noting_ends e z =
      let q = fronting_ends _ _ _ _ n g.noted (begins-none w t a (rw (← e) z)) in
      let all : take (length places₀) (begins_from w t 0) ≡ begins_from w t 0 =
      take_all (length places₀) (begins_from w t 0)
      (omega (arith, q.0, g.noted.fits, g.noted.long)) in
      record { front = rw all q.1; count = rw all q.0 }

  -- no room is left
  pub noting_full : length places ≤ n → Noted w t places₀ places n
  noting_full h =
      let k : n ≡ length places₀ = omega (arith, g.noted.fits, g.noted.long) in
      let l : length (take n places) ≡ n = length-take-le n places g.noted.fits in
      let all : take (length places₀) (begins_from w t 0) ≡ take n places =
      rw (g.noted.made, ← k) (take_at (take n places) (begins_from w t a) n l) in
      record {
        front = rw (all, l, ← g.noted.kept) (sym (take-append-drop n places));
        count = rw all (sym l);
      }

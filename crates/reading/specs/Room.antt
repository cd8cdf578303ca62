-- In a buffer of 644 bytes every table has room: 34 never comes.
use Rattle.std.specs.Prelude.{ℕ, ◌≤◌, ◌≡◌, List, length}
use Rattle.std.proofs.Common.{sym, ◌∙◌, length-append}
use native.Mathlib.Omega.{arith}
use Rattle.std.proofs.lemmas.List.{length-map}
use Rattle.grammar.specs.Opening.{Row}
use Rattle.grammar.specs.Draft.{Draft, blank}
use Rattle.grammar.specs.Reading.{Reading, reading, stopped, packed}
use Rattle.reading.specs.Proper.{Proper}
use Rattle.reading.specs.Parts.{pairs-long}
use Rattle.reading.specs.Refused.{refusals-numbers}
use Rattle.reading.specs.Reads.{Closes, closes_33, closes_31, closes_34, closes_0}
use Rattle.reading.specs.Reads.{Comes, to-line, to_end, Reads, reads_20, reads_21}
use Rattle.reading.specs.Reads.{reads_22, reads_23, reads_lines, text_reads}

-- no table is longer
pub packed-most : (d : Draft) → Proper d → length (packed d) ≤ 644
unfolding packed
packed-most d g = simp (length-append, length-map) (omega (arith, pairs-long d.feeds, g))

module _ (room : ℕ) (t : List ℕ) (enough : 644 ≤ room) where
  closes-room : (d : Draft) (r : Reading) → Proper d → Closes room d r → r.number ≡ 34 → ⊥
  unfolding stopped
  closes-room d r g (closes_33 z) e = omega arith
  closes-room d r g (closes_31 z) e = omega arith
  closes-room d r g (closes_34 h) e = omega (arith, packed-most d g)
  closes-room d r g (closes_0 s j) e = omega arith

  comes_room : (fs : List Row) (r : Reading) → Comes room blank 2 fs r → r.number ≡ 34 → ⊥
  unfolding stopped
  comes_room fs r (to-line i j n h p a q z) e =
      omega (arith, (refusals-numbers blank 2 fs i (λ w. z (sym q ∙ w))).1, q)
  comes_room fs r (to_end last s c n g z) e = closes-room last s g z e

  pub reading-room : (reading room t).number ≡ 34 → ⊥
  unfolding stopped
  reading-room = go (reading room t) (text_reads room t)
    where
      go : (r : Reading) → Reads room t r → r.number ≡ 34 → ⊥
      go r reads_20 e = omega arith
      go r (reads_21 s n) e = omega arith
      go r (reads_22 l b) e = omega arith
      go r (reads_23 l) e = omega arith
      go r (reads_lines s first fs l p o c) e = comes_room fs s c e

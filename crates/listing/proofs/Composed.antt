-- The listing from its parts: a text read, its table ordered, the answer printed.
use Prim.Native.Nat.{ℕ}
use mathlib.Core.Path.{◌≡◌, ap, sym, ◌∙◌}
use mathlib.Core.List.{List}
use lib.ListN.{replicate}
use lib.Seq.{take_at}
use borrow.Author.Tests.{eq-eqb, ne_eqb}
use Rattle.search.specs.Front.{fronted}
use Rattle.table.specs.Packed.{part}
use Rattle.table.specs.declared.Answer.{Answer}
use Rattle.table.specs.Outcome.{outcome}
use Rattle.grammar.specs.Reading.{reading}
use Rattle.reading.specs.Reads.{read-long}
use Rattle.text.specs.declared.Answer.{Answer as Told}
use Rattle.sorter.specs.Ordering.{ordering}
use Rattle.sorter.specs.Answers.{ordering-long}
use Rattle.printing.specs.Entries.{refusal_text}
use Rattle.printing.specs.Indexed.{outcome_of}
use Rattle.listing.specs.Listing.{listing}
use Rattle.listing.proofs.Counted.{all-units, all-outputs, all-inputs}
-- the examples come before the laws: a definition that lists something else fails on one of them
use Rattle.listing.specs.Examples

module _ (t before after : List ℕ) (a : Told)
    (r : (a ≡ record { number = (reading 644 t).number; place = (reading 644 t).place })
    × (after ≡ fronted (reading 644 t).bytes before)) where
  number_is : a.number ≡ (reading 644 t).number
  number_is = ap (λ (x : Told). x.number) r.0

  place_is : a.place ≡ (reading 644 t).place
  place_is = ap (λ (x : Told). x.place) r.0

  pub list_refused : (a.number ≡ 0 → ⊥) → refusal_text a.number a.place ≡ listing t
  unfolding listing
  list_refused z =
      rw (number_is, place_is, ne_eqb (reading 644 t).number 0 (λ e. z (number_is ∙ e)))

  module _ (z : a.number ≡ 0) where
    -- the front of the packed buffer is the table that was read
    table_is : part after 0 a.place ≡ (reading 644 t).bytes
    table_is =
        let g = reading 644 t in
        rw (r.1, place_is)
        (take_at g.bytes _ g.place (sym (read-long 644 t (sym number_is ∙ z))))

    -- the front of the order buffer is the calls that were given
    calls_are :
        (table : List ℕ) → let o = ordering table 224 in
        part (fronted o.bytes (replicate 224 0)) 0 o.answer.place ≡ o.bytes
    calls_are table =
        let o = ordering table 224 in
        take_at o.bytes _ o.answer.place (sym (ordering-long table 224))

    pub list-ordered :
        (table calls : List ℕ) (o : Answer) → table ≡ part after 0 a.place →
        o ≡ (ordering table 224).answer
        → calls ≡ fronted (ordering table 224).bytes (replicate 224 0) →
        outcome_of t (outcome o.number o.place (part calls 0 o.place)) ≡ listing t
    unfolding listing
    list-ordered table calls o e p q =
        let r : (reading 644 t).number ≡ 0 = sym number_is ∙ z in
        rw (
          p,
          q,
          calls_are table,
          e,
          table_is,
          all-units 644 t r,
          all-outputs 644 t r,
          all-inputs 644 t r,
          eq-eqb (reading 644 t).number 0 r,
        )

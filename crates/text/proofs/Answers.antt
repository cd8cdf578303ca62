-- One law for each return of the reader.
use Prim.Native.Nat.{ℕ, ◌+◌, ◌*◌, ◌≤◌, ◌<◌}
use mathlib.Core.Path.{◌≡◌, refl, sym, ap, ◌∙◌}
use mathlib.Core.List.{List}
use native.Mathlib.Omega.{arith}
use lib.ListN.{length}
use borrow.Author.Tests.{ne_eqb, lt-ltb, le-ltb}
use Rattle.search.specs.Front.{fronted}
use Rattle.grammar.specs.Reading.{Reading, reading, stopped, packed}
use Rattle.notes.specs.Notes.{draft_of}
use Rattle.text.specs.declared.Noted.{Noted}
use Rattle.text.specs.declared.Answer.{Answer}
use Rattle.text.specs.Packs.{Slotted, bytes_of}
use Rattle.text.specs.Walked.{Noticed, written, roomed}
use Rattle.text.proofs.Packing.{fit_slotted, packed-is, bytes-long}

-- the answer and the buffer are those that the reading asks for
abbrev Answered : Reading → List ℕ → List ℕ → Answer → Type 0
Answered g before after r =
    (r ≡ record { number = g.number; place = g.place }) × (after ≡ fronted g.bytes before)

-- the reading is known
known : (g h : Reading) (before after : List ℕ) → g ≡ h → after ≡ fronted h.bytes before
    → Answered g before after (record { number = h.number; place = h.place })
known g h before after e q = (
  sym (ap (λ (x : Reading). (let r : Answer = record { number = x.number; place = x.place } in r))
      e),
  q ∙ ap (λ (x : Reading). fronted x.bytes before) (sym e),
)

module _ (t p s : List ℕ) (r : Noted) (k : Noticed t p s r) (out : List ℕ) where
  pub read-refused : (r.number ≡ 0 → ⊥)
      → Answered (reading (length out) t) out out (record { number = r.number; place = r.place })
  unfolding stopped
  read-refused n =
      known _ (stopped r.number r.place) out out
      (k.left (length out) ∙ rw (ne_eqb r.number 0 n)) refl

  module _ (z : r.number ≡ 0) where
    abbrev slots-fit : Slotted s r.counts
    slots-fit = fit_slotted t p s r.counts (k.fit z)

    long : length (packed (draft_of t p s r.counts))
        ≡ 4 + r.counts.outputs + 3 * r.counts.inputs + 2 * r.counts.feeds
    long = ap length (packed-is t p s r.counts (k.fit z)) ∙ bytes-long s r.counts slots-fit

    module _ (size : ℕ)
        (e : size ≡ 4 + r.counts.outputs + 3 * r.counts.inputs + 2 * r.counts.feeds) where
      pub read_34 : length out < size
          → Answered (reading (length out) t) out out (record { number = 34; place = 0 })
      unfolding roomed stopped
      read_34 h = known _ (stopped 34 0) out out
          (k.left (length out)
          ∙ rw (
            z,
            lt-ltb (length out) (length (packed (draft_of t p s r.counts)))
                (omega (arith, long)),
          ))
          refl

      pub read-room : size ≤ length out → length (bytes_of s r.counts) ≤ length out
      read-room h = omega (arith, bytes-long s r.counts slots-fit)

      pub read_done : size ≤ length out → (after : List ℕ)
          → after ≡ fronted (bytes_of s r.counts) out
          → Answered (reading (length out) t) out after (record { number = 0; place = size })
      unfolding roomed
      read_done h after q =
          let d = draft_of t p s r.counts in
          let i : size ≡ length (packed d) = e ∙ sym long in
          let a : Answered (reading (length out) t) out after
          (record { number = 0; place = length (packed d) })
          = known _ (written d) out after
          (k.left (length out) ∙ rw (z, le-ltb (length out) (length (packed d)) (omega arith)))
          (q ∙ ap (λ b. fronted b out) (sym (packed-is t p s r.counts (k.fit z)))) in
          rw i a

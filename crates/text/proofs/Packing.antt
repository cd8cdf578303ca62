-- The bytes that are packed are those of the draft that is noted.
use Prim.Native.Nat.{ℕ, zero, suc, ◌+◌, ◌-◌, ◌*◌, ◌≤◌}
use mathlib.Core.Path.{◌≡◌, refl, sym, ap, ◌∙◌}
use mathlib.Core.List.{List, [], ◌∷◌, ◌++◌, append_assoc}
use native.Mathlib.Omega.{arith}
use lib.ListN.{length, get_or, take, drop, length-append, length-drop}
use lib.Seq.{length-take-le}
use Rattle.grammar.specs.Draft.{Output, Input, Feed}
use Rattle.grammar.specs.Reading.{packed, pairs}
use Rattle.notes.specs.Layout.{output_owners, input_owners, kinds_base}
use Rattle.notes.specs.Layout.{sources_base, feeds_base, fed_base, slots_size}
use Rattle.notes.specs.declared.Counts.{Counts}
use Rattle.notes.specs.Listed.{listed, listed-map, listed-part, listed-length}
use Rattle.notes.specs.Ranks.{name_at}
use Rattle.notes.specs.Notes.{output_at, input_at, feed_at, draft_of, Fit}
use Rattle.search.specs.Front.{fronted}
use Rattle.pen.specs.Put.{Put}
use Rattle.pen.specs.Chain.{put-fits, wrote-put, wrote-front}
use Rattle.text.specs.Packs.{Slotted, slots_from, bytes_of}

pub fit_slotted : (t p s : List ℕ) (c : Counts) → Fit t p s c → Slotted s c
fit_slotted t p s c f = record {
  long = f.slots-long;
  units-most = f.units-most;
  outputs-most = f.outputs-most;
  inputs-most = f.inputs-most;
  feeds-most = f.feeds-most;
}

slots-are : (s : List ℕ) (b n : ℕ) → b + n ≤ length s
    → listed (λ i. get_or s (b + i) 0) n ≡ slots_from s b n
slots-are s b n h =
    listed-part s b n h ∙ ap (λ k. take k (drop b s)) (let z : n ≡ (b + n) - b = omega arith in z)

pub slots-long : (s : List ℕ) (b n : ℕ) → b + n ≤ length s → length (slots_from s b n) ≡ n
slots-long s b n h =
    length-take-le ((b + n) - b) (drop b s) (rw (length-drop b s) (omega arith))
    ∙ (let z : (b + n) - b ≡ n = omega arith in z)

pairs_append : (xs : List Feed) (f : Feed)
    → pairs (xs ++ (f ∷ [])) ≡ pairs xs ++ (f.input ∷ f.output ∷ [])
unfolding pairs
pairs_append [] f = refl
pairs_append (x ∷ xs) f = rw (pairs_append xs f)

-- two slots more
listed-two : (g : ℕ → ℕ) (n : ℕ)
    → listed g (2 * suc n) ≡ listed g (2 * n) ++ (g (2 * n) ∷ g (suc (2 * n)) ∷ [])
unfolding listed
listed-two g n =
    ap (listed g) (let z : 2 * suc n ≡ suc (suc (2 * n)) = omega arith in z)
    ∙ append_assoc (listed g (2 * n)) (g (2 * n) ∷ []) (g (suc (2 * n)) ∷ [])

pairs-are : (s : List ℕ) (n : ℕ)
    → pairs (listed (feed_at s) n) ≡ listed (λ i. get_or s (feeds_base + i) 0) (2 * n)
unfolding listed pairs feed_at
pairs-are s zero = refl
pairs-are s (suc n) =
    pairs_append (listed (feed_at s) n) (feed_at s n)
    ∙ rw (pairs-are s n)
    (sym (listed-two (λ i. get_or s (feeds_base + i) 0) n
    ∙ ap (λ k. listed (λ i. get_or s (feeds_base + i) 0) (2 * n)
    ++ (get_or s (feeds_base + 2 * n) 0 ∷ get_or s k 0 ∷ []))
    (let z : feeds_base + suc (2 * n) ≡ fed_base + 2 * n = omega arith in z)))

module _ (t p s : List ℕ) (c : Counts) (f : Fit t p s c) where
  pub packed-is : packed (draft_of t p s c) ≡ bytes_of s c
  unfolding packed draft_of bytes_of output_at input_at
  packed-is =
      let l : length s ≡ slots_size = f.slots-long in
      rw (
        listed-length (name_at t p) c.units,
        listed-length (output_at t p s) c.outputs,
        listed-length (input_at t p s) c.inputs,
        listed-length (feed_at s) c.feeds,
        listed-map (λ (o : Output). o.owner) (output_at t p s) c.outputs,
        slots-are s output_owners c.outputs (omega (arith, f.outputs-most)),
        listed-map (λ (i : Input). i.owner) (input_at t p s) c.inputs,
        slots-are s input_owners c.inputs (omega (arith, f.inputs-most)),
        listed-map (λ (i : Input). i.kind) (input_at t p s) c.inputs,
        slots-are s kinds_base c.inputs (omega (arith, f.inputs-most)),
        listed-map (λ (i : Input). i.source) (input_at t p s) c.inputs,
        slots-are s sources_base c.inputs (omega (arith, f.inputs-most)),
        pairs-are s c.feeds,
        slots-are s feeds_base (2 * c.feeds) (omega (arith, f.feeds-most)),
      )
      (simp append_assoc)

-- the packed length, from the counts
pub bytes-long : (s : List ℕ) (c : Counts) → Slotted s c
    → length (bytes_of s c) ≡ 4 + c.outputs + 3 * c.inputs + 2 * c.feeds
unfolding bytes_of
bytes-long s c g =
    let l : length s ≡ slots_size = g.long in
    simp (
      length-append,
      slots-long s output_owners c.outputs (omega (arith, g.outputs-most)),
      slots-long s input_owners c.inputs (omega (arith, g.inputs-most)),
      slots-long s kinds_base c.inputs (omega (arith, g.inputs-most)),
      slots-long s sources_base c.inputs (omega (arith, g.inputs-most)),
      slots-long s feeds_base (2 * c.feeds) (omega (arith, g.feeds-most)),
    )
    (omega arith)

-- nine puts, one behind the other, write the packed bytes
module _ (s : List ℕ) (c : Counts) (out : List ℕ) (room : length (bytes_of s c) ≤ length out) where
  abbrev p₁ : List ℕ
  p₁ = c.units ∷ []

  abbrev p₂ : List ℕ
  p₂ = p₁ ++ (c.outputs ∷ [])

  abbrev p₃ : List ℕ
  p₃ = p₂ ++ (c.inputs ∷ [])

  abbrev p₄ : List ℕ
  p₄ = p₃ ++ (c.feeds ∷ [])

  abbrev p₅ : List ℕ
  p₅ = p₄ ++ slots_from s output_owners c.outputs

  abbrev p₆ : List ℕ
  p₆ = p₅ ++ slots_from s input_owners c.inputs

  abbrev p₇ : List ℕ
  p₇ = p₆ ++ slots_from s kinds_base c.inputs

  abbrev p₈ : List ℕ
  p₈ = p₇ ++ slots_from s sources_base c.inputs

  abbrev p₉ : List ℕ
  p₉ = p₈ ++ slots_from s feeds_base (2 * c.feeds)

  whole : length p₉ ≤ length out
  unfolding bytes_of
  whole = room

  shorter : (a b : List ℕ) → 0 + length (a ++ b) ≤ length out → 0 + length a ≤ length out
  shorter a b h = omega (arith, length-append a b)

  r₈ : 0 + length p₈ ≤ length out
  r₈ = shorter p₈ (slots_from s feeds_base (2 * c.feeds)) (omega (arith, whole))

  r₇ : 0 + length p₇ ≤ length out
  r₇ = shorter p₇ (slots_from s sources_base c.inputs) r₈

  r₆ : 0 + length p₆ ≤ length out
  r₆ = shorter p₆ (slots_from s kinds_base c.inputs) r₇

  r₅ : 0 + length p₅ ≤ length out
  r₅ = shorter p₅ (slots_from s input_owners c.inputs) r₆

  r₄ : 0 + length p₄ ≤ length out
  r₄ = shorter p₄ (slots_from s output_owners c.outputs) r₅

  pub puts_packed : {o₁ o₂ o₃ o₄ o₅ o₆ o₇ o₈ o₉ : List ℕ} {k₁ k₂ k₃ k₄ k₅ k₆ k₇ k₈ k₉ : ℕ}
      → Put out 0 (c.units ∷ []) o₁ k₁ → Put o₁ k₁ (c.outputs ∷ []) o₂ k₂
      → Put o₂ k₂ (c.inputs ∷ []) o₃ k₃
      → Put o₃ k₃ (c.feeds ∷ []) o₄ k₄ → Put o₄ k₄ (slots_from s output_owners c.outputs) o₅ k₅
      → Put o₅ k₅ (slots_from s input_owners c.inputs) o₆ k₆
      → Put o₆ k₆ (slots_from s kinds_base c.inputs) o₇ k₇
      → Put o₇ k₇ (slots_from s sources_base c.inputs) o₈ k₈
      → Put o₈ k₈ (slots_from s feeds_base (2 * c.feeds)) o₉ k₉
      → o₉ ≡ fronted (bytes_of s c) out
  unfolding bytes_of
  puts_packed a b d e f g h i j =
      let w₁ = put-fits a (omega (arith, r₄)) in
      let w₂ = wrote-put w₁ b (omega (arith, r₄)) in
      let w₃ = wrote-put w₂ d (omega (arith, r₄)) in
      let w₄ = wrote-put w₃ e r₄ in
      let w₅ = wrote-put w₄ f r₅ in
      let w₆ = wrote-put w₅ g r₆ in
      let w₇ = wrote-put w₆ h r₇ in
      let w₈ = wrote-put w₇ i r₈ in
      let w₉ = wrote-put w₈ j (omega (arith, whole)) in
      (wrote-front w₉).1

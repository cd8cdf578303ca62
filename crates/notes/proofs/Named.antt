-- A name noted: its place and owner behind the others', its number put in at its rank.
use Prim.Native.Nat.{ℕ, ◌+◌, ◌-◌, ◌≤◌, ◌<◌}
use mathlib.Core.Path.{◌≡◌, refl, sym, ap, ◌∙◌}
use mathlib.Core.Logic.{◌⊎◌, inl, inr}
use mathlib.Core.List.{List, ◌∷◌}
use native.Mathlib.Omega.{arith}
use native.Mathlib.Decide.{dec_lt, ℕ_discrete}
use lib.ListN.{length, get_or, set, length-set}
use lib.Seq.{get_or-set_same, get_or-set_other}
use Rattle.grammar.specs.Rows.{field_at}
use Rattle.notes.specs.Layout.{names_size, owners_base, places_size, slots_size}
use Rattle.notes.specs.Compared.{compared}
use Rattle.notes.specs.Ranks.{name_at, key_at, rank_at, Ranked, Between}
use Rattle.notes.specs.Noted.{PutIn, NameNoted}
use Rattle.notes.proofs.Ordered.{after-before}
use Rattle.notes.proofs.Kept.{kept-all, kept_set, ranked-kept}

module _ (t p s : List ℕ) (b n a u i : ℕ) (f : Ranked t p s b n)
    (o : Between t p s b n u (field_at t a) i i)
    (room : b + n < names_size) (long : length p ≡ places_size) (wide : length s ≡ slots_size) where
  abbrev q : List ℕ
  q = set p (b + n) a

  abbrev owned : List ℕ
  owned = set s (owners_base + (b + n)) u

  module _ (r : List ℕ) (put : PutIn owned r (b + i) (b + n) n) where
    -- ---- the slots

    owner-is : get_or r (owners_base + (b + n)) 0 ≡ u
    owner-is =
        put.above (owners_base + (b + n)) (omega arith)
        ∙ get_or-set_same s (owners_base + (b + n)) u 0 (omega arith)

    owner-kept : (k : ℕ) → k < n → get_or r (owners_base + (b + k)) 0
        ≡ get_or s (owners_base + (b + k)) 0
    owner-kept k h =
        put.above (owners_base + (b + k)) (omega arith)
        ∙ get_or-set_other s (owners_base + (b + n)) (owners_base + (b + k)) u 0 (λ e. omega arith)

    slot-below : (j : ℕ) → j < i → get_or r (b + j) 0 ≡ get_or s (b + j) 0
    slot-below j h =
        put.below (b + j) (omega arith)
        ∙ get_or-set_other s (owners_base + (b + n)) (b + j) u 0 (λ e. omega (arith, o.high))

    slot-moved : (j : ℕ) → i ≤ j → j < n → get_or r (b + (j + 1)) 0 ≡ get_or s (b + j) 0
    slot-moved j h g =
        ap (λ k. get_or r k 0) (let e : b + (j + 1) ≡ b + j + 1 = omega arith in e)
        ∙ put.moved (b + j) (omega arith) (omega arith)
        ∙ get_or-set_other s (owners_base + (b + n)) (b + j) u 0 (λ e. omega arith)

    -- ---- the keys

    new-key : key_at t q r (b + n) ≡ u ∷ field_at t a
    unfolding key_at name_at
    new-key = rw (owner-is, get_or-set_same p (b + n) a 0 (omega arith))

    old-key : (k : ℕ) → k < n → key_at t q r (b + k) ≡ key_at t p s (b + k)
    unfolding key_at name_at
    old-key k h = rw (owner-kept k h, get_or-set_other p (b + n) (b + k) a 0 (λ e. omega arith))

    at_old : (j k : ℕ) → k < n → get_or r (b + j) 0 ≡ get_or s (b + k) 0
        → rank_at t q r b j ≡ rank_at t p s b k
    at_old j k h e = ap (λ x. key_at t q r (b + x)) e ∙ old-key (get_or s (b + k) 0) (f.number k h)

    at_new : rank_at t q r b i ≡ u ∷ field_at t a
    at_new = ap (λ x. key_at t q r (b + x)) put.here ∙ new-key

    -- rank j is an old one below the new, the new one, or an old one above it
    pub record Old (j : ℕ) : Type 0 where
      pub from : ℕ
      pub low : from < n
      pub slot : get_or r (b + j) 0 ≡ get_or s (b + from) 0
      pub side : ((j < i) × (from ≡ j)) ⊎ ((i < j) × (from + 1 ≡ j))

    view : (j : ℕ) → j < n + 1 → Old j ⊎ (j ≡ i)
    view j h = elim (dec_lt j i) [
      | yes g ↦ inl (record {
        from = j;
        low = omega (arith, o.high);
        slot = slot-below j g;
        side = inl (g, refl);
      })
      | no g ↦ elim (ℕ_discrete j i) [
        | yes e ↦ inr e
        | no e ↦ let z : j - 1 + 1 ≡ j = omega arith in
            inl (record {
              from = j - 1;
              low = omega arith;
              slot = ap (λ k. get_or r (b + k) 0) (sym z)
                  ∙ slot-moved (j - 1) (omega arith) (omega arith);
              side = inr (omega arith, z);
            })
      ]
    ]

    new-ranked : Ranked t q r b (n + 1)
    new-ranked = record {
      low = omega arith;
      number = λ j h. number j (view j h);
      order = λ j k h g. order j k h (view j (omega arith)) (view k g);
      rank = λ k h. elim (ℕ_discrete k n) [
        | yes e ↦ (i, omega (arith, o.high), put.here ∙ sym e)
        | no e ↦ ranks k (f.rank k (omega arith))
      ];
    }
      where
        number : (j : ℕ) → Old j ⊎ (j ≡ i) → get_or r (b + j) 0 < n + 1
        number j (inl v) = rw v.slot (omega (arith, f.number v.from v.low))
        number j (inr e) = rw (e, put.here) (omega arith)

        order : (j k : ℕ) → j < k → Old j ⊎ (j ≡ i) → Old k ⊎ (k ≡ i)
            → compared (rank_at t q r b j) (rank_at t q r b k) ≡ 0
        order j k h (inl v) (inl w) =
            rw (at_old j v.from v.low v.slot, at_old k w.from w.low w.slot)
            (f.order v.from w.from (rises v w) w.low)
          where
            rises : (v : Old j) (w : Old k) → v.from < w.from
            rises v w = elim v.side [
              | inl (x, y) ↦ elim w.side
                  [ inl (x2, y2) ↦ omega arith | inr (x2, y2) ↦ omega arith ]
              | inr (x, y) ↦ elim w.side
                  [ inl (x2, y2) ↦ omega arith | inr (x2, y2) ↦ omega arith ]
            ]
        order j k h (inl v) (inr e) =
            rw (e, at_old j v.from v.low v.slot, at_new) (o.before v.from below)
          where
            below : v.from < i
            below = elim v.side [ inl (x, y) ↦ omega arith | inr (x, y) ↦ omega arith ]
        order j k h (inr e) (inl w) =
            rw (e, at_new, at_old k w.from w.low w.slot)
            (after-before _ _ (o.after w.from above w.low))
          where
            above : i ≤ w.from
            above = elim w.side [ inl (x, y) ↦ omega arith | inr (x, y) ↦ omega arith ]
        order j k h (inr e) (inr z) = absurd (omega arith)

        ranks : (k : ℕ) → (j : ℕ) × (j < n) × (get_or s (b + j) 0 ≡ k)
            → (j : ℕ) × (j < n + 1) × (get_or r (b + j) 0 ≡ k)
        ranks k (j, g, e) = elim (dec_lt j i) [
          | yes h ↦ (j, omega arith, slot-below j h ∙ e)
          | no h ↦ (j + 1, omega arith, slot-moved j (omega arith) g ∙ e)
        ]

    pub name-noted : NameNoted t p s q r b n a u
    name-noted = record {
      place = get_or-set_same p (b + n) a 0 (omega arith);
      owner = owner-is;
      ranked = new-ranked;
      places-long = length-set p (b + n) a;
      slots-long = put.long ∙ length-set s (owners_base + (b + n)) u;
      places-kept = λ x e z. kept_set (b + n) a kept-all z;
      slots_kept = λ x e y z. record { at = λ j h g. kept j (y j h g) (z j h g) };
    }
      where
        kept : (j : ℕ) → (b ≤ j → j ≤ b + n → ⊥) → (j ≡ owners_base + (b + n) → ⊥)
            → get_or r j 0 ≡ get_or s j 0
        kept j y z = elim (dec_lt j (b + i)) [
          | yes h ↦ put.below j h ∙ get_or-set_other s (owners_base + (b + n)) j u 0 z
          | no h ↦ put.above j (elim (dec_lt (b + n) j) [
            | yes g ↦ g
            | no g ↦ absurd (y (omega arith) (omega arith))
          ]) ∙ get_or-set_other s (owners_base + (b + n)) j u 0 z
        ]

-- the names of another kind keep their ranks
pub others_ranked : (t p s q r : List ℕ) (b n a u d m : ℕ) → NameNoted t p s q r b n a u
    → b + n < names_size
    → ((i : ℕ) → d ≤ i → i < d + m → b ≤ i → i ≤ b + n → ⊥) → Ranked t p s d m → Ranked t q r d m
others_ranked t p s q r b n a u d m o room apart f =
    ranked-kept t p s q r d m
    (o.places-kept d (d + m) (λ i h g e. apart i h g (omega arith) (omega arith)))
    (o.slots_kept d (d + m) apart (λ i h g e. omega (arith, f.low)))
    (o.slots_kept (owners_base + d) (owners_base + (d + m)) (λ i h g x y. omega arith)
    (λ i h g e. apart (b + n) (omega arith) (omega arith) (omega arith) (omega arith)))
    f

-- Bytes that fit, put one after the other: what callers cite.
use Rattle.std.specs.Prelude.{
  ℕ,
  zero,
  suc,
  ◌+◌,
  ◌/◌,
  ◌%◌,
  ◌^◌,
  ◌≤◌,
  ◌<◌,
  ◌≡◌,
  refl,
  Bool,
  true,
  false,
  cond,
  List,
  [],
  ◌∷◌,
  ◌++◌,
  length,
  take,
  drop,
  leb,
  ltb,
}
use Rattle.std.proofs.Common.{
  sym,
  ap,
  ◌∙◌,
  append_assoc,
  add-zero,
  zero-add,
  div-lt_iff_lt-mul,
  pow-suc,
  arith,
  length-append,
  length-drop,
  take-append-drop,
  length-take-le,
  take_at,
  drop_at,
  drop-drop,
  le-leb,
  ltb-false,
}
use Rattle.std.proofs.Math.Decide.{dec_le}
use Rattle.std.proofs.lemmas.Bool.{lt-leb}
use Rattle.pen.specs.Put.{over, fits, wrote, behind, Put}
use Rattle.pen.specs.Decimal.{spell, decimal}

-- the bytes s fit from place at on and stand there, and k is the place behind them
pub record Wrote (out : List ℕ) (at : ℕ) (s after : List ℕ) (k : ℕ) : Type 0 where
  pub room : at + length s ≤ length out
  pub bytes : after ≡ over out at s
  pub place : k ≡ at + length s

pub put-fits :
    {out : List ℕ} {at : ℕ} {s after : List ℕ} {k : ℕ} →
    Put out at s after k → at + length s ≤ length out → Wrote out at s after k
unfolding wrote behind fits
put-fits {out} {at} {s} p h =
    let e : leb (at + length s) (length out) ≡ true = le-leb _ _ h in
    record { room = h; bytes = rw e at p.bytes; place = rw e at p.place }

over-long : (out : List ℕ) (at : ℕ) (s : List ℕ) → at + length s ≤ length out
    → length (over out at s) ≡ length out
unfolding over
over-long out at s h =
    omega (
      arith,
      length-append (take at out) (s ++ drop (at + length s) out),
      length-append s (drop (at + length s) out),
      length-take-le at out (omega arith),
      length-drop (at + length s) out,
    )

-- what does not fit leaves the buffer, and answers the place given
pub put-nothing : (out : List ℕ) (at : ℕ) (s : List ℕ) → length out < at + length s
    → Put out at s out at
unfolding wrote behind fits
put-nothing out at s h =
    let e : leb (at + length s) (length out) ≡ false = lt-leb _ _ h in
    record { bytes = rw e; place = rw e }

-- the buffer keeps its length, whether or not the bytes fit
pub put-long : {out : List ℕ} {at : ℕ} {s after : List ℕ} {k : ℕ} → Put out at s after k
    → length after ≡ length out
put-long {out} {at} {s} {after} p = go (dec_le (at + length s) (length out))
  where
    go : Dec (at + length s ≤ length out) → length after ≡ length out
    go (yes h) = ap length (put-fits p h).bytes ∙ over-long out at s h
    go (no h) = ap length (p.bytes ∙ sym (put-nothing out at s (omega arith)).bytes)

-- s over out, and then r behind s, is s and r over out
over-more :
    (out : List ℕ) (at : ℕ) (s r : List ℕ) → at + length s ≤ length out →
    over (over out at s) (at + length s) r ≡ over out at (s ++ r)
unfolding over
over-more out at s r h =
    let front = take at out in
    let tail = drop (at + length s) out in
    let e : front ++ (s ++ tail) ≡ (front ++ s) ++ tail = sym (append_assoc front s tail) in
    let l : length (front ++ s) ≡ at + length s =
    length-append front s ∙ ap (λ n. n + length s) (length-take-le at out (omega arith)) in
    let t : take (at + length s) (front ++ (s ++ tail)) ≡ front ++ s =
    ap (take (at + length s)) e ∙ take_at (front ++ s) tail (at + length s) l in
    let d : drop (at + length s) (front ++ (s ++ tail)) ≡ tail =
    ap (drop (at + length s)) e ∙ drop_at (front ++ s) tail (at + length s) l in
    let n : at + length s + length r ≡ at + length (s ++ r) = omega (arith, length-append s r) in
    let f : drop (at + length s + length r) (front ++ (s ++ tail))
    ≡ drop (at + length (s ++ r)) out =
    sym (drop-drop (length r) (at + length s) (front ++ (s ++ tail))) ∙ ap (drop (length r)) d
    ∙ drop-drop (length r) (at + length s) out ∙ ap (λ k. drop k out) n in
    rw (t, f) (append_assoc front s (r ++ drop (at + length (s ++ r)) out)
    ∙ ap (λ x. front ++ x) (sym (append_assoc s r (drop (at + length (s ++ r)) out))))

pub wrote_none : (out : List ℕ) (at : ℕ) → at ≤ length out → Wrote out at [] out at
unfolding over
wrote_none out at h =
    record {
      room = omega arith;
      bytes = sym (rw (add-zero at) (take-append-drop at out));
      place = omega arith;
    }

module _ {out : List ℕ} {at : ℕ} {s after : List ℕ} {k : ℕ} (w : Wrote out at s after k) where
  pub wrote-long : length after ≡ length out
  wrote-long = ap length w.bytes ∙ over-long out at s w.room

  pub wrote_then : {r last : List ℕ} {l : ℕ} → Wrote after k r last l → Wrote out at (s ++ r) last l
  wrote_then {r} {last} {l} v =
      let n = length-append s r in
      let m = wrote-long in
      record {
        room = omega (arith, v.room, w.place, n, m);
        bytes = v.bytes ∙ ap (λ o. over o k r) w.bytes
            ∙ ap (λ j. over (over out at s) j r) w.place
            ∙ over-more out at s r w.room;
        place = omega (arith, v.place, w.place, n);
      }

  -- a put behind what was written, where all of it fits
  pub wrote-put : {r last : List ℕ} {l : ℕ} → Put after k r last l
      → at + length (s ++ r) ≤ length out → Wrote out at (s ++ r) last l
  wrote-put {r} p h =
      wrote_then (put-fits p (omega (arith, h, w.place, length-append s r, wrote-long)))

-- what is written from the front on
pub wrote-front :
    {out s after : List ℕ} {k : ℕ} → Wrote out 0 s after k
    → (k ≡ length s) × (after ≡ s ++ drop (length s) out)
unfolding over
wrote-front {out} {s} w = (omega (arith, w.place), rw zero-add at w.bytes)

-- a number has at most as many digits as are asked for
spell-long : (f n : ℕ) (s : List ℕ) → length (spell f n s) ≤ f + length s
unfolding spell
spell-long zero n s = omega arith
spell-long (suc f) n s = go (ltb n 10) (spell-long f (n / 10) ((48 + n % 10) ∷ s))
  where
    go :
        (b : Bool) → length (spell f (n / 10) ((48 + n % 10) ∷ s)) ≤ f + suc (length s) →
        length (cond b ((48 + n) ∷ s) (spell f (n / 10) ((48 + n % 10) ∷ s))) ≤ suc f + length s
    go true h = omega arith
    go false h = omega arith

pub decimal-long : (n : ℕ) → length (decimal n) ≤ 20
unfolding decimal
decimal-long n = omega (arith, spell-long 20 n [])

-- the tenth of a number of more than one digit has a digit less
pub tenth_below : (i n : ℕ) → 10 ≤ n → n < 10 ^ suc i
    → (j : ℕ) × (i ≡ suc j) × (n / 10 < 10 ^ suc j)
tenth_below zero n h g = let z : n < 10 = g in absurd (omega arith)
tenth_below (suc j) n h g =
    (j, refl, (div-lt_iff_lt-mul {k = 10} (omega arith)).1 (rw (pow-suc 10 (suc j)) at g))

spell-below : (f i n : ℕ) (s : List ℕ) → n < 10 ^ suc i → length (spell f n s) ≤ suc i + length s
unfolding spell
spell-below zero i n s h = omega arith
spell-below (suc f) i n s h = go (ltb n 10) refl (λ j. spell-below f j (n / 10) ((48 + n % 10) ∷ s))
  where
    go :
        (b : Bool) → ltb n 10 ≡ b →
        ((j : ℕ) → n / 10 < 10 ^ suc j
        → length (spell f (n / 10) ((48 + n % 10) ∷ s)) ≤ suc j + suc (length s)) →
        length (cond b ((48 + n) ∷ s) (spell f (n / 10) ((48 + n % 10) ∷ s))) ≤ suc i + length s
    go true e ih = omega arith
    go false e ih = let (j, p, q) = tenth_below i n (ltb-false n 10 e) h in omega (arith, ih j q, p)

-- a number below 10 to the i, i at least 1, has at most i digits
pub decimal-below : (i n : ℕ) → n < 10 ^ suc i → length (decimal n) ≤ suc i
unfolding decimal
decimal-below i n h = omega (arith, spell-below 20 i n [] h)

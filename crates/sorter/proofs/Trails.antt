-- The loops of the backward walk: marks along the thread, and a path filled from its end.
use mathlib.Core.Path.{◌≡◌, refl, sym, ap, subst, ◌∙◌, fun_ext}
use mathlib.Core.Bool.{Bool, true, false, not, ◌||◌, or-false}
use mathlib.Core.List.{List, [], ◌∷◌}
use Rattle.std.specs.Prelude.{Option, None, Some, MatchOption}
use Prim.Native.Nat.{ℕ, suc, ◌+◌, ◌-◌, ◌≤◌, ◌<◌}
use native.Mathlib.Omega.{arith}
use lib.Dec.{T, eqb}
use lib.ListN.{length, get_or, set, drop, length-set, drop_of_length-le}
use lib.Seq.{drop-cons, drop-set-lt, get_or-set_same}
use Rattle.search.specs.Truth.{or_right, holds, fails}
use Rattle.search.specs.Sets.{add, add-self}
use Rattle.search.specs.Count.{count, count-le, count_none, count_add}
use Rattle.search.specs.Least.{least_from, found}
use Rattle.bits.specs.Bits.{has, put, Words, empty}
use Rattle.bits.specs.Laws.{put_has, empty-has}
use Rattle.table.specs.Packed.{shape_of}
use Rattle.table.specs.Sound.{Sound}
use Rattle.table.proofs.Checked.{few-calls}
use Rattle.calls.specs.Precedence.{precedes}
use Rattle.orders.specs.Walk.{among, upto, lowest_before, lowest_left, walk, met}
use Rattle.orders.proofs.Remains.{cons_calls, placed-stuck, left_one}
use Rattle.orders.proofs.Walked.{lowest-left, walk-met, walk_on, back}
use Rattle.placing.specs.Placing.{call_count, placed_of}
use Rattle.placing.specs.Thread.{chain}
use Rattle.placing.proofs.Threads.{among-end}

-- ---- marks along the thread
module _ (bytes : List ℕ) where
  -- what is marked, and the n calls that are to come, are all of them
  abbrev pub Marking : ℕ → ℕ → List ℕ → ℕ → ℕ → Type 0
  Marking count last marks n c =
      (x : ℕ) → (has marks x || among (chain bytes n c) x) ≡ among (chain bytes count last) x

  pub marking_starts : (count last : ℕ) (marks : List ℕ) (n : ℕ) → n ≡ count → marks ≡ empty
      → Marking count last marks n last
  marking_starts count last marks n f e x =
      rw f (ap (λ (q : ℕ → Bool). q x || among (chain bytes count last) x) (ap has e ∙ empty-has))

  module _ (count last : ℕ) (marks : List ℕ) (n m c : ℕ) (e : n ≡ suc m)
      (g : Marking count last marks n c) where
    chain-last : among (chain bytes n c) ≡ add c (among (chain bytes m (get_or bytes c 0)))
    unfolding chain
    chain-last =
        ap (λ k. among (chain bytes k c)) e ∙ among-end (chain bytes m (get_or bytes c 0)) c

    pub marking_call : T (among (chain bytes count last) c)
    marking_call =
        subst T (g c)
        (or_right (has marks c) (among (chain bytes n c) c)
        (subst (λ (q : ℕ → Bool). T (q c)) (sym chain-last)
        (add-self c (among (chain bytes m (get_or bytes c 0))))))

    pub marking_on : Words marks → c < 224
        → Marking count last (put marks c) m (get_or bytes c 0)
    marking_on w l x =
        ap (λ (q : ℕ → Bool). q x || among (chain bytes m (get_or bytes c 0)) x)
        (put_has marks c (omega arith) w)
        ∙ moved (eqb x c) (has marks x) (among (chain bytes m (get_or bytes c 0)) x)
        ∙ ap (λ (q : ℕ → Bool). has marks x || q x) (sym chain-last)
        ∙ g x
      where
        moved : (p q r : Bool) → ((p || q) || r) ≡ (q || (p || r))
        moved true true r = refl
        moved true false r = refl
        moved false q r = refl

  pub marking_ends : (count last : ℕ) (marks : List ℕ) (n c : ℕ) → n ≡ 0
      → Marking count last marks n c → has marks ≡ among (chain bytes count last)
  unfolding chain
  marking_ends count last marks n c e g =
      fun_ext
      (λ x. sym (or-false (has marks x))
      ∙ ap (λ m. has marks x || among (chain bytes m c) x) (sym e)
      ∙ g x)

-- ---- the lowest that has no mark
pub left_found : (q : ℕ → Bool) (n : ℕ) (r : Option ℕ)
    → MatchOption r ((k : ℕ) → 0 ≤ k → k < n → q k ≡ true)
    (λ i. (0 ≤ i) × (i < n) × (q i ≡ false) × ((k : ℕ) → 0 ≤ k → k < i → q k ≡ true))
    → MatchOption r ((k : ℕ) → k < n → T (q k))
    (λ i. (i < n) × (i ≡ least_from (λ k. not (q k)) n 0))
left_found q n None h = λ k l. holds (q k) (h k (omega arith) l)
left_found q n (Some i) (z, l, e, b) = (
  l,
  found (λ k. not (q k)) n i l
      (λ k g. rw (b k (omega arith) g) tt)
      (rw e tt),
)

-- ---- the path
module _ (t : List ℕ) where
  -- what the path holds was seen, and the walk goes on from a call that remains
  pub record Trail (path seen : List ℕ) (at call : ℕ) : Type 0 where
    pub long : length path ≡ 224
    pub place : at ≤ 224
    pub shown : has seen ≡ among (drop at path)
    pub many : count (among (drop at path)) (call_count t) + at ≡ 224
    pub calls : (i : ℕ) → i < length (drop at path) → get_or (drop at path) i 0 < call_count t
    pub here : call < call_count t
    pub waits : T (not (among (placed_of t) call))
    pub fuel : ℕ
    pub left : fuel + 224 ≡ suc (call_count t) + at
    pub same : met (call_count t) (precedes (shape_of t)) (among (placed_of t))
        ≡ walk (call_count t) (precedes (shape_of t)) (among (placed_of t)) fuel (drop at path) call

  module _ (ok : Sound t) (early : length (placed_of t) < call_count t) where
    pub trail_starts : (path seen : List ℕ) (at call : ℕ) → length path ≡ 224 → seen ≡ empty
        → at ≡ 224 → call ≡ lowest_left (call_count t) (precedes (shape_of t)) (among (placed_of t))
        → Trail path seen at call
    unfolding met placed_of
    trail_starts path seen at call l z a e =
        let n : drop at path ≡ [] = drop_of_length-le path {i = at} (omega arith) in
        let (c, hc, uc) = left_one (call_count t) (precedes (shape_of t)) early in
        let (h, u) =
        lowest-left (call_count t) (precedes (shape_of t)) (among (placed_of t)) c hc uc in
        record {
          long = l;
          place = omega arith;
          shown = ap has z ∙ empty-has ∙ ap among (sym n);
          many = rw n (omega (arith, count_none (among []) (call_count t) (λ i h. tt)));
          calls = rw n (λ i h. absurd (omega arith));
          here = rw e h;
          waits = rw e u;
          fuel = suc (call_count t);
          left = omega arith;
          same = rw (n, e);
        }

    -- the lowest direct predecessor that remains is a call that remains
    goes_on : (c : ℕ) → c < call_count t → T (not (among (placed_of t) c)) → (a : ℕ)
        → a ≡ lowest_before (call_count t) (precedes (shape_of t)) (among (placed_of t)) c
        → (a < call_count t) × T (not (among (placed_of t) a))
    unfolding placed_of
    goes_on c h w a e =
        let stuck = placed-stuck (call_count t) (precedes (shape_of t)) early in
        let (p, u, v) =
        back (call_count t) (precedes (shape_of t)) (among (placed_of t)) stuck c h w in
        (rw e p, rw e v)

    module _ (path seen : List ℕ) (at call : ℕ) (g : Trail path seen at call) where
      pub trail_small : call < 224
      trail_small = omega (arith, g.here, few-calls t ok)

      more : suc (g.fuel - 1) ≡ g.fuel
      more =
          omega (
            arith,
            g.left,
            g.many,
            count-le (among (drop at path)) (call_count t),
            few-calls t ok,
          )

      new-call : has seen call ≡ false → T (not (among (drop at path) call))
      new-call z = subst (λ q. T (not (q call))) g.shown (fails (has seen call) z)

      pub trail_room : has seen call ≡ false → 0 < at
      trail_room z =
          omega (
            arith,
            count_add (among (drop at path)) call (call_count t) g.here (new-call z),
            count-le (among (call ∷ drop at path)) (call_count t),
            g.many,
            few-calls t ok,
          )

      pub trail_on : (next : ℕ) → has seen call ≡ false → Words seen
          → next ≡ lowest_before (call_count t) (precedes (shape_of t)) (among (placed_of t)) call
          → Trail (set path (at - 1) call) (put seen call) (at - 1) next
      trail_on next z wide e =
          let back : suc (at - 1) ≡ at = omega (arith, trail_room z) in
          let fits : at - 1 < length path = omega (arith, g.long, g.place) in
          let d : drop (at - 1) (set path (at - 1) call) ≡ call ∷ drop at path =
          pushed path (at - 1) call fits ∙ ap (λ n. call ∷ drop n path) back in
          let (h, w) = goes_on call g.here g.waits next e in
          record {
            long = length-set path (at - 1) call ∙ g.long;
            place = omega (arith, g.place);
            shown = put_has seen call (omega (arith, trail_small)) wide
                ∙ ap (add call) g.shown ∙ ap among (sym d);
            many = rw d
                (omega (
                  arith,
                  count_add (among (drop at path)) call (call_count t) g.here
                      (new-call z),
                  g.many,
                ));
            calls = rw d (cons_calls (call_count t) call (drop at path) g.here g.calls);
            here = h;
            waits = w;
            fuel = g.fuel - 1;
            left = omega (arith, g.left, more);
            same = rw (d, e)
                (g.same
                ∙ ap (λ f. walk (call_count t) (precedes (shape_of t)) (among (placed_of t)) f
                (drop at path) call) (sym more)
                ∙ walk_on (call_count t) (precedes (shape_of t)) (among (placed_of t)) (g.fuel - 1)
                (drop at path) call
                (new-call z));
          }
        where
          pushed : (p : List ℕ) (i c : ℕ) → i < length p → drop i (set p i c) ≡ c ∷ drop (suc i) p
          pushed p i c l =
              rw (
                drop-cons (set p i c) i 0 (rw (length-set p i c) l),
                get_or-set_same p i c 0 l,
                drop-set-lt (suc i) p i c (omega arith),
              )

      module _ (z : has seen call ≡ true) where
        pub trail-again : T (among (drop at path) call)
        trail-again = subst (λ q. T (q call)) g.shown (holds (has seen call) z)

        pub trail_met : met (call_count t) (precedes (shape_of t)) (among (placed_of t))
            ≡ upto call (drop at path)
        trail_met =
            g.same
            ∙ ap (λ f. walk (call_count t) (precedes (shape_of t)) (among (placed_of t)) f
            (drop at path) call) (sym more)
            ∙ walk-met (call_count t) (precedes (shape_of t)) (among (placed_of t)) (g.fuel - 1)
            (drop at path) call trail-again

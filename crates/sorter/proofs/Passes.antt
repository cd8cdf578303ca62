-- The passes before the walk: what each byte holds once some inputs or feeds were passed.
use mathlib.Core.Path.{◌≡◌, refl, sym, ap, subst, ◌∙◌}
use mathlib.Core.Bool.{Bool, not}
use mathlib.Core.List.{List, ◌++◌}
use Prim.Native.Nat.{ℕ, ◌+◌, ◌-◌, ◌*◌, ◌≤◌, ◌<◌}
use native.Mathlib.Omega.{arith}
use native.Mathlib.Decide.{ℕ_discrete}
use lib.Dec.{T, not_T}
use lib.ListN.{length, get_or, set, drop, replicate, length-set}
use lib.ListN.{length-drop, length-append, get_or-append}
use lib.Seq.{get_or-set_same, get_or-set_other, drop-append_seam}
use Rattle.std.proofs.lemmas.List.{get_or-replicate, length-replicate, get_or-drop, drop-drop}
use Rattle.search.specs.Truth.{T_and, and_T, clash}
use Rattle.search.specs.Least.{least_from, lowest-is, lowest-one}
use Rattle.table.specs.Shape.{Shape}
use Rattle.table.specs.Packed.{units, outputs, inputs, feeds, shape_of}
use Rattle.table.specs.Packed.{pair_input, pair_output}
use Rattle.table.specs.Sound.{Sound}
use Rattle.calls.specs.Number.{set_no}
use Rattle.calls.specs.Precedence.{has_kind}
use Rattle.calls.proofs.Neighbours.{kind-found, found-kind}
use Rattle.sorter.specs.Keeps.{keeps_step}
use Rattle.sorter.specs.Lows.{LowSteps, LowGets}
use Rattle.sorter.proofs.Before.{Best, best_starts, best_lower, best_stays, best_ends}

-- ---- the lowest input of a unit, from the last down
module _ (s : Shape) (u : ℕ) (done : ℕ → Bool) where
  -- the lowest among the inputs from x on
  pub record From (x low : ℕ) : Type 0 where
    pub high : low ≤ s.inputs
    pub passes : low < s.inputs → T (keeps_step s u done low)
    pub below : (i : ℕ) → x ≤ i → i < low → T (not (keeps_step s u done i))

  from_starts : From s.inputs s.inputs
  from_starts = record {
    high = omega arith;
    passes = λ h. absurd (omega arith);
    below = λ i g h. absurd (omega arith);
  }

  from-here : (x : ℕ) → x < s.inputs → T (keeps_step s u done x) → From x x
  from-here x h t = record {
    high = omega arith;
    passes = λ g. t;
    below = λ i g l. absurd (omega arith);
  }

  from_on : (x low : ℕ) → T (not (keeps_step s u done (x - 1))) → From x low → From (x - 1) low
  from_on x low n f = record {
    high = f.high;
    passes = f.passes;
    below = λ i g l. elim (ℕ_discrete i (x - 1)) [
      | yes e ↦ rw e n
      | no e ↦ f.below i (omega arith) l
    ];
  }

  from-ends : (low : ℕ) → From 0 low → low ≡ least_from (keeps_step s u done) s.inputs 0
  from-ends low f =
      lowest-one (keeps_step s u done) s.inputs low
      (least_from (keeps_step s u done) s.inputs 0)
      (record { high = f.high; passes = f.passes; below = λ i l. f.below i (omega arith) l })
      (lowest-is (keeps_step s u done) s.inputs)

-- the bytes of all units once the inputs from x on were passed
pub record Steps (t : List ℕ) (done : ℕ → Bool) (lows : List ℕ) (x : ℕ) : Type 0 where
  pub long : length lows ≡ 32
  pub within : x ≤ inputs t
  pub each : (u : ℕ) → u < units t → From (shape_of t) u done x (get_or lows u 0)

module _ (t : List ℕ) (ok : Sound t) (done : ℕ → Bool) where
  pub steps_start : (x : ℕ) → x ≡ inputs t → Steps t done (replicate 32 x) x
  steps_start x e = record {
    long = length-replicate 32 x;
    within = omega arith;
    each = λ u g. rw (get_or-replicate 32 u x 0 (omega (arith, ok.counted.units-most)), e)
        (from_starts (shape_of t) u done);
  }

  module _ (lows : List ℕ) (x : ℕ) (some : 0 < x) (g : Steps t done lows x) where
    passed : ((u : ℕ) → T (not (keeps_step (shape_of t) u done (x - 1))))
        → Steps t done lows (x - 1)
    passed n = record {
      long = g.long;
      within = omega (arith, g.within);
      each = λ u h. from_on (shape_of t) u done x (get_or lows u 0) (n u) (g.each u h);
    }

    pub steps_delayed : ((shape_of t).kind (x - 1) ≡ 1 → ⊥) → Steps t done lows (x - 1)
    unfolding keeps_step
    steps_delayed n =
        passed
        (λ u. not_T (keeps_step (shape_of t) u done (x - 1))
        (λ k.
        n (kind-found (shape_of t) 1 (x - 1) u
        (T_and (has_kind (shape_of t) 1 (x - 1) u) (not (done (set_no (shape_of t) (x - 1)))) k).0
        ).0))

    pub steps_done : T (done (set_no (shape_of t) (x - 1))) → Steps t done lows (x - 1)
    unfolding keeps_step
    steps_done d =
        passed
        (λ u. not_T (keeps_step (shape_of t) u done (x - 1))
        (λ k.
        clash (done (set_no (shape_of t) (x - 1))) d
        (T_and (has_kind (shape_of t) 1 (x - 1) u) (not (done (set_no (shape_of t) (x - 1)))) k).1))

    pub steps_owner : (shape_of t).input_owner (x - 1) < 32
    steps_owner =
        omega (
          arith,
          ok.wired.input-owned (x - 1) (omega (arith, g.within)),
          ok.counted.units-most,
        )

    pub steps_here : (o : ℕ) → o ≡ (shape_of t).input_owner (x - 1) → (shape_of t).kind (x - 1) ≡ 1
        → T (not (done (set_no (shape_of t) (x - 1))))
        → Steps t done (set lows o (x - 1)) (x - 1)
    unfolding keeps_step
    steps_here o e k n = record {
      long = length-set lows o (x - 1) ∙ g.long;
      within = omega (arith, g.within);
      each = λ u h. elim (ℕ_discrete u o) [
        | yes p ↦
            rw (p, get_or-set_same lows o (x - 1) 0 (omega (arith, g.long, steps_owner, e)))
            (from-here (shape_of t) o done (x - 1) (omega (arith, g.within))
            (and_T (has_kind (shape_of t) 1 (x - 1) o) (not (done (set_no (shape_of t) (x - 1))))
            (found-kind (shape_of t) 1 (x - 1) o k (sym e)) n))
        | no p ↦
            rw (get_or-set_other lows o u (x - 1) 0 p)
            (from_on (shape_of t) u done x (get_or lows u 0)
            (not_T (keeps_step (shape_of t) u done (x - 1))
            (λ q.
            p (sym (kind-found (shape_of t) 1 (x - 1) u
            (T_and (has_kind (shape_of t) 1 (x - 1) u) (not (done (set_no (shape_of t) (x - 1))))
            q).0
            ).1
            ∙ sym e)))
            (g.each u h))
      ];
    }

  pub steps_end : (lows : List ℕ) (x : ℕ) → x ≡ 0 → Steps t done lows x → LowSteps t done lows
  steps_end lows x e g =
      record {
        long = g.long;
        each = λ u l. from-ends (shape_of t) u done (get_or lows u 0)
            (subst (λ n. From (shape_of t) u done n (get_or lows u 0)) e (g.each u l));
      }

-- ---- the lowest input of an output, feed by feed
-- a pair that stands at the front of those from feed k on
pub pair_is : (ps rest pair next : List ℕ) (n k : ℕ) → length ps ≡ 2 * n → rest ≡ drop (2 * k) ps
    → rest ≡ pair ++ next → length pair ≡ 2
    → (k < n) × (get_or pair 0 0 ≡ pair_input ps k) × (get_or pair 1 0 ≡ pair_output ps k)
    × (next ≡ drop (2 * (k + 1)) ps)
pair_is ps rest pair next n k l r s e =
    let both : drop (2 * k) ps ≡ pair ++ next = sym r ∙ s in
    let long = ap length both in (
      omega (arith, length-drop (2 * k) ps, length-append pair next, long),
      sym (get_or-append pair next 0 0 (omega arith))
          ∙ ap (λ l. get_or l 0 0) (sym both)
          ∙ get_or-drop (2 * k) ps 0 0
          ∙ ap (λ n. get_or ps n 0) (omega arith),
      sym (get_or-append pair next 0 1 (omega arith))
          ∙ ap (λ l. get_or l 1 0) (sym both)
          ∙ get_or-drop (2 * k) ps 1 0,
      sym (drop-append_seam pair next)
          ∙ ap (λ n. drop n (pair ++ next)) e
          ∙ ap (drop 2) (sym both)
          ∙ drop-drop 2 (2 * k) ps
          ∙ ap (λ n. drop n ps) (omega arith),
    )

-- the bytes of all outputs once k feeds were passed
pub record Gets (t : List ℕ) (done : ℕ → Bool) (lows : List ℕ) (k : ℕ) : Type 0 where
  pub long : length lows ≡ 96
  pub within : k ≤ feeds t
  pub each : (y : ℕ) → y < outputs t → Best (shape_of t) y done k (get_or lows y 0)

module _ (t : List ℕ) (ok : Sound t) (done : ℕ → Bool) where
  pub gets-start : (x : ℕ) → x ≡ inputs t → Gets t done (replicate 96 x) 0
  gets-start x e = record {
    long = length-replicate 96 x;
    within = omega arith;
    each = λ y g. rw (get_or-replicate 96 y x 0 (omega (arith, ok.counted.outputs-most)), e)
        (best_starts (shape_of t) y done);
  }

  module _ (lows : List ℕ) (k : ℕ) (more : k < feeds t) (g : Gets t done lows k) where
    pub gets-output : (shape_of t).feed_output k < 96
    gets-output = omega (arith, ok.wired.feed-output k more, ok.counted.outputs-most)

    pub gets_higher : get_or lows ((shape_of t).feed_output k) 0 ≤ (shape_of t).feed_input k
        → Gets t done lows (k + 1)
    gets_higher h = record {
      long = g.long;
      within = omega arith;
      each = λ y l. best_stays (shape_of t) y done k (get_or lows y 0) (λ o n. rw (← o) h)
          (g.each y l);
    }

    pub gets-done : T (done (set_no (shape_of t) ((shape_of t).feed_input k)))
        → Gets t done lows (k + 1)
    gets-done d = record {
      long = g.long;
      within = omega arith;
      each = λ y l. best_stays (shape_of t) y done k (get_or lows y 0)
          (λ o n. absurd (clash (done (set_no (shape_of t) ((shape_of t).feed_input k))) d n))
          (g.each y l);
    }

    pub gets_lower : (shape_of t).feed_input k < get_or lows ((shape_of t).feed_output k) 0
        → T (not (done (set_no (shape_of t) ((shape_of t).feed_input k))))
        → Gets t done (set lows ((shape_of t).feed_output k) ((shape_of t).feed_input k)) (k + 1)
    gets_lower h n =
        let o = (shape_of t).feed_output k in
        let x = (shape_of t).feed_input k in
        record {
          long = length-set lows o x ∙ g.long;
          within = omega arith;
          each = λ y l. elim (ℕ_discrete y o) [
            | yes p ↦
                rw (p, get_or-set_same lows o x 0 (omega (arith, g.long, gets-output)))
                (best_lower (shape_of t) o done k (get_or lows o 0) more refl n h
                (g.each o (ok.wired.feed-output k more)))
            | no p ↦
                rw (get_or-set_other lows o y x 0 p)
                (best_stays (shape_of t) y done k (get_or lows y 0) (λ q m. absurd (p (sym q)))
                (g.each y l))
          ];
        }

  pub gets-end : (lows : List ℕ) (k : ℕ) → feeds t ≤ k → Gets t done lows k → LowGets t done lows
  gets-end lows k h g =
      let e : k ≡ feeds t = omega (arith, g.within) in
      record {
        long = g.long;
        each = λ y l. best_ends (shape_of t) y done (get_or lows y 0)
            (subst (λ n. Best (shape_of t) y done n (get_or lows y 0)) e (g.each y l));
      }

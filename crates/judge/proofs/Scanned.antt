-- What the chains over the inputs and the feeds of a sound table answer.
use Rattle.std.proofs.Common.{
  ◌≡◌,
  refl,
  sym,
  ap,
  ◌∙◌,
  Bool,
  true,
  false,
  not,
  ◌&&◌,
  ◌||◌,
  cond,
  List,
  ℕ,
  ◌+◌,
  ◌-◌,
  ◌/◌,
  ◌<◌,
  ◌≤◌,
  min,
  Some,
  None,
  length,
  get_or,
  map,
  take,
  drop,
  eqb,
  arith,
  length-drop,
}
use Rattle.std.proofs.lemmas.List.{get_or-take, get_or-drop, length-take-le}
use Rattle.std.proofs.lemmas.Slice.Zip.{get_or-zip, length-zip}
use Rattle.std.specs.Bool.{beq}
use Rattle.std.specs.List.{filter, list_any, reduce, zip}
use Rattle.search.specs.Truth.{lt_true}
use Rattle.search.specs.Every.{some}
use Rattle.table.specs.Packed.{units, outputs, inputs, input_owners, kinds, pairs, shape_of}
use Rattle.table.specs.Packed.{pair_input, pair_output}
use Rattle.table.specs.Sound.{Sound}
use Rattle.table.specs.Layout.{long_input_owners, long-kinds, pair_count}
use Rattle.table.proofs.Checked.{few-calls}
use Rattle.calls.specs.Number.{set_no}
use Rattle.calls.specs.Precedence.{has_kind}
use Rattle.judging.specs.Conditions.{early, unset, unfed}
use Rattle.judge.specs.Marks.{marks}
use Rattle.judge.proofs.Scanning.{some-place, some-halves}
use Rattle.judge.proofs.Lowest.{Input, kind_of, of_kind, bars, Kinds, lowest-is}

-- the test of one feed
abbrev pub of_feed : List Bool → ℕ → ℕ → List ℕ → ℕ → Bool
of_feed done first output ps k =
    eqb (pair_output ps k) output && not (marks done (first + pair_input ps k))

-- the tests of an input in either order
turned : (o k m set : Bool) → (o && (k && beq m set)) ≡ ((k && o) && cond set m (not m))
turned true true true true = refl
turned true true true false = refl
turned true true false true = refl
turned true true false false = refl
turned true false m true = refl
turned true false m false = refl
turned false true m true = refl
turned false true m false = refl
turned false false m true = refl
turned false false m false = refl

module _ (t : List ℕ) (sound : Sound t) (done : List Bool) (u y : ℕ) (eu : u ≡ units t)
    (ey : y ≡ outputs t) where
  module _ (long : length done ≡ 224) (x : ℕ) (ex : x ≡ inputs t) (owners ks : List ℕ)
      (eo : owners ≡ input_owners t)
      (ek : ks ≡ kinds t)
      (unit : ℕ)
    where
      abbrev mark_of : ℕ → Bool
      mark_of i = marks done (set_no (shape_of t) i)

      -- the marks of all inputs
      abbrev sets : List Bool
      sets = take (u + y + x - (u + y)) (drop (u + y) done)

      -- all inputs
      abbrev all : List Input
      all = zip (zip owners ks) sets

      long-owners : length owners ≡ x
      long-owners = ap length eo ∙ long_input_owners t sound.long ∙ sym ex

      kinds-long : length ks ≡ x
      kinds-long = ap length ek ∙ long-kinds t sound.long ∙ sym ex

      room : u + y + x ≤ 224
      room = omega (arith, few-calls t sound)

      long-sets : length sets ≡ x
      long-sets =
          length-take-le (u + y + x - (u + y)) (drop (u + y) done)
          (omega (arith, room, length-drop (u + y) done))
          ∙ omega arith

      set_at : (i : ℕ) → i < x → get_or sets i false ≡ mark_of i
      unfolding marks
      set_at i h =
          get_or-take (u + y + x - (u + y)) (drop (u + y) done) i false (omega arith)
          ∙ get_or-drop (u + y) done i false
          ∙ rw (← eu, ← ey, lt_true (u + y + i) 224 (omega (arith, room)))

      input_at : (i : ℕ) → i < x
          → get_or all i ((0, 0), false)
          ≡ ((get_or (input_owners t) i 0, get_or (kinds t) i 0), mark_of i)
      input_at i h =
          rw (
            get_or-zip (zip owners ks) sets i ((0, 0), false)
                (omega (arith, long-owners, kinds-long, length-zip owners ks))
                (omega (arith, long-sets)),
            get_or-zip owners ks i (0, 0) (omega (arith, long-owners)) (omega (arith, kinds-long)),
            set_at i h,
            eo,
            ek,
          )

      all-long : length all ≡ inputs t
      all-long =
          omega (
            arith,
            long-owners,
            kinds-long,
            long-sets,
            length-zip (zip owners ks) sets,
            length-zip owners ks,
          )

      of-kind : (kind : ℕ) (set : Bool)
          → list_any (of_kind unit kind set) all
          ≡ some (λ i. has_kind (shape_of t) kind i unit
          && cond set (mark_of i) (not (mark_of i)))
          (inputs t)
      unfolding has_kind
      of-kind kind set =
          some-place (of_kind unit kind set) _ all ((0, 0), false) (inputs t) all-long
          (λ i h. rw (input_at i (omega arith)) (turned (eqb (get_or (input_owners t) i 0) unit)
          (eqb (get_or (kinds t) i 0) kind) (mark_of i) set))

      known : Kinds unit all
      known i h =
          rw (input_at i (omega (arith, all-long)))
          (sound.wired.kind-known i (omega (arith, all-long)))

      pub lowest_amiss-is : reduce min (map kind_of (filter (bars unit) all))
          ≡ cond (early (shape_of t) (marks done) unit) (Some 0)
          (cond (unset (shape_of t) (marks done) unit) (Some 1) None)
      unfolding early unset
      lowest_amiss-is = lowest-is unit all known ∙ rw (of-kind 0 true, of-kind 1 false)

  pub some_unfed-is : (ps : List ℕ) → ps ≡ pairs t → (output : ℕ)
      → some
      (λ k. of_feed done (u + y) output ps k
      || of_feed done (u + y) output ps (length ps / 2 / 2 + k))
      (length ps / 2 - length ps / 2 / 2)
      ≡ unfed (shape_of t) (marks done) output
  unfolding unfed
  some_unfed-is ps e output =
      some-halves (of_feed done (u + y) output ps) (length ps / 2)
      ∙ rw (e, pair_count t sound.long, eu, ey)

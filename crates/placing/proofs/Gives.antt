-- What each kind of call releases, in the terms of the code: the parts and counts that it has read.
use mathlib.Core.Path.{◌≡◌, sym, ap, subst, ◌∙◌}
use mathlib.Core.List.{List}
use Prim.Native.Nat.{ℕ, ◌+◌, ◌/◌, ◌≤◌, ◌<◌}
use native.Mathlib.Omega.{arith}
use native.Mathlib.Nat.{zero-add}
use lib.Dec.{T, eqb, eqb→eq, eqb_refl}
use lib.ListN.{length, get_or}
use Rattle.search.specs.Truth.{T_and, is_true, is_false, eq_false}
use Rattle.search.specs.Count.{bit}
use Rattle.table.specs.Packed.{units, outputs, inputs, feeds, output_owners}
use Rattle.table.specs.Packed.{input_owners, kinds, sources, pairs, pair_input, shape_of}
use Rattle.table.specs.Sound.{Sound}
use Rattle.table.proofs.Checked.{few-calls}
use Rattle.table.specs.Layout.{long_output_owners, long_input_owners, long-sources}
use Rattle.calls.specs.Number.{get_no, set_no}
use Rattle.calls.specs.Hits.{nth, hits}
use Rattle.calls.specs.Given.{only, steps_to_gets, steps_to_sets, into, own_step}
use Rattle.calls.proofs.Givens.{into-step, into_get, into-set}
use Rattle.placing.specs.Less.{is_key, are_keys, is_input, fed}
use Rattle.placing.specs.Blocks.{Block, Owned, Joined}
use Rattle.placing.specs.Lowered.{once}

module _ (t : List ℕ) (ok : Sound t) where
  -- the last call stands before the end of the counts
  pub fits : units t + outputs t + inputs t ≤ 224
  fits = few-calls t ok

  -- ---- what the loops over the parts hit
  pub hits-gets : (u first : ℕ) (owners : List ℕ) → first ≡ units t → owners ≡ output_owners t
      → (c : ℕ)
      → hits (is_key owners u) (nth first) (length owners) c ≡ steps_to_gets (shape_of t) (only u) c
  hits-gets u first owners e f c = rw (e, f, long_output_owners t ok.long)

  pub hits-delayed : (u first : ℕ) (owners kinds' : List ℕ) → first ≡ units t + outputs t
      → owners ≡ input_owners t → kinds' ≡ kinds t → (c : ℕ)
      → hits (are_keys owners u kinds' 0) (nth first) (length owners) c
      ≡ steps_to_sets (shape_of t) (only u) c
  hits-delayed u first owners kinds' e f g c = rw (e, f, g, long_input_owners t ok.long)

  pub hits_readers : (y first : ℕ) (sources' : List ℕ) → y < outputs t → first ≡ units t + outputs t
      → sources' ≡ sources t → (c : ℕ)
      → hits (is_key sources' y) (nth first) (length sources') c
      ≡ into (shape_of t) (only (get_no (shape_of t) y)) c
  hits_readers y first sources' h e f c =
      rw (e, f, long-sources t ok.long) (sym (into_get (shape_of t) ok.wired c y h))

  -- ---- a step: the gets of its outputs, then the sets of its delayed inputs
  pub step_gives : (u first second : ℕ) (owners owners' kinds' : List ℕ) → u < units t
      → first ≡ units t
      → second ≡ units t + outputs t → owners ≡ output_owners t → owners' ≡ input_owners t
      → kinds' ≡ kinds t
      → (c : ℕ)
      → into (shape_of t) (only u) c
      ≡ hits (is_key owners u) (nth first) (length owners) c
      + hits (are_keys owners' u kinds' 0) (nth second) (length owners') c
  step_gives u first second owners owners' kinds' h e f g i j c =
      into-step (shape_of t) ok.wired c u h
      ∙ omega (arith, hits-gets u first owners e g c, hits-delayed u second owners' kinds' f i j c)

  -- ---- a set: the gets of the outputs that it feeds, then the step of its unit
  pub set_gives : (x first count : ℕ) (pairs' : List ℕ) → x < inputs t → first ≡ units t
      → count ≡ feeds t
      → pairs' ≡ pairs t → (c : ℕ)
      → into (shape_of t) (only (set_no (shape_of t) x)) c
      ≡ hits (is_input pairs' x) (fed pairs' first) count c + own_step (shape_of t) x c
  set_gives x first count pairs' h e f g c = rw (e, f, g) (into-set (shape_of t) ok.wired c x h)

  pub fed-fits : (first count : ℕ) (pairs' : List ℕ) → first ≡ units t → count ≡ feeds t
      → pairs' ≡ pairs t
      → (k : ℕ) → k < count → fed pairs' first k < 224
  fed-fits first count pairs' e f g k h =
      rw (e, g) (omega (arith, fits, ok.wired.feed-output k (omega arith)))

  -- a delayed input gives its unit nothing
  pub own-none : (x kind : ℕ) → kind ≡ get_or (kinds t) x 0 → (kind ≡ 1 → ⊥) → (c : ℕ)
      → own_step (shape_of t) x c ≡ 0
  unfolding own_step bit
  own-none x kind e n c = rw (← e, is_false (eqb kind 1) (eq_false kind 1 n))

  -- a reactive one gives its unit's step one
  pub own-some : (x kind unit : ℕ) → kind ≡ get_or (kinds t) x 0 → kind ≡ 1
      → unit ≡ get_or (input_owners t) x 0
      → own_step (shape_of t) x unit ≡ 1
  unfolding own_step bit
  own-some x kind unit e k f = rw (← e, k, ← f, is_true (eqb unit unit) (eqb_refl unit))

  -- and nothing to another call
  pub own-once : (x kind unit : ℕ) → kind ≡ get_or (kinds t) x 0 → kind ≡ 1
      → unit ≡ get_or (input_owners t) x 0 → (c : ℕ) → own_step (shape_of t) x c ≡ once unit c
  unfolding own_step
  own-once x kind unit e k f c = rw (← e, k, ← f)

  pub own-fits : (x unit : ℕ) → x < inputs t → unit ≡ get_or (input_owners t) x 0 → unit < 224
  own-fits x unit h e = omega (arith, fits, ok.wired.input-owned x h)

  -- ---- the blocks that a call's successors stand in are noted
  pub step_gets : (u : ℕ) (owners own : List ℕ) → owners ≡ output_owners t → Owned t own
      → (i : ℕ) → i < length owners → T (is_key owners u i) → Block (get_or own u 0) (0 + i / 24)
  step_gets u owners own e o i h q =
      let n = ap length e ∙ long_output_owners t ok.long in
      let z : get_or (output_owners t) i 0 ≡ u =
      ap (λ l. get_or l i 0) (sym e) ∙ eqb→eq (get_or owners i 0) u q in
      rw (zero-add (i / 24))
      (subst (λ k. Block (get_or own k 0) (i / 24)) z (o.gets i (omega (arith, n))))

  pub step-sets : (u : ℕ) (owners kinds' own : List ℕ) → owners ≡ input_owners t → Owned t own
      → (i : ℕ) → i < length owners → T (are_keys owners u kinds' 0 i)
      → Block (get_or own u 0) (4 + i / 24)
  step-sets u owners kinds' own e o i h q =
      let n = ap length e ∙ long_input_owners t ok.long in
      let (a, b) = T_and (is_key owners u i) (is_key kinds' 0 i) q in
      let z : get_or (input_owners t) i 0 ≡ u =
      ap (λ l. get_or l i 0) (sym e) ∙ eqb→eq (get_or owners i 0) u a in
      subst (λ k. Block (get_or own k 0) (4 + i / 24)) z (o.sets i (omega (arith, n)))

  pub get_sets : (y : ℕ) (sources' mask : List ℕ) → sources' ≡ sources t → Joined t mask
      → (i : ℕ) → i < length sources' → T (is_key sources' y i)
      → Block (get_or mask y 0) (4 + i / 24)
  get_sets y sources' mask e o i h q =
      let n = ap length e ∙ long-sources t ok.long in
      let z : get_or (sources t) i 0 ≡ y =
      ap (λ l. get_or l i 0) (sym e) ∙ eqb→eq (get_or sources' i 0) y q in
      subst (λ k. Block (get_or mask k 0) (4 + i / 24)) z (o.sets i (omega (arith, n)))

  pub set-gets : (x count : ℕ) (pairs' mask : List ℕ) → count ≡ feeds t → pairs' ≡ pairs t
      → Joined t mask → (k : ℕ) → k < count → T (is_input pairs' x k)
      → Block (get_or mask x 0) (0 + k / 32)
  set-gets x count pairs' mask f e o k h q =
      let z : pair_input (pairs t) k ≡ x =
      ap (λ l. pair_input l k) (sym e) ∙ eqb→eq (pair_input pairs' k) x q in
      rw (zero-add (k / 32))
      (subst (λ i. Block (get_or mask i 0) (k / 32)) z (o.gets k (omega (arith, f))))

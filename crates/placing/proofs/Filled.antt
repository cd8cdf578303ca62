-- The counts that the five rules give before any call is placed.
use mathlib.Core.Path.{◌≡◌, sym, ◌∙◌}
use mathlib.Core.Bool.{true, not, ◌&&◌, and-true}
use mathlib.Core.List.{List}
use Prim.Native.Nat.{ℕ, ◌+◌}
use Rattle.search.specs.Sets.{none}
use Rattle.table.specs.Packed.{units, outputs, inputs, feeds, input_owners, kinds, pairs, shape_of}
use Rattle.calls.specs.Hits.{nth, hits}
use Rattle.calls.specs.Given.{into}
use Rattle.calls.proofs.Givens.{hits-same}
use Rattle.placing.specs.Less.{each, is_key, called, fed}

module _ (t : List ℕ) where
  pub filled : (gets sets outputs' inputs' feeds' : ℕ) (kinds' owners' pairs' : List ℕ)
      → gets ≡ units t
      → outputs' ≡ outputs t → sets ≡ units t + outputs t → inputs' ≡ inputs t → feeds' ≡ feeds t
      → kinds' ≡ kinds t → owners' ≡ input_owners t → pairs' ≡ pairs t
      → (c n : ℕ)
      → n
      ≡ hits each (nth (units t)) outputs' c + hits each (nth sets) inputs' c
      + hits each (fed pairs' gets) feeds' c
      + hits (is_key kinds' 1) (called owners') inputs' c
      + hits (is_key kinds' 0) (nth sets) inputs' c
      → n ≡ into (shape_of t) (λ a. not (none a)) c
  unfolding into
  filled gets sets outputs' inputs' feeds' kinds' owners' pairs' eg eo es ei ef ek ew ep c n h =
      h ∙ rw (eg, eo, es, ei, ef, ek, ew, ep, reactive c)
    where
      -- the test of every call changes nothing
      reactive : (c : ℕ)
          → hits (is_key (kinds t) 1) (called (input_owners t)) (inputs t) c
          ≡ hits (λ x. is_key (kinds t) 1 x && true) (called (input_owners t)) (inputs t) c
      reactive c =
          hits-same (called (input_owners t)) (inputs t) c (is_key (kinds t) 1)
          (λ x. is_key (kinds t) 1 x && true)
          (λ x l. sym (and-true (is_key (kinds t) 1 x)))

-- The calls of an order in turn: the verdict on all is that on what is left, from the marks so far.
use Rattle.std.proofs.Common.{
  ◌≡◌,
  ◌≢◌,
  refl,
  sym,
  ap,
  ◌∙◌,
  Bool,
  true,
  false,
  List,
  ℕ,
  suc,
  ◌+◌,
  ◌<◌,
  ◌≤◌,
  length,
  get_or,
  set,
  map,
  drop,
  arith,
  length-set,
  drop_of_length-le,
  drop-cons,
  eq-eqb,
  ne_eqb,
}
use Rattle.std.proofs.lemmas.List.{get_or-map, length-map, length-replicate}
use native.Mathlib.Numerals.{add-one}
use Rattle.table.specs.declared.Fault.{Fault}
use Rattle.table.specs.Shape.{total}
use Rattle.table.specs.Packed.{shape_of}
use Rattle.table.specs.Check.{refusal}
use Rattle.table.specs.Fault.{fault_number}
use Rattle.table.specs.Sound.{Sound}
use Rattle.table.proofs.Checked.{sound-passed}
use Rattle.judging.specs.Conditions.{refusal_at}
use Rattle.judging.specs.Verdict.{answer, at_end, verdict_from, verdict_of}
use Rattle.judging.proofs.Demand.{taken-small}
use Rattle.judging.proofs.Judged.{verdict_on, verdict_off, verdict_sound, verdict_unsound}
use Rattle.judge.specs.declared.refusal.Refusal.{Refusal}
use Rattle.judge.specs.Marks.{marks, marks-none, marks-set}
use Rattle.judge.specs.Taken.{fresh}
use Rattle.judge.specs.Refused.{refusal_number, unsound, told}
use Rattle.judge.proofs.Numbers.{fault-some, refusal-some}

module _ {X : Type 0} (t : List ℕ) (number : X → ℕ) (xs : List X) where
  abbrev all : List ℕ
  all = map number xs

  -- the marks of a run, and the calls from place k on, have the verdict of the whole
  pub record Left (done : List Bool) (k : ℕ) : Type 0 where
    pub long : length done ≡ 224
    pub left : verdict_of t all ≡ verdict_from (shape_of t) (marks done) (drop k all) k

  pub left-unsound : (f : Fault) → fault_number f ≡ refusal t
      → told (unsound f) ≡ verdict_of t all
  left-unsound f e =
      let n : refusal t ≢ 0 = λ z. fault-some f (e ∙ z) in
      rw e (sym (verdict_unsound t all n))

  module _ (sound : Sound t) where
    pub left_starts : Left fresh.done 0
    unfolding fresh
    left_starts = record {
      long = length-replicate {A = Bool} 224 false;
      left = verdict_sound t all (sound-passed t sound)
          ∙ ap (λ d. verdict_from (shape_of t) d all 0) (sym marks-none);
    }

    module _ (done : List Bool) (k : ℕ) (left : Left done k) (h : k < length xs) (x : X)
        (is : x ≡ get_or xs k x)
        (c : ℕ)
        (ec : c ≡ number x)
      where
        here : k < length all
        here = omega (arith, length-map xs number)

        call_at : get_or all k 0 ≡ c
        call_at = get_or-map number xs k x 0 h ∙ ap number (sym is) ∙ sym ec

        pub left_on : 0 ≡ refusal_at (shape_of t) (marks done) c → (next : List Bool)
            → next ≡ set done c true → Left next (k + 1)
        left_on e next d =
            let small = taken-small t (sound-passed t sound) (marks done) c 0 e refl in
            let on = verdict_on (shape_of t) (marks done) c (drop (suc k) all) k (sym e) in
            record {
              long = ap length d ∙ length-set done c true ∙ left.long;
              left = left.left ∙ rw (drop-cons all k 0 here, call_at, on, d, add-one) (ap
                  (λ q. verdict_from (shape_of t) q (drop (suc k) all) (suc k))
                  (sym (marks-set done c small left.long)));
            }

        pub left_off : (r : Refusal) → refusal_number r ≡ refusal_at (shape_of t) (marks done) c
            → told (record { refusal = r; place = k }) ≡ verdict_of t all
        left_off r e =
            let off = verdict_off (shape_of t) (marks done) c (drop (suc k) all) k
            (λ z. refusal-some r (e ∙ z)) in
            sym (left.left ∙ rw (drop-cons all k 0 here, call_at, off, ← e))

  pub left-ends : (done : List Bool) (k : ℕ) → Left done k → length xs ≤ k → k ≤ length xs
      → verdict_of t all ≡ at_end (shape_of t) (length xs)
  unfolding verdict_from
  left-ends done k left h g =
      let e : k ≡ length xs = omega arith in
      left.left ∙ rw (drop_of_length-le all {i = k} (omega (arith, length-map xs number)), e)

  module _ (n : ℕ) (e : n ≡ total (shape_of t))
      (ended : verdict_of t all ≡ at_end (shape_of t) (length xs)) where
    pub ends_short : length xs ≢ n → answer 18 (length xs) ≡ verdict_of t all
    unfolding at_end
    ends_short h = sym (ended ∙ rw (← e, ne_eqb (length xs) n h))

    pub ends-whole : length xs ≡ n → answer 0 (length xs) ≡ verdict_of t all
    unfolding at_end
    ends-whole h = sym (ended ∙ rw (← e, eq-eqb (length xs) n h))

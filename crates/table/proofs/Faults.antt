-- A number from 1 to 7 is of one fault, so what a check gives is settled by its number.
use Rattle.std.specs.Prelude.{◌≡◌, refl, ℕ, ◌<◌, List, cond, eqb, Result, Ok, Err, IfOk}
use Rattle.std.proofs.Common.{sym, ap, ◌∙◌, arith, lit<}
use Rattle.std.specs.Result.{result_map_both}
use Rattle.table.specs.declared.Fault.{Fault}
use Rattle.table.specs.declared.Fault.TheVariants.{
  Length,
  Count,
  Owner,
  Kind,
  Source,
  Feed,
  FeedTwice,
}
use Rattle.table.specs.Fault.{fault_number, number_of}

fault_of : ℕ → Fault
fault_of n =
    cond (eqb n 1) Length
    (cond (eqb n 2) Count
    (cond (eqb n 3) Owner
    (cond (eqb n 4) Kind
    (cond (eqb n 5) Source
    (cond (eqb n 6) Feed FeedTwice)))))

back : (a : Fault) → fault_of (fault_number a) ≡ a
unfolding fault_of
back Length = refl
back Count = refl
back Owner = refl
back Kind = refl
back Source = refl
back Feed = refl
back FeedTwice = refl

some_number : (a : Fault) → 0 < fault_number a
some_number Length = lit< tt
some_number Count = lit< tt
some_number Owner = lit< tt
some_number Kind = lit< tt
some_number Source = lit< tt
some_number Feed = lit< tt
some_number FeedTwice = lit< tt

pub one_fault : (a b : Fault) → fault_number a ≡ fault_number b → a ≡ b
one_fault a b e = sym (back a) ∙ ap fault_of e ∙ back b

-- of two results with one number, each with these bytes where there is no fault
pub one_result : {A : Type 0} (see : A → List ℕ) (bytes : List ℕ) (x y : Result A Fault)
    → number_of x ≡ number_of y → IfOk x (λ t. see t ≡ bytes) → IfOk y (λ t. see t ≡ bytes)
    → result_map_both see (λ e. e) x ≡ result_map_both see (λ e. e) y
one_result see bytes (Ok s) (Ok t) e p q = ap Ok (p ∙ sym q)
one_result see bytes (Ok s) (Err b) e p q = absurd (omega (arith, some_number b, e))
one_result see bytes (Err a) (Ok t) e p q = absurd (omega (arith, some_number a, e))
one_result see bytes (Err a) (Err b) e p q = ap Err (one_fault a b e)

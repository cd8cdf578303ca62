-- A chain `any` over a range asks whether some number below its end passes.
use Prim.Native.Nat.{ℕ, ◌<◌}
use mathlib.Core.Path.{◌≡◌, refl}
use mathlib.Core.Bool.{Bool, true, false, not}
use lib.ListN.{length}
use lib.Dec.{T}
use native.Mathlib.Omega.{arith}
use native.Mathlib.Nat.{zero-add}
use denote.Param.Members.{Mut}
use Rattle.std.specs.Bool.{MatchBool}
use Rattle.std.specs.Fn.{Called}
use Rattle.std.specs.Iterator.{ChecksAny}
use Rattle.std.specs.List.{range_with_len, AllWithin, HoldsAt}
use Rattle.std.specs.declared.ops.Range.{Range}
use Rattle.std.proofs.iter.Yields.{nat_range_steps}
use Rattle.std.proofs.lemmas.Iterator.{cases_from_any, YieldsList-from_range}
use Rattle.std.proofs.lemmas.List.FromFn.{length-range_with_len, get_or-range_with_len}
use Rattle.search.specs.Every.{some, some-yes, some_no}
use Rattle.search.specs.Truth.{says, denies}

-- by what is so of the numbers below n, one after another
by_cases : (r : Bool) (q : ℕ → Bool) (n : ℕ)
    → MatchBool r
    ((k : ℕ) × (k < length (range_with_len 0 n)) × HoldsAt (λ j. T (q j)) (range_with_len 0 n) k)
    (AllWithin (λ j. T (not (q j))) (range_with_len 0 n) 0 (length (range_with_len 0 n)))
    → r ≡ some q n
by_cases true q n (k, l, h) =
    let m : k < n = omega (arith, length-range_with_len 0 n) in
    some-yes q n k m (rw (get_or-range_with_len 0 n k 0 m, zero-add k) at (h 0))
by_cases false q n h =
    some_no q n n (omega arith)
    (λ k m. let l : k < length (range_with_len 0 n) = omega (arith, length-range_with_len 0 n) in
    rw (get_or-range_with_len 0 n k 0 m, zero-add k) at (h k 0 (omega arith) l))

-- where each call of the closure answers the test, and leaves the closure as it was
pub some_by_any : {F : Type 0} {g : Mut F (ℕ × Unit {0}) Bool} {s u : Range ℕ} {f : F} {r : Bool}
    (q : ℕ → Bool) (n : ℕ) → ChecksAny nat_range_steps g s f r u
    → s ≡ record { start = 0; end = n }
    → ((j : ℕ) (p : F) → Called g f (j, tt) true p → true ≡ q j)
    → ((j : ℕ) (p : F) → Called g f (j, tt) false p → (p ≡ f) × (false ≡ q j))
    → r ≡ some q n
some_by_any {u = u} {f = f} {r = r} q n ran e passes fails =
    by_cases r q n
    (cases_from_any u f r (λ j. T (q j)) (λ j. T (not (q j))) ran
    (YieldsList-from_range 0 n n e (omega arith))
    (λ j p k. says (passes j p k) refl)
    (λ j p k. ((fails j p k).0, denies (fails j p k).1 refl)))

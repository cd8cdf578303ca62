-- What a call number stands for is a unit, an output or an input that is there, or no call.
use Rattle.std.proofs.Common.{◌≡◌, ℕ, ◌-◌, ◌<◌, arith}
use Rattle.std.proofs.Math.Decide.{dec_lt}
use Rattle.search.specs.Truth.{lt_true, lt_false}
use Rattle.calls.specs.declared.Call.{Call}
use Rattle.calls.specs.declared.Call.TheVariants.{Step, Get, Set, NoCall}
use Rattle.calls.specs.Number.{call_in}

abbrev pub Known : ℕ → ℕ → ℕ → Call → Type 0
Known u y x (Step k) = k < u
Known u y x (Get k) = k < y
Known u y x (Set k) = k < x
Known u y x NoCall = Unit {0}

module _ (u y x c : ℕ) where
  known : Known u y x (call_in u y x c)
  unfolding call_in
  known = elim (dec_lt c u) [
    | yes h ↦ rw (lt_true c u h) h
    | no h ↦ elim (dec_lt (c - u) y) [
      | yes g ↦ rw (lt_false c u (omega arith), lt_true (c - u) y g) g
      | no g ↦ elim (dec_lt (c - u - y) x) [
        | yes f ↦
            rw (
              lt_false c u (omega arith),
              lt_false (c - u) y (omega arith),
              lt_true (c - u - y) x f,
            )
            f
        | no f ↦
            rw (
              lt_false c u (omega arith),
              lt_false (c - u) y (omega arith),
              lt_false (c - u - y) x (omega arith),
            )
            tt
      ]
    ]
  ]

  pub is-known : (k : Call) → k ≡ call_in u y x c → Known u y x k
  is-known k e = rw e known

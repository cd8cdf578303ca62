-- How long the lines of calls are at most, under names of at most 16 bytes.
use Prim.Native.Nat.{ℕ, suc, ◌+◌, ◌*◌, ◌-◌, ◌≤◌, ◌<◌}
use Rattle.std.specs.Prelude.{◌≡◌}
use mathlib.Core.List.{List, [], ◌∷◌}
use Rattle.std.proofs.Common.{add-zero}
use native.Mathlib.Omega.{arith}
use Rattle.std.proofs.Math.Decide.{dec_lt}
use Rattle.std.proofs.Math.ListN.{length, get_or, length-append}
use Rattle.search.specs.Count.{count, count-le, count_none, count_add, count-above, count_past}
use Rattle.grammar.specs.Quoted.{ascii}
use Rattle.grammar.specs.Rows.{word}
use Rattle.grammar.specs.Opening.{Row}
use Rattle.calls.specs.declared.Call.{Call}
use Rattle.calls.specs.declared.Call.TheVariants.{Step, Get, Set, NoCall}
use Rattle.calls.specs.Number.{call_in}
use Rattle.calls.specs.Numbers.{call_step}
use Rattle.orders.specs.Walk.{among}
use Rattle.orders.specs.Turned.{Once}
use Rattle.orders.specs.Once.{first-once, rest-once, once-count}
use Rattle.reading.specs.Spelled.{Spelled}
use Rattle.pen.specs.Decimal.{decimal}
use Rattle.pen.specs.Chain.{decimal-below}
use Rattle.printing.specs.Entries.{entry, entries, calls_text}
use Rattle.printing.specs.Lengths.{entry-long, calls-long}

-- the heading, the digits of 0 to 223, and beside its place 25 bytes for a step, 39 for another
abbrev pub greatest : ℕ
greatest = 10 + 562 + 32 * 25 + 192 * 39

-- how many digits the places below n have, for n up to 1,000
places : ℕ → ℕ
places n = n + (n - 10) + (n - 100)

place-long : (k : ℕ) → k < 1000 → length (decimal k) + places k ≤ places (suc k)
unfolding places
place-long k h = elim (dec_lt k 10) [
  | yes a ↦ omega (arith, decimal-below 0 k a)
  | no a ↦ elim (dec_lt k 100) [
    | yes b ↦ omega (arith, decimal-below 1 k b)
    | no b ↦ omega (arith, decimal-below 2 k h)
  ]
]

module _ (units outputs inputs : List Row) (us : (i : ℕ) → Spelled (get_or units i []))
    (ys : (i : ℕ) → Spelled (get_or outputs i [])) (xs : (i : ℕ)
    → Spelled (get_or inputs i [])) where
  -- ---- one line

  step-most : (k u : ℕ) → length (entry units outputs inputs k (Step u)) ≤ length (decimal k) + 25
  unfolding entry
  step-most k u =
      let f = get_or units u [] in
      omega (arith, (us u).0, entry-long (decimal k) (ascii "step") (word f 1) (ascii "-"))

  call-most : (k : ℕ) (c : Call) → length (entry units outputs inputs k c) ≤ length (decimal k) + 39
  unfolding entry
  call-most k (Step u) = omega (arith, step-most k u)
  call-most k (Get y) =
      let f = get_or outputs y [] in
      omega (arith, (ys y).0, (ys y).1, entry-long (decimal k) (ascii "get") (word f 1) (word f 2))
  call-most k (Set x) =
      let f = get_or inputs x [] in
      omega (arith, (xs x).0, (xs x).1, entry-long (decimal k) (ascii "set") (word f 1) (word f 2))
  call-most k NoCall = omega arith

  -- ---- the lines of calls, none of them twice: each step takes 14 bytes less than another call

  abbrev call_at : ℕ → Call
  call_at = call_in (length units) (length outputs) (length inputs)

  line-most : (k c : ℕ) (cs : List ℕ) → Once (c ∷ cs)
      → length (entry units outputs inputs k (call_at c))
      + 14 * count (among (c ∷ cs)) (length units)
      ≤ length (decimal k) + 39 + 14 * count (among cs) (length units)
  line-most k c cs o = elim (dec_lt c (length units)) [
    | yes h ↦
        rw (call_step (length units) (length outputs) (length inputs) c h)
        (omega (arith, step-most k c, count_add (among cs) c (length units) h (first-once c cs o)))
    | no h ↦ omega (
      arith,
      call-most k (call_at c),
      count-above (among cs) c (length units) (omega arith),
    )
  ]

  entries-most : (k : ℕ) (cs : List ℕ) → Once cs → k + length cs ≤ 1000
      → length (entries units outputs inputs k cs) + 14 * count (among cs) (length units) + places k
      ≤ 39 * length cs + places (k + length cs)
  unfolding entries
  entries-most k [] o h =
      rw (add-zero k) (omega (arith, count_none (among []) (length units) (λ i l. tt)))
  entries-most k (c ∷ cs) o h =
      let e : k + suc (length cs) ≡ suc k + length cs = omega arith in
      rw e
      (omega (
        arith,
        length-append (entry units outputs inputs k (call_at c))
            (entries units outputs inputs (suc k) cs),
        line-most k c cs o,
        place-long k (omega arith),
        entries-most (suc k) cs (rest-once c cs o) (omega arith),
      ))

  -- under a heading whose word has 5 bytes
  pub calls-most : (w cs : List ℕ) → length w ≡ 5
      → length units ≤ 32 → length outputs ≤ 96 → length inputs ≤ 96
      → ((i : ℕ) → i < length cs → get_or cs i 0 < length units + length outputs + length inputs)
      → Once cs
      → length (calls_text units outputs inputs w cs) ≤ greatest
  unfolding places
  calls-most w cs l u y x calls once =
      let ports = length outputs + length inputs in
      let below : (i : ℕ) → i < length cs → get_or cs i 0 < length units + ports =
      λ i h. omega (arith, calls i h) in
      let many = once-count (length units + ports) cs below once in
      let past = count_past (among cs) (length units) ports in
      let steps = count-le (among cs) (length units) in
      omega (
        arith,
        many,
        past,
        steps,
        decimal-below 2 (length cs) (omega (arith, many, past, steps)),
        entries-most 0 cs once (omega (arith, many, past, steps)),
        calls-long units outputs inputs w cs,
      )

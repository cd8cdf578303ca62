-- Laws of a loop that lowers one count for each that passes, block by block.
use mathlib.Core.Path.{◌≡◌, sym, ap, subst, ◌∙◌}
use Rattle.std.proofs.lemmas.Nat.{div-mul-add}
use mathlib.Core.Bool.{Bool, not}
use mathlib.Core.List.{List}
use Prim.Native.Nat.{ℕ, zero, suc, ◌+◌, ◌-◌, ◌*◌, ◌/◌, ◌≤◌, ◌<◌}
use native.Mathlib.Omega.{arith}
use native.Mathlib.Decide.{ℕ_discrete}
use lib.Dec.{T, not_T}
use Rattle.search.specs.Truth.{is_false}
use Rattle.search.specs.Count.{bit, count}
use Rattle.calls.specs.Hits.{hits}
use Rattle.placing.specs.Blocks.{Block}
use Rattle.placing.specs.Lowered.{Lowered}
use Rattle.placing.proofs.Lowering.{lowered_as}

-- places that do not pass give no hits
hits_gap : (q : ℕ → Bool) (at : ℕ → ℕ) (a z c : ℕ) → a ≤ z
    → ((i : ℕ) → a ≤ i → i < z → T (not (q i))) → hits q at z c ≡ hits q at a c
unfolding hits count bit
hits_gap q at a zero c h n = let e : a ≡ 0 = omega arith in rw e
hits_gap q at a (suc z) c h n = elim (ℕ_discrete a (suc z)) [
  | yes e ↦ rw e
  | no ne ↦
      rw (is_false (q z) (n z (omega arith) (omega arith)))
      (omega (arith, hits_gap q at a z c (omega arith) (λ i k l. n i k (omega arith))))
]

-- the places below n in the blocks before b
abbrev pub reach : ℕ → ℕ → ℕ → ℕ
reach size b n = size * b - (size * b - n)

-- a place of block b
in_block : (size b i : ℕ) → size * b ≤ i → i < size * (b + 1) → i / size ≡ b
in_block size b i h k =
    let e : b * size + (i - b * size) ≡ i = omega arith in
    ap (λ j. j / size) (sym e) ∙ div-mul-add b size (i - b * size) (omega arith)

module _ (q : ℕ → Bool) (at : ℕ → ℕ) (size low n b notes : ℕ) where
  -- a block that is not noted has none that passes
  pub blocks_miss : (high low' before after : List ℕ)
      → ((i : ℕ) → i < n → T (q i) → Block notes (low + i / size)) → (Block notes (low + b) → ⊥)
      → Lowered (hits q at (reach size b n)) high low' before after
      → Lowered (hits q at (reach size (b + 1) n)) high low' before after
  blocks_miss high low' before after noted miss =
      lowered_as (hits q at (reach size b n)) (hits q at (reach size (b + 1) n)) high low' before
      after
      (λ c. sym (hits_gap q at (reach size b n) (reach size (b + 1) n) c (omega arith)
      (λ i k l. not_T (q i)
      (λ t.
      let d = in_block size b i (omega arith) (omega arith) in
      miss (subst (λ d. Block notes (low + d)) d (noted i (omega arith) t))))))

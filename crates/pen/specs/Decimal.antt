-- A number in decimal.
use Rattle.std.specs.Prelude.{ℕ, zero, suc, ◌+◌, ◌/◌, ◌%◌, ◌≡◌, refl, cond, List, [], ◌∷◌, ltb}

-- the digits of n, no more than f of them, before the bytes s
unfoldable pub spell : ℕ → ℕ → List ℕ → List ℕ
spell zero n s = s
spell (suc f) n s = cond (ltb n 10) ((48 + n) ∷ s) (spell f (n / 10) ((48 + n % 10) ∷ s))

-- the digits of n: a number below 2 to the 64 has at most 20
unfoldable pub decimal : ℕ → List ℕ
decimal n = spell 20 n []

none : decimal 0 ≡ 48 ∷ []
unfolding decimal spell
none = refl

some : decimal 24576 ≡ 50 ∷ (52 ∷ (53 ∷ (55 ∷ (54 ∷ []))))
unfolding decimal spell
some = refl

most : decimal (18446744073709551615) ≡
    49 ∷ (56 ∷ (52 ∷ (52 ∷ (54
    ∷ (55 ∷ (52 ∷ (52 ∷ (48
    ∷ (55 ∷ (51 ∷ (55 ∷ (48 ∷ (57 ∷ (53 ∷ (53 ∷ (49 ∷ (54 ∷ (49 ∷ (53 ∷ [])))))))))))))))))))
unfolding decimal spell
most = refl

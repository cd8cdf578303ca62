-- The lowest kind of the inputs that bar a unit's step, where kinds are 0 and 1.
use Rattle.std.proofs.Common.{
  ◌≡◌,
  refl,
  ap,
  ◌∙◌,
  Bool,
  true,
  false,
  ◌&&◌,
  ◌||◌,
  cond,
  List,
  [],
  ◌∷◌,
  ℕ,
  zero,
  suc,
  ◌<◌,
  ◌≤◌,
  min,
  Some,
  None,
  length,
  get_or,
  map,
  eqb,
  arith,
}
use Rattle.std.specs.Bool.{beq}
use Rattle.std.specs.List.{filter, fold, list_any, reduce}

-- an input's owner and kind, and whether it is set
abbrev pub Input : Type 0
Input = (ℕ × ℕ) × Bool

abbrev pub kind_of : Input → ℕ
kind_of p = p.0.1

module _ (unit : ℕ) where
  -- an input of the unit, of this kind, that is set or is not
  abbrev pub of_kind : ℕ → Bool → Input → Bool
  of_kind kind set p = eqb p.0.0 unit && (eqb p.0.1 kind && beq p.1 set)

  -- an input that bars the unit's step
  abbrev pub bars : Input → Bool
  bars p = eqb p.0.0 unit && beq p.1 (eqb p.0.1 0)

  abbrev pub Kinds : List Input → Type 0
  Kinds zs = (i : ℕ) → i < length zs → kind_of (get_or zs i ((0, 0), false)) ≤ 1

  abbrev kinds : List Input → List ℕ
  kinds zs = map kind_of (filter bars zs)

  abbrev some_early : List Input → Bool
  some_early = list_any (of_kind 0 true)

  abbrev some_unset : List Input → Bool
  some_unset = list_any (of_kind 1 false)

  rest : (z : Input) (zs : List Input) → Kinds (z ∷ zs) → Kinds zs
  rest z zs h i l = h (suc i) (omega arith)

  -- the lowest of these kinds and of k
  below : (zs : List Input) (k : ℕ) → k ≤ 1 → Kinds zs
      → fold min k (kinds zs) ≡ cond (eqb k 0) 0 (cond (some_early zs) 0 1)
  below [] zero l h = refl
  below [] (suc zero) l h = refl
  below [] (suc (suc k)) l h = absurd (omega arith)
  below (((o, zero), s) ∷ zs) k l h =
      let r = rest ((o, 0), s) zs h in
      go (eqb o unit && beq s true) (below zs 0 (omega arith) r) (below zs k l r)
    where
      both : (b : Bool) → ◌≡◌ {A = ℕ} 0 (cond b 0 0)
      both true = refl
      both false = refl

      go : (b : Bool) → fold min 0 (kinds zs) ≡ 0
          → fold min k (kinds zs) ≡ cond (eqb k 0) 0 (cond (some_early zs) 0 1)
          → fold min k (map kind_of (cond b (((o, 0), s) ∷ filter bars zs) (filter bars zs)))
          ≡ cond (eqb k 0) 0 (cond (b || some_early zs) 0 1)
      go true least later = ap (λ n. fold min n (kinds zs)) (omega arith) ∙ least ∙ both (eqb k 0)
      go false least later = later
  below (((o, suc zero), s) ∷ zs) k l h =
      go (eqb o unit) (beq s false) (below zs k l (rest ((o, 1), s) zs h))
    where
      go : (a m : Bool) → fold min k (kinds zs) ≡ cond (eqb k 0) 0 (cond (some_early zs) 0 1)
          → fold min k (map kind_of (cond (a && m) (((o, 1), s) ∷ filter bars zs) (filter bars zs)))
          ≡ cond (eqb k 0) 0 (cond ((a && false) || some_early zs) 0 1)
      go true true later = ap (λ n. fold min n (kinds zs)) (omega arith) ∙ later
      go true false later = later
      go false m later = later
  below (((o, suc (suc j)), s) ∷ zs) k l h =
      absurd (let z : suc (suc j) ≤ 1 = h 0 (omega arith) in omega arith)

  pub lowest-is : (zs : List Input) → Kinds zs
      → reduce min (kinds zs)
      ≡ cond (some_early zs) (Some 0) (cond (some_unset zs) (Some 1) None)
  lowest-is [] h = refl
  lowest-is (((o, zero), s) ∷ zs) h =
      let r = rest ((o, 0), s) zs h in
      go (eqb o unit) (beq s true) (below zs 0 (omega arith) r) (lowest-is zs r)
    where
      go : (a m : Bool) → fold min 0 (kinds zs) ≡ 0
          → reduce min (kinds zs)
          ≡ cond (some_early zs) (Some 0) (cond (some_unset zs) (Some 1) None)
          → reduce min (map kind_of (cond (a && m) (((o, 0), s) ∷ filter bars zs) (filter bars zs)))
          ≡ cond ((a && m) || some_early zs) (Some 0)
          (cond ((a && false) || some_unset zs) (Some 1) None)
      go true true least later = ap Some least
      go true false least later = later
      go false m least later = later
  lowest-is (((o, suc zero), s) ∷ zs) h =
      let r = rest ((o, 1), s) zs h in
      go (eqb o unit) (beq s false) (below zs 1 (omega arith) r) (lowest-is zs r)
    where
      inside : (b : Bool) → Some (cond {A = ℕ} b 0 1) ≡ cond b (Some 0) (Some 1)
      inside true = refl
      inside false = refl

      go : (a m : Bool) → fold min 1 (kinds zs) ≡ cond (some_early zs) 0 1
          → reduce min (kinds zs)
          ≡ cond (some_early zs) (Some 0) (cond (some_unset zs) (Some 1) None)
          → reduce min (map kind_of (cond (a && m) (((o, 1), s) ∷ filter bars zs) (filter bars zs)))
          ≡ cond ((a && false) || some_early zs) (Some 0)
          (cond ((a && m) || some_unset zs) (Some 1) None)
      go true true least later = ap Some least ∙ inside (some_early zs)
      go true false least later = later
      go false m least later = later
  lowest-is (((o, suc (suc j)), s) ∷ zs) h =
      absurd (let z : suc (suc j) ≤ 1 = h 0 (omega arith) in omega arith)

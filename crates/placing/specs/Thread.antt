-- The order threaded through the bytes of the placed calls: each names the call placed before it.
use Rattle.std.specs.Prelude.{
  ◌≡◌,
  not,
  cond,
  List,
  [],
  ◌∷◌,
  ◌++◌,
  ℕ,
  zero,
  suc,
  eqb,
  length,
  get_or,
}
use Rattle.table.specs.Shape.{Shape}
use Rattle.table.specs.Packed.{shape_of}
use Rattle.calls.specs.Given.{into}
use Rattle.orders.specs.Walk.{among}
use Rattle.placing.specs.Placing.{placed_of}

-- the last call of a list; p where there is none
unfoldable pub last_of : ℕ → List ℕ → ℕ
last_of p [] = p
last_of p (x ∷ l) = last_of x l

-- the call before c in a list; p before the first
unfoldable pub prior : ℕ → List ℕ → ℕ → ℕ
prior p [] c = p
prior p (x ∷ l) c = cond (eqb c x) p (prior x l c)

-- the byte of each call once those of the list are placed: of a placed one the call placed before
-- it, 255 of the first; of another how many of its direct predecessors are not placed
unfoldable pub stands : Shape → List ℕ → ℕ → ℕ
stands s l c = cond (among l c) (prior 255 l c) (into s (λ a. not (among l a)) c)

-- the bytes of all calls where no more can be placed
pub record Standing (t bytes : List ℕ) : Type 0 where
  pub long : length bytes ≡ 224
  pub each : (c : ℕ) → get_or bytes c 0 ≡ stands (shape_of t) (placed_of t) c

-- n calls, the last of them c, each named by the byte of the one behind it
unfoldable pub chain : List ℕ → ℕ → ℕ → List ℕ
chain bytes zero c = []
chain bytes (suc n) c = chain bytes n (get_or bytes c 0) ++ (c ∷ [])

-- The five rules of SPECIFICATION, Precedence, and the test that code and procedures use.
use Rattle.std.specs.Prelude.{◌≡◌, Bool, false, ◌&&◌, ℕ, ◌<◌, eqb}
use Rattle.search.specs.Sets.{none}
use Rattle.search.specs.Every.{some}
use Rattle.table.specs.Shape.{Shape}
use Rattle.calls.specs.declared.Call.{Call}
use Rattle.calls.specs.declared.Call.TheVariants.{Step, Get, Set, NoCall}
use Rattle.calls.specs.Number.{call_of, step_no, get_no, set_no}

-- call a is a direct predecessor of call b
pub data Precedes (s : Shape) (a b : ℕ) : Type 0 where
  -- rule 1: an output is got after its unit's step
  step_get : (y : ℕ) → y < s.outputs → a ≡ step_no (s.output_owner y) → b ≡ get_no s y → Precedes s a b
  -- rule 2: an input is set after its source's get
  get_set : (x : ℕ) → x < s.inputs → a ≡ get_no s (s.source x) → b ≡ set_no s x → Precedes s a b
  -- rule 3: a feed's output is got after its input's set
  set_get : (k : ℕ) → k < s.feeds → a ≡ set_no s (s.feed_input k) → b ≡ get_no s (s.feed_output k) → Precedes s a b
  -- rule 4: a unit steps after the set of its reactive input
  set-step : (x : ℕ) → x < s.inputs → s.kind x ≡ 1 → a ≡ set_no s x → b ≡ step_no (s.input_owner x) → Precedes s a b
  -- rule 5: a delayed input is set after its unit's step
  step_set : (x : ℕ) → x < s.inputs → s.kind x ≡ 0 → a ≡ step_no (s.input_owner x) → b ≡ set_no s x → Precedes s a b

-- input x feeds output y
unfoldable pub feeds_to : Shape → ℕ → ℕ → Bool
feeds_to s x y = some (λ k. eqb (s.feed_input k) x && eqb (s.feed_output k) y) s.feeds

-- input x of unit u has this kind
unfoldable pub has_kind : Shape → ℕ → ℕ → ℕ → Bool
has_kind s kind x u = eqb (s.kind x) kind && eqb (s.input_owner x) u

-- a test of a call by its kind
unfoldable pub by_kind : (ℕ → Bool) → (ℕ → Bool) → (ℕ → Bool) → Call → Bool
by_kind step get set (Step u) = step u
by_kind step get set (Get y) = get y
by_kind step get set (Set x) = set x
by_kind step get set NoCall = false

-- the steps, gets and sets that each call comes before
unfoldable pub before : Shape → Call → Call → Bool
before s (Step u) = by_kind none (λ y. eqb (s.output_owner y) u) (λ x. has_kind s 0 x u)
before s (Get y) = by_kind none none (λ x. eqb (s.source x) y)
before s (Set x) = by_kind (λ u. has_kind s 1 x u) (λ y. feeds_to s x y) none
before s NoCall = λ b. false

-- the test of two call numbers
unfoldable pub precedes : Shape → ℕ → ℕ → Bool
precedes s a b = before s (call_of s a) (call_of s b)

-- The line found for a call is the one that declares it.
use Prim.Native.Nat.{ℕ, ◌+◌, ◌-◌, ◌<◌, ◌≤◌}
use mathlib.Core.Path.{◌≡◌, refl, ap, sym, ◌∙◌, subst}
use mathlib.Core.List.{List, [], ◌∷◌}
use native.Mathlib.Decide.{dec_lt}
use native.Mathlib.Omega.{arith}
use lib.ListN.{length, get_or, drop, length-take}
use borrow.Author.Tests.{eq-eqb, ne_eqb}
use Rattle.grammar.specs.Quoted.{ascii}
use Rattle.grammar.specs.Rows.{row_at, word, stretch}
use Rattle.fields.specs.declared.Fields.{Fields}
use Rattle.fields.specs.Spans.{fields_at}
use Rattle.fields.specs.Parts.{Part, field_part}
use Rattle.declarations.specs.Standing.{declared-many, declared-small, declared-row}
use Rattle.calls.specs.declared.Call.{Call}
use Rattle.calls.specs.declared.Call.TheVariants.{Step, Get, Set, NoCall}
use Rattle.calls.specs.Number.{call_in}
use Rattle.calls.specs.Numbers.{call_step, call_get, call-set, call_none}
use Rattle.pen.specs.Decimal.{decimal}
use Rattle.pen.specs.Chain.{Wrote, wrote_none}
use Rattle.printing.specs.Printed.{printed}
use Rattle.printing.specs.Entries.{entry}
use Rattle.printing.specs.Places.{line_for, line_at, text_of}
use Rattle.printing.specs.Indexed.{Indexed, the_unit_lines, output_lines, input_lines, entry_of}
use Rattle.printing.specs.declared.call.Line.{Line}
-- the examples come before the laws: a definition that prints something else fails on one of them
use Rattle.printing.specs.Computed

-- ---- a call stands in its range

abbrev pub Within : ℕ → ℕ → ℕ → Call → Type 0
Within u y x (Step n) = n < u
Within u y x (Get n) = n < y
Within u y x (Set n) = n < x
Within u y x NoCall = Unit {0}

pub call-within : (u y x c : ℕ) → Within u y x (call_in u y x c)
call-within u y x c = elim (dec_lt c u) [
  | yes h ↦ rw (call_step u y x c h) h
  | no h ↦ elim (dec_lt (c - u) y) [
    | yes g ↦ rw (call_get u y x c (omega arith) g) g
    | no g ↦ elim (dec_lt (c - u - y) x) [
      | yes f ↦ rw (call-set u y x c (omega arith) (omega arith) f) f
      | no f ↦ rw (call_none u y x c (omega arith) (omega arith) (omega arith)) tt
    ]
  ]
]

-- ---- what is printed, by kind

module _ (t : List ℕ) (k : ℕ) (l : Line) where
  pub text_none : 3 ≤ l.kind → text_of t k l ≡ []
  unfolding text_of
  text_none h =
      rw (
        ne_eqb l.kind 0 (λ e. omega arith),
        ne_eqb l.kind 1 (λ e. omega arith),
        ne_eqb l.kind 2 (λ e. omega arith),
      )

  module _ (u p : List ℕ) (e : u ≡ word (row_at t l.place) 1) where
    pub text_step : l.kind ≡ 0
        → printed (decimal k ∷ ascii "step" ∷ u ∷ ascii "-" ∷ []) ≡ text_of t k l
    unfolding text_of
    text_step z = rw (e, eq-eqb l.kind 0 z)

    module _ (f : p ≡ word (row_at t l.place) 2) (z : l.kind ≡ 0 → ⊥) where
      pub text_get : l.kind ≡ 1 → printed (decimal k ∷ ascii "get" ∷ u ∷ p ∷ []) ≡ text_of t k l
      unfolding text_of
      text_get o = rw (e, f, ne_eqb l.kind 0 z, eq-eqb l.kind 1 o)

      pub text-set :
          (l.kind ≡ 1 → ⊥) → l.kind < 3
          → printed (decimal k ∷ ascii "set" ∷ u ∷ p ∷ []) ≡ text_of t k l
      unfolding text_of
      text-set o h =
          rw (e, f, ne_eqb l.kind 0 z, ne_eqb l.kind 1 o, eq-eqb l.kind 2 (omega arith))

-- ---- the line that is found

module _ (t us ys xs : List ℕ) (i : Indexed t us ys xs) where
  units-many : length us ≡ length (the_unit_lines t)
  units-many = rw i.unit-places (declared-many (ascii "unit") 32 t)

  outputs-many : length ys ≡ length (output_lines t)
  outputs-many = rw i.output-places (declared-many (ascii "out") 96 t)

  inputs-many : length xs ≡ length (input_lines t)
  inputs-many = rw i.input-places (declared-many (ascii "in") 96 t)

  same-call : (c : ℕ) → call_in (length us) (length ys) (length xs) c
      ≡ call_in (length (the_unit_lines t)) (length (output_lines t)) (length (input_lines t)) c
  same-call c = rw (units-many, outputs-many, inputs-many)

  unit_row : (n : ℕ) → n < length us → row_at t (get_or us n 0) ≡ get_or (the_unit_lines t) n []
  unit_row n h = rw i.unit-places (declared-row (ascii "unit") 32 t n (rw (← i.unit-places) h))

  output_row : (n : ℕ) → n < length ys → row_at t (get_or ys n 0) ≡ get_or (output_lines t) n []
  output_row n h =
      rw i.output-places (declared-row (ascii "out") 96 t n (rw (← i.output-places) h))

  input-row : (n : ℕ) → n < length xs → row_at t (get_or xs n 0) ≡ get_or (input_lines t) n []
  input-row n h = rw i.input-places (declared-row (ascii "in") 96 t n (rw (← i.input-places) h))

  found : (k : ℕ) (c : Call) → Within (length us) (length ys) (length xs) c
      → text_of t k (line_for us ys xs c)
      ≡ entry (the_unit_lines t) (output_lines t) (input_lines t) k c
  unfolding text_of line_for entry
  found k (Step n) h = rw (unit_row n h)
  found k (Get n) h = rw (output_row n h)
  found k (Set n) h = rw (input-row n h)
  found k NoCall h = refl

  pub line_prints : (k c : ℕ) → text_of t k (line_at us ys xs c) ≡ entry_of t k c
  unfolding line_at
  line_prints k c =
      found k _ (call-within (length us) (length ys) (length xs) c)
      ∙ ap (entry (the_unit_lines t) (output_lines t) (input_lines t) k) (same-call c)

  some :
      (c : Call) → Within (length us) (length ys) (length xs) c → (line_for us ys xs c).kind < 3 →
      length t ≤ 65535
  unfolding line_for
  some (Step n) h s = declared-small (ascii "unit") 32 t n (rw (← i.unit-places) h)
  some (Get n) h s = declared-small (ascii "out") 96 t n (rw (← i.output-places) h)
  some (Set n) h s = declared-small (ascii "in") 96 t n (rw (← i.input-places) h)
  some NoCall h s = absurd (omega arith)

  pub line_small : (c : ℕ) → (line_at us ys xs c).kind < 3 → length t ≤ 65535
  unfolding line_at
  line_small c h = some _ (call-within (length us) (length ys) (length xs) c) h

  module _ (c : ℕ) (l : Line) (e : l ≡ line_at us ys xs c) where
    pub found-small : l.kind < 3 → length t ≤ 65535
    found-small h = line_small c (rw e at h)

    pub found_prints : (k : ℕ) → text_of t k l ≡ entry_of t k c
    found_prints k = rw e (line_prints k c)

-- ---- the arms of the match

module _ (us ys xs : List ℕ) (c n : ℕ) where
  arm : (k : Call)
      → call_in (length us) (length ys) (length xs) c ≡ k
      → Within (length us) (length ys) (length xs) k
  arm k e =
      subst (Within (length us) (length ys) (length xs)) e
      (call-within (length us) (length ys) (length xs) c)

  pub step-arm : call_in (length us) (length ys) (length xs) c ≡ Step n → n < length us
  step-arm = arm (Step n)

  pub get_arm : call_in (length us) (length ys) (length xs) c ≡ Get n → n < length ys
  get_arm = arm (Get n)

  pub set-arm : call_in (length us) (length ys) (length xs) c ≡ Set n → n < length xs
  set-arm = arm (Set n)

pub line_of : (us ys xs : List ℕ) (c : ℕ) (k : Call)
    → call_in (length us) (length ys) (length xs) c ≡ k → line_for us ys xs k ≡ line_at us ys xs c
unfolding line_at
line_of us ys xs c k e = ap (line_for us ys xs) (sym e)

-- where a field of the line at place a stands
pub part_of : {t : List ℕ} {a i : ℕ} {l : Fields} → l ≡ fields_at t a → length t ≤ 65535 → i < 5
    → Part t a i l
part_of {t} {a} {i} e h five = rw e (field_part t a h i five)

pub word-short : (t : List ℕ) (a i : ℕ) → length t ≤ 65535 → i < 5
    → length (word (row_at t a) i) ≤ 65535
unfolding stretch
word-short t a i h five =
    let p = field_part t a h i five in
    let from = get_or (fields_at t a).from i 0 in
    let to = get_or (fields_at t a).to i 0 in
    omega (arith, ap length p.bytes, length-take (to - from) (drop from t), p.within)

-- ---- what is put

pub nothing_put :
    (t : List ℕ) (k : ℕ) (l : Line) (o : List ℕ) (at : ℕ) →
    3 ≤ l.kind → at + length (text_of t k l) ≤ length o → Wrote o at (text_of t k l) o at
nothing_put t k l o at h room = rw (text_none t k l h) (wrote_none o at (omega arith))

pub same-put : {o s r after : List ℕ} {at k : ℕ} → Wrote o at s after k → s ≡ r
    → Wrote o at r after k
same-put w e = rw (← e) w

pub same-room : {s r : List ℕ} (at n : ℕ) → s ≡ r → at + length r ≤ n → at + length s ≤ n
same-room at n e h = rw e h

-- One law for each return of the search for a port.
use Prim.Native.Nat.{ℕ, ◌+◌, ◌≤◌, ◌<◌}
use mathlib.Core.Path.{◌≡◌, ap, ◌∙◌}
use mathlib.Core.Logic.{inl, inr}
use mathlib.Core.List.{List}
use native.Mathlib.Omega.{arith}
use Rattle.search.specs.Least.{least_from}
use Rattle.grammar.specs.Rows.{word}
use Rattle.notes.specs.declared.Counts.{Counts}
use Rattle.notes.specs.Notes.{named}
use Rattle.lines.specs.Took.{Ported}

module _ (t p s : List ℕ) (c : Counts) (f : List (List ℕ)) (i b n : ℕ) (v : List ℕ)
    (e : v ≡ word f i) (u : ℕ)
    (q : u ≡ least_from (named t p s 0 0 v) c.units 0) where
  unit-is : u ≡ least_from (named t p s 0 0 (word f i)) c.units 0
  unit-is = q ∙ ap (λ w. least_from (named t p s 0 0 w) c.units 0) e

  pub port_no_unit : c.units ≤ u
      → Ported t p s c f i b n (record { unit = u; number = 0; field = i + 1 })
  port_no_unit h = record { unit = unit-is; none = λ z. inl h; some = λ z. absurd (omega arith) }

  module _ (h : u < c.units) (w : List ℕ) (g : w ≡ word f (i + 1)) (x : ℕ)
      (r : x ≡ least_from (named t p s b u w) n 0) where
    port-is : x ≡ least_from (named t p s b u (word f (i + 1))) n 0
    port-is = r ∙ ap (λ l. least_from (named t p s b u l) n 0) g

    pub port-none : n ≤ x → Ported t p s c f i b n (record { unit = u; number = x; field = i + 2 })
    port-none k = record {
      unit = unit-is;
      none = λ z. inr (h, omega (arith, port-is));
      some = λ z. absurd (omega arith);
    }

    pub port-found : x < n → Ported t p s c f i b n (record { unit = u; number = x; field = 0 })
    port-found k = record {
      unit = unit-is;
      none = λ z. absurd (z mathlib.Core.Path.refl);
      some = λ z. (h, (k, port-is));
    }

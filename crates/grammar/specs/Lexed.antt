-- What a reader of fields promises of the line that begins at place a, and what a field then is.
use Rattle.std.specs.Prelude.{
  ℕ,
  ◌+◌,
  ◌-◌,
  ◌<◌,
  ◌≤◌,
  ◌≡◌,
  refl,
  Bool,
  true,
  false,
  cond,
  List,
  [],
  ◌∷◌,
  length,
  get_or,
  take,
  drop,
  eqb,
}
use Rattle.std.proofs.Common.{ap, ◌∙◌, arith}
use Rattle.grammar.specs.Words.{tab, lf}
use Rattle.grammar.specs.Rows.{rows, row_at, word, front, field_at, word_end, stretch}

-- the first five fields begin at `from`, end at `to`; `count` fields; `next` begins the next line
pub record Lexed (t : List ℕ) (a : ℕ) (from to : List ℕ) (count next : ℕ) : Type 0 where
  pub count-is : count ≡ length (row_at t a)
  pub some : 0 < count
  pub words : (i : ℕ) → i < 5 → i < count → field_at t (get_or from i 0) ≡ word (row_at t a) i
  pub ends : (i : ℕ) → i < 5 → i < count → get_or to i 0 ≡ word_end t (get_or from i 0)
  pub within : (i : ℕ) → i < 5 → i < count → get_or to i 0 < length t
  pub rest : rows (drop a t) ≡ row_at t a ∷ rows (drop next t)
  pub further : a < next
  pub inside : next ≤ length t

pub front_prefix : (xs : List ℕ) → take (length (front xs)) xs ≡ front xs
unfolding front
front_prefix [] = refl
front_prefix (x ∷ xs) = go (eqb x lf) (eqb x tab) (front_prefix xs)
  where
    go : (l p : Bool) → take (length (front xs)) xs ≡ front xs
        → take (length (cond l [] (cond p [] (x ∷ front xs)))) (x ∷ xs)
        ≡ cond l [] (cond p [] (x ∷ front xs))
    go true p ih = refl
    go false true ih = refl
    go false false ih = rw ih

-- the stretch from a field's first byte to its end is the field
pub stretch_field : (t : List ℕ) (a : ℕ) → stretch t a (word_end t a) ≡ field_at t a
unfolding stretch word_end field_at
stretch_field t a =
    let z : (a + length (front (drop a t))) - a ≡ length (front (drop a t)) = omega arith in
    ap (λ n. take n (drop a t)) z ∙ front_prefix (drop a t)

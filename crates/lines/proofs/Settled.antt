-- Where the notes fit and the fields are told right, the contract of `line` permits one number and
-- one entry; the field of a refusal is left open.
use Prim.Native.Nat.{ℕ}
use mathlib.Core.Path.{◌≡◌, refl, sym, ap, ap₂, ◌∙◌}
use mathlib.Core.Bool.{Bool, true, false, cond}
use mathlib.Core.List.{List}
use native.Mathlib.Decide.{ℕ_discrete}
use lib.Dec.{eqb}
use Rattle.search.specs.Settling.{SettlesWhere}
use Rattle.grammar.specs.Draft.{Draft}
use Rattle.grammar.specs.Rows.{word}
use Rattle.grammar.specs.Lines.{Outcome}
use Rattle.notes.specs.declared.Counts.{Counts}
use Rattle.notes.specs.declared.Entry.{Entry}
use Rattle.notes.specs.Notes.{Fit}
use Rattle.notes.specs.Noted.{no_entry}
use Rattle.notes.proofs.Declaring.{rank-one}
use Rattle.lines.specs.declared.Taken.{Taken}
use Rattle.lines.specs.Took.{keyword_of, unit_entry, out_entry, in_entry}
use Rattle.lines.specs.Took.{feed_entry, join_entry, entry_of, Took}
use Rattle.lines.proofs.line.Kinds as line
use Rattle.lines.proofs.line.Reads as line-says

-- the entries of a line differ in their ranks at most
pub record Alike (e o : Entry) : Type 0 where
  pub what : e.what ≡ o.what
  pub owner : e.owner ≡ o.owner
  pub begin : e.begin ≡ o.begin

entries-alike : (d : Draft) (f : List (List ℕ)) (from : List ℕ) (i j : ℕ)
    → Alike (entry_of d f from i) (entry_of d f from j)
unfolding entry_of unit_entry out_entry in_entry feed_entry join_entry
entries-alike d f from i j = go (eqb k 1) (eqb k 2) (eqb k 3) (eqb k 4) (eqb k 5)
  where
    k : ℕ
    k = keyword_of (word f 0)

    by : Bool → Bool → Bool → Bool → Bool → ℕ → Entry
    by a b c e g n =
        cond a (unit_entry from n)
        (cond b (out_entry d f from n)
        (cond c (in_entry d f from n) (cond e (feed_entry d f n)
        (cond g (join_entry d f n) no_entry))))

    go : (a b c e g : Bool) → Alike (by a b c e g i) (by a b c e g j)
    go true b c e g = record { what = refl; owner = refl; begin = refl }
    go false true c e g = record { what = refl; owner = refl; begin = refl }
    go false false true e g = record { what = refl; owner = refl; begin = refl }
    go false false false true g = record { what = refl; owner = refl; begin = refl }
    go false false false false true = record { what = refl; owner = refl; begin = refl }
    go false false false false false = record { what = refl; owner = refl; begin = refl }

module _ (t p s : List ℕ) (c : Counts) (fit : Fit t p s c) (k : ℕ) (d : Draft) (f : List (List ℕ))
    (from : List ℕ) (o : Outcome)
    (x y : Taken) (h : Took t p s c k (entry_of d f from) x o)
    (g : Took t p s c k (entry_of d f from) y o) where
  number-one : x.number ≡ y.number
  number-one = h.number ∙ sym g.number

  entry-one : x.entry ≡ y.entry
  entry-one = elim (ℕ_discrete x.number 0) [
    | yes z ↦
        let v : y.number ≡ 0 = sym number-one ∙ z in
        let a = entries-alike d f from x.entry.rank y.entry.rank in
        let e = h.is z in
        let u = g.is v in
        let r : x.entry.rank ≡ y.entry.rank =
        rank-one t p s c k fit (h.declares z) (g.declares v)
        (ap (λ (n : Entry). n.what) e ∙ a.what ∙ sym (ap (λ (n : Entry). n.what) u))
        (ap (λ (n : Entry). n.owner) e ∙ a.owner ∙ sym (ap (λ (n : Entry). n.owner) u))
        (ap (λ (n : Entry). n.begin) e ∙ a.begin ∙ sym (ap (λ (n : Entry). n.begin) u)) in
        e ∙ ap (entry_of d f from) r ∙ sym u
    | no n ↦ h.none n ∙ sym (g.none (λ v. n (number-one ∙ v)))
  ]

pub line-settled : SettlesWhere line.ps line.r line-says.Asked line-says.Learnt
    {B = λ κs. ℕ × Entry} (λ κs r. (r.number, r.entry))
line-settled κs a h x y w v p q = (
  ap₂ (λ n e. (n, e)) (number-one _ _ _ _ h.0 _ _ _ _ _ x y p q)
      (entry-one _ _ _ _ h.0 _ _ _ _ _ x y p q),
  refl,
)

-- the numbered form of a list of records is that of each record
use Rattle.std.proofs.Common.{◌≡◌, refl, ap, ◌∙◌, List, [], ◌∷◌, map}
use Rattle.table.specs.Shape.{Shape}
use Rattle.judging.specs.Verdict.{verdict_of}
use Rattle.judge.specs.declared.records.Record.{Record}
use Rattle.judge.specs.Records.{numbered, all_numbered}
use Rattle.judge.proofs.records.verdict_of_records.Goals as goal

each-numbered : (s : Shape) (rs : List Record) → map (numbered s) rs ≡ all_numbered s rs
unfolding all_numbered
each-numbered s [] = refl
each-numbered s (r ∷ rs) = ap (λ l. numbered s r ∷ l) (each-numbered s rs)

pub returns : goal.returns
returns c = c.judged.ensures ∙ ap (verdict_of _) (each-numbered _ _)

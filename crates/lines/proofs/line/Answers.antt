-- The line is the one of its keyword.
use native.Mathlib.Omega.{arith}
use Rattle.lines.proofs.Outcomes.{stops, retold}
use Rattle.lines.proofs.Keywords.{line-unit, line_out, line_in, line-feed}
use Rattle.lines.proofs.Keywords.{line-join, line-none, entry-unit, entry_out}
use Rattle.lines.proofs.Keywords.{entry_in, entry-feed, entry-join}
use Rattle.lines.proofs.line.Goals as goal

pub word-requires : goal.word-requires
word-requires c =
    record {
      told = c.requires.told;
      i_bound = (omega arith, c.requires.told.some);
    }

pub returns-in-1 : goal.returns-in-1
returns-in-1 c =
    retold c.unit_line.ensures (λ i. entry-unit _ c.args.line _ _ _ c.keyword_of-keyword.ensures
    c.word.ensures.result_value _ i c.in-1.is) (line-unit _ _ _ _ _ c.keyword_of-keyword.ensures
    c.word.ensures.result_value c.in-1.is)

pub returns-in-2 : goal.returns-in-2
returns-in-2 c =
    retold c.out_line.ensures (λ i. entry_out _ c.args.line _ _ _ c.keyword_of-keyword.ensures
    c.word.ensures.result_value _ i c.in-2.is) (line_out _ _ _ _ _ c.keyword_of-keyword.ensures
    c.word.ensures.result_value c.in-2.is)

pub returns-in-3 : goal.returns-in-3
returns-in-3 c =
    retold c.in_line.ensures (λ i. entry_in _ c.args.line _ _ _ c.keyword_of-keyword.ensures
    c.word.ensures.result_value _ i c.in-3.is) (line_in _ _ _ _ _ c.keyword_of-keyword.ensures
    c.word.ensures.result_value c.in-3.is)

pub returns-in-4 : goal.returns-in-4
returns-in-4 c =
    retold c.feed_line.ensures (λ i. entry-feed _ c.args.line _ _ _ c.keyword_of-keyword.ensures
    c.word.ensures.result_value _ i c.in-4.is) (line-feed _ _ _ _ _ c.keyword_of-keyword.ensures
    c.word.ensures.result_value c.in-4.is)

pub returns-in-5 : goal.returns-in-5
returns-in-5 c =
    retold c.join_line.ensures (λ i. entry-join _ c.args.line _ _ _ c.keyword_of-keyword.ensures
    c.word.ensures.result_value _ i c.in-5.is) (line-join _ _ _ _ _ c.keyword_of-keyword.ensures
    c.word.ensures.result_value c.in-5.is)

pub returns-in_default : goal.returns-in_default
returns-in_default c =
    let not = c.in_default.in_default-own.rest in
    stops _ _ _ _ _ _ _ 24 1 _ c.refused.ensures (λ z. omega arith)
    (line-none _ _ _ _ _ c.keyword_of-keyword.ensures
    c.word.ensures.result_value not.0.0.0.0.1 not.0.0.0.1 not.0.0.1 not.0.1 not.1)

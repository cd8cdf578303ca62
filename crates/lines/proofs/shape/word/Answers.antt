-- The stretch between the ends of a field is the field.
use Rattle.grammar.specs.Rows.{stretch}
use Rattle.lines.proofs.Outcomes.{word-is, word-ends, word_wordy}
use Rattle.lines.proofs.shape.word.Goals as goal

pub slice_bounds-result-count : goal.slice_bounds-result-count
slice_bounds-result-count c =
    (word-ends _ _ _ c.requires.told _ _ _ c.requires.i_bound.0 c.requires.i_bound.1
    c.wide-b.ensures c.wide-e.ensures).0

pub slice_bounds-result-start : goal.slice_bounds-result-start
slice_bounds-result-start c =
    (word-ends _ _ _ c.requires.told _ _ _ c.requires.i_bound.0 c.requires.i_bound.1
    c.wide-b.ensures c.wide-e.ensures).0

pub slice_bounds-result-end : goal.slice_bounds-result-end
slice_bounds-result-end c =
    (word-ends _ _ _ c.requires.told _ _ _ c.requires.i_bound.0 c.requires.i_bound.1
    c.wide-b.ensures c.wide-e.ensures).1

pub returns : goal.returns
unfolding stretch
returns c =
    record {
      result_value = word-is _ _ _ c.requires.told _ _ _ c.requires.i_bound.0 c.requires.i_bound.1
          c.wide-b.ensures c.wide-e.ensures;
      wordy = word_wordy _ _ _ c.requires.told _ _ _ c.requires.i_bound.0 c.requires.i_bound.1
          c.wide-b.ensures c.wide-e.ensures;
    }

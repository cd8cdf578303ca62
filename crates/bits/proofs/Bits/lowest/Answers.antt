-- The words before word i hold none; the zeros of the first that holds one tell its place.
use Rattle.bits.specs.Laws.{word_none, word-found, words_none}
use Rattle.bits.proofs.Bits.lowest.Goals as goal

pub returns-then-word-ne0 : goal.returns-then-word-ne0
returns-then-word-ne0 c =
    word-found c.args.self.now.words c.args.self.now.whole c.loop-i.i c.loop-i-test.true
    c.loop-i.invariant c.if-word-ne0.true

pub loop-i-preserved : goal.loop-i-preserved
loop-i-preserved c =
    word_none c.args.self.now.words c.loop-i.i c.loop-i.invariant c.if-word-ne0.false

pub returns : goal.returns
returns c = words_none c.args.self.now.words c.loop-i.i c.loop-i-test.false c.loop-i.invariant

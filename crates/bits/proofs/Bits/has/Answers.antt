-- Below 256 the word shifted to the bit tells; from there on there is none.
use borrow.Author.Tests.{le-ltb}
use Rattle.bits.specs.Bits.{has}
use Rattle.bits.specs.Laws.{has_in}
use Rattle.bits.proofs.Bits.has.Goals as goal

pub returns-then-c-lt256 : goal.returns-then-c-lt256
returns-then-c-lt256 c = has_in c.args.self.now.words c.args.c c.if-c-lt256.true

pub returns-else-c-lt256 : goal.returns-else-c-lt256
unfolding has
returns-else-c-lt256 c = rw (le-ltb c.args.c 256 c.if-c-lt256.false)

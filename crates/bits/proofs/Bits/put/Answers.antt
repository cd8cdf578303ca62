-- A one shifted to the bit is that power of two; the word that is stored has 64 bits.
use Rattle.std.proofs.Common.{arith}
use Rattle.std.proofs.lemmas.Nat.{or_lt}
use Rattle.bits.specs.Laws.{put_out, put_in, set_words}
use Rattle.bits.proofs.Bits.put.Goals as goal

pub invariant_of-self : goal.invariant_of-self
invariant_of-self c =
    let old = c.args.self.now in
    record {
      whole = set_words old.words _ _ (omega (arith, c.if-c-lt256.true))
          (or_lt 64 _ _ (old.whole.small _ (omega (arith, c.if-c-lt256.true))) (omega arith))
          old.whole;
    }

pub returns-then-c-lt256 : goal.returns-then-c-lt256
returns-then-c-lt256 c = put_in c.args.self.now.words c.args.c c.if-c-lt256.true

pub returns-else-c-lt256 : goal.returns-else-c-lt256
returns-else-c-lt256 c = put_out c.args.self.now.words c.args.c c.if-c-lt256.false

-- The bit set, then turned, is clear whatever it was; the word that is stored has 64 bits.
use Rattle.std.proofs.Common.{◌*◌, ◌/◌, ◌%◌, ◌^◌, ◌<◌, arith}
use Rattle.std.proofs.lemmas.Nat.{or_lt, xor_lt}
use Rattle.bits.specs.Laws.{drop_out, drop_in, set_words}
use Rattle.bits.proofs.Bits.take_out.Goals as goal

pub invariant_of-self : goal.invariant_of-self
invariant_of-self c =
    let old = c.args.self.now in
    let word = old.whole.small (c.args.c / 64) (omega (arith, c.if-c-lt256.true)) in
    let bit : 1 * 2 ^ (c.args.c % 64) % 2 ^ 64 < 2 ^ 64 = omega arith in
    record {
      whole = set_words old.words _ _ (omega (arith, c.if-c-lt256.true))
          (search (xor_lt 64, or_lt 64, word, bit)) old.whole;
    }

pub returns-then-c-lt256 : goal.returns-then-c-lt256
returns-then-c-lt256 c = drop_in c.args.self.now.words c.args.c c.if-c-lt256.true

pub returns-else-c-lt256 : goal.returns-else-c-lt256
returns-else-c-lt256 c = drop_out c.args.self.now.words c.args.c c.if-c-lt256.false

-- Each turn notes one block more (`noting_on`).
use native.Mathlib.Omega.{arith}
use mathlib.Core.Path.{◌≡◌}
use Prim.Native.Nat.{◌+◌, ◌/◌, ◌<◌}
use lib.ListN.{length}
use Rattle.placing.proofs.Noted.{byte-bit, bit_fits, noting_on}
use Rattle.placing.proofs.blocks.note.Goals as goal

pub loop-i-preserved : goal.loop-i-preserved
loop-i-preserved g c =
    let e : c.key_at-key.result ≡ g.key c.loop-i.i =
    c.requires.1.1.1.1.0 c.loop-i.i _ c.loop-i-test.true c.key_at-key.ensures in
    let fits : g.key c.loop-i.i < length c.loop-i.notes = omega
    (arith, c.requires.1.1.1.1.1 c.loop-i.i c.loop-i-test.true, c.loop-i.invariant.long) in
    let small : c.args.low + c.loop-i.i / c.args.size < 8 =
    bit_fits _ _ _ _ c.requires.1.1.0 c.requires.1.0 c.loop-i-test.true in
    rw (e, byte-bit (c.args.low + c.loop-i.i / c.args.size) small)
    (noting_on g.key c.args.size c.args.low c.loop-i.i c.args.notes.now c.loop-i.notes fits
    c.loop-i.invariant)

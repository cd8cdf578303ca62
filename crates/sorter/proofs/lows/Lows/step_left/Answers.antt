-- A low below X is a set that remains (`step_left`).
use Rattle.std.proofs.Common.{ap, ◌∙◌, ltb, get_or}
use Rattle.sorter.proofs.Closed.{step_left}
use Rattle.sorter.proofs.lows.Lows.step_left.Goals as goal

pub returns : goal.returns
returns c =
    let lows = c.args.self in
    ap (λ n. ltb (get_or lows.steps.now c.args.unit 0) n) c.input_count.ensures.value
    ∙ step_left lows.table.bytes.now lows.table.sound lows.early c.args.unit _
    c.requires (lows.low_steps.each c.args.unit c.requires)

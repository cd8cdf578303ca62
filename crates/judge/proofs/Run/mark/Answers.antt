-- a call that is taken is below 224
use Rattle.std.proofs.Common.{refl}
use Rattle.table.proofs.Checked.{sound-passed}
use Rattle.judging.proofs.Demand.{taken-small}
use Rattle.judge.proofs.Run.mark.Goals as goal

pub bounds-self-call : goal.bounds-self-call
bounds-self-call c =
    taken-small _ (sound-passed _ c.args.table.sound) _ _ _ c.in_ok-allows.ensures refl

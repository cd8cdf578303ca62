-- the output and the input that a number stands for are there
use Rattle.judge.proofs.Calls.{is-known}
use Rattle.judge.proofs.Run.allows.Goals as goal

pub get-requires : goal.get-requires
get-requires c = is-known _ _ _ _ _ c.in-Get.ensures

pub set-requires : goal.set-requires
set-requires c = is-known _ _ _ _ _ c.in-Set.ensures

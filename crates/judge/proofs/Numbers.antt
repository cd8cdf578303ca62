-- No refusal has the number 0.
use Rattle.std.proofs.Common.{◌≢◌, arith}
use Rattle.table.specs.declared.Fault.{Fault}
use Rattle.table.specs.declared.Fault.TheVariants.{
  Length,
  Count,
  Owner,
  Kind,
  Source,
  Feed,
  FeedTwice,
}
use Rattle.table.specs.Fault.{fault_number}
use Rattle.judge.specs.declared.refusal.Refusal.{Refusal}
use Rattle.judge.specs.declared.refusal.Refusal.TheVariants.{
  Unsound,
  NoCall,
  DoneBefore,
  DelayedSet,
  ReactiveNotSet,
  NotStepped,
  FeedingNotSet,
  SourceNotGot,
  Ended,
}
use Rattle.judge.specs.Refused.{refusal_number}

pub fault-some : (f : Fault) → fault_number f ≢ 0
fault-some Length e = absurd (omega arith)
fault-some Count e = absurd (omega arith)
fault-some Owner e = absurd (omega arith)
fault-some Kind e = absurd (omega arith)
fault-some Source e = absurd (omega arith)
fault-some Feed e = absurd (omega arith)
fault-some FeedTwice e = absurd (omega arith)

pub refusal-some : (r : Refusal) → refusal_number r ≢ 0
refusal-some (Unsound f) e = fault-some f e
refusal-some NoCall e = absurd (omega arith)
refusal-some DoneBefore e = absurd (omega arith)
refusal-some DelayedSet e = absurd (omega arith)
refusal-some ReactiveNotSet e = absurd (omega arith)
refusal-some NotStepped e = absurd (omega arith)
refusal-some FeedingNotSet e = absurd (omega arith)
refusal-some SourceNotGot e = absurd (omega arith)
refusal-some Ended e = absurd (omega arith)

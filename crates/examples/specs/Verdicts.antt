-- The starred examples of verdicts, computed where the verdict is defined.
pub use Rattle.judging.specs.Computed.{starred as starred_verdicts}

-- Definitions that proofs open together.
use Rattle.table.specs.Check.{refuse}
use Rattle.judging.specs.Conditions.{early, unset, unstepped, ungot, refusal_of, refusal_at}

-- the conditions of a call: `unfolding conditions` opens each of them
unfoldable pub conditions : Unit {0}
unfolding refuse early unset unstepped ungot refusal_of refusal_at
conditions = tt

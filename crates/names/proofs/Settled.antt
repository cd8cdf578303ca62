-- Where the names are ranked, each public function's contract permits one answer.
use mathlib.Core.Path.{ap₂, sym, refl, ◌∙◌}
use mathlib.Core.Bool.{Bool}
use Prim.Native.Nat.{ℕ}
use Rattle.search.specs.Settling.{SettlesWhere}
use Rattle.names.specs.declared.Spot.{Spot}
use Rattle.notes.proofs.Ranks.{spot-one}
use Rattle.names.proofs.seek.Kinds as seek
use Rattle.names.proofs.seek.Reads as seek-says
use Rattle.names.proofs.find.Kinds as find
use Rattle.names.proofs.find.Reads as find-says

abbrev spot : ℕ → Bool → Spot
spot i h = record { rank = i; here = h }

pub seek_settled : SettlesWhere seek.ps seek.r seek-says.Asked seek-says.Learnt (λ κs r. r)
seek_settled κs a h x y w v p q =
    let (e, g) = spot-one _ _ _ _ _ h.0 _ _ _ _ _ _ p q in
    (ap₂ spot e g, refl)

pub find_settled : SettlesWhere find.ps find.r find-says.Asked find-says.Learnt (λ κs r. r)
find_settled κs a h x y w v p q = (p ∙ sym q, refl)

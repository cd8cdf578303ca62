-- The demands over the contracts of what C calls, as callers read them: r is what C gets.
use Rattle.std.specs.Prelude.{◌≡◌, ◌↔◌, ℕ, ◌≤◌, ◌<◌, ℤ, length, take}
use Rattle.std.proofs.Common.{sym, ◌∙◌}
use Rattle.search.specs.Settling.{Says}
use Rattle.search.specs.Sets.{none}
use Rattle.table.specs.Packed.{shape_of}
use Rattle.table.specs.Sound.{Sound}
use Rattle.placing.specs.Placing.{call_count}
use Rattle.sorter.specs.Ordering.{ordering}
use Rattle.sorter.proofs.Demand.{order-first}
use Rattle.judging.specs.Passes.{Passes}
use Rattle.twin.specs.Rules.{Rules}
use Rattle.twin.specs.Run.{World}
use Rattle.twin.specs.Equations.{AtTime}
use Rattle.twin.specs.Integers.{Ends}
use Rattle.twin.proofs.Integers.{demand_3}
use Rattle.firmware.specs.Code.{coded}
use Rattle.firmware.proofs.oorlichday_check.Kinds as check
use Rattle.firmware.proofs.oorlichday_check.Reads as check-says
use Rattle.firmware.proofs.oorlichday_order.Kinds as order
use Rattle.firmware.proofs.oorlichday_order.Reads as order-says
use Rattle.firmware.proofs.oorlichday_verdict.Kinds as verdict
use Rattle.firmware.proofs.oorlichday_verdict.Reads as verdict-says
use Rattle.demands.specs.Coded.{TellsOrder, then_place, check-coded, order-coded}
use Rattle.demands.specs.Coded.{order_0, order-front, verdict_coded, verdict_0}
use Rattle.demands.specs.Given.{given-sound, given-room}
use Rattle.demands.specs.Demands.{given-ends}

-- C gets less than 256 exactly for a sound table, and then it gets N
pub check-told : Says check.ps check.r check-says.Learnt (λ κs a r w. (
    ((r < 256) ↔ Sound a.0.now) × (Sound a.0.now → r ≡ call_count a.0.now)))
check-told κs a r w p = rw p (check-coded a.0.now)

-- demand 2, for a sound table and enough room
pub order-told : Says order.ps order.r order-says.Learnt (λ κs a r w. (
    Sound a.0.now → call_count a.0.now ≤ length a.1.0.now
    → TellsOrder a.0.now r w.1.0))
order-told κs a r w p sound enough =
    rw (p.0, p.1) (order-coded a.0.now a.1.0.now sound enough)

-- it gets less than 256 only where the table is sound and there is room, and then it gets N
pub order-given : Says order.ps order.r order-says.Learnt (λ κs a r w. (
    r < 256 → Sound a.0.now × (call_count a.0.now ≤ length a.1.0.now)
    × (r ≡ call_count a.0.now)))
order-given κs a r w p l =
    let t = a.0.now in
    let room = length a.1.0.now in
    let given = (order_0 t room).0 (rw p.0 at l) in
    let sound = given-sound t room given in
    let enough = given-room t room given in (
      sound,
      enough,
      p.0 ∙ then_place (ordering t room).answer given ∙ (order-first t room sound enough given).1,
    )

-- demand 2, its last: C gets less than 256 just when the table is sound and the list passes: N
pub verdict_told : Says verdict.ps verdict.r verdict-says.Learnt (λ κs a r w. (
    ((r < 256) ↔ (Sound a.0.now × Passes (shape_of a.0.now) none a.1.0.now))
    × (r < 256 → r ≡ call_count a.0.now)))
verdict_told κs a r w p = rw p (verdict_coded a.0.now a.1.0.now)

-- demand 3: where C gets less than 256 for a list, the run of the list ends as it must
pub verdict_ends : Says verdict.ps verdict.r verdict-says.Learnt (λ κs a r w. (
    r < 256 → (m : Rules ℤ ℤ) (start : World ℤ ℤ) (n : ℕ) → AtTime (shape_of a.0.now) n start
    → Ends a.0.now m a.1.0.now start n))
verdict_ends κs a r w p l =
    demand_3 a.0.now a.1.0.now ((verdict_0 a.0.now a.1.0.now).0 (rw p at l))

-- and where it gets less than 256 for an order, so does the run of the bytes at the buffer's front
pub order-ends : Says order.ps order.r order-says.Learnt (λ κs a r w. (
    r < 256 → (m : Rules ℤ ℤ) (start : World ℤ ℤ) (n : ℕ) → AtTime (shape_of a.0.now) n start
    → Ends a.0.now m (take r w.1.0) start n))
order-ends κs a r w p l m start n at_n =
    let t = a.0.now in
    let out = a.1.0.now in
    let given = (order_0 t (length out)).0 (rw p.0 at l) in
    let place = then_place (ordering t (length out)).answer given in
    rw (p.1, p.0, order-front t out (coded (ordering t (length out)).answer) (sym place))
    (given-ends t (length out) given m start n at_n)

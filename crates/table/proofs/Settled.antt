-- Each public function's contract asks nothing and permits one answer, with every lent byte.
use mathlib.Core.Path.{sym, refl, ◌∙◌}
use Rattle.std.specs.Result.{result_map_both}
use Rattle.search.specs.Settling.{Settles, SettlesSeen}
use Rattle.table.proofs.check.check.Kinds as check
use Rattle.table.proofs.check.check.Reads as check-says
use Rattle.table.proofs.parts.byte.Kinds as byte
use Rattle.table.proofs.parts.byte.Reads as byte-says
use Rattle.table.proofs.parts.stretch.Kinds as stretch
use Rattle.table.proofs.parts.stretch.Reads as stretch-says
use Rattle.table.proofs.parts.unit_count.Kinds as unit-count
use Rattle.table.proofs.parts.unit_count.Reads as unit-count-says
use Rattle.table.proofs.parts.output_count.Kinds as output-count
use Rattle.table.proofs.parts.output_count.Reads as output-count-says
use Rattle.table.proofs.parts.input_count.Kinds as input-count
use Rattle.table.proofs.parts.input_count.Reads as input-count-says
use Rattle.table.proofs.parts.feed_count.Kinds as feed-count
use Rattle.table.proofs.parts.feed_count.Reads as feed-count-says
use Rattle.table.proofs.parts.call_count.Kinds as call-count
use Rattle.table.proofs.parts.call_count.Reads as call-count-says
use Rattle.table.proofs.parts.output_owners.Kinds as output-owners
use Rattle.table.proofs.parts.output_owners.Reads as output-owners-says
use Rattle.table.proofs.parts.input_owners.Kinds as input-owners
use Rattle.table.proofs.parts.input_owners.Reads as input-owners-says
use Rattle.table.proofs.parts.input_kinds.Kinds as input-kinds
use Rattle.table.proofs.parts.input_kinds.Reads as input-kinds-says
use Rattle.table.proofs.parts.input_sources.Kinds as input-sources
use Rattle.table.proofs.parts.input_sources.Reads as input-sources-says
use Rattle.table.proofs.parts.feed_pairs.Kinds as feed-pairs
use Rattle.table.proofs.parts.feed_pairs.Reads as feed-pairs-says
use Rattle.table.proofs.Faults.{one_result}
use Rattle.table.proofs.Fault.number.Kinds as fault-number
use Rattle.table.proofs.Fault.number.Reads as fault-number-says
use Rattle.table.proofs.AnswerFromFault.from.Kinds as answer-from-fault
use Rattle.table.proofs.AnswerFromFault.from.Reads as answer-from-fault-says
use Rattle.table.proofs.sound.Table.new.Kinds as table-new
use Rattle.table.proofs.sound.Table.new.Reads as table-new-says
use Rattle.table.proofs.sound.Table.unit_count.Kinds as table-unit-count
use Rattle.table.proofs.sound.Table.unit_count.Reads as table-unit-count-says
use Rattle.table.proofs.sound.Table.output_count.Kinds as table-output-count
use Rattle.table.proofs.sound.Table.output_count.Reads as table-output-count-says
use Rattle.table.proofs.sound.Table.input_count.Kinds as table-input-count
use Rattle.table.proofs.sound.Table.input_count.Reads as table-input-count-says
use Rattle.table.proofs.sound.Table.feed_count.Kinds as table-feed-count
use Rattle.table.proofs.sound.Table.feed_count.Reads as table-feed-count-says
use Rattle.table.proofs.sound.Table.call_count.Kinds as table-call-count
use Rattle.table.proofs.sound.Table.call_count.Reads as table-call-count-says
use Rattle.table.proofs.sound.Table.output_owners.Kinds as table-output-owners
use Rattle.table.proofs.sound.Table.output_owners.Reads as table-output-owners-says
use Rattle.table.proofs.sound.Table.input_owners.Kinds as table-input-owners
use Rattle.table.proofs.sound.Table.input_owners.Reads as table-input-owners-says
use Rattle.table.proofs.sound.Table.input_kinds.Kinds as table-input-kinds
use Rattle.table.proofs.sound.Table.input_kinds.Reads as table-input-kinds-says
use Rattle.table.proofs.sound.Table.input_sources.Kinds as table-input-sources
use Rattle.table.proofs.sound.Table.input_sources.Reads as table-input-sources-says
use Rattle.table.proofs.sound.Table.feed_pairs.Kinds as table-feed-pairs
use Rattle.table.proofs.sound.Table.feed_pairs.Reads as table-feed-pairs-says

pub check-settled : Settles check.ps check.r check-says.Asked check-says.Learnt
check-settled = ((λ κs a. tt), (λ κs a x y w v p q. (p ∙ sym q, refl)))

pub byte-settled : Settles byte.ps byte.r byte-says.Asked byte-says.Learnt
byte-settled = ((λ κs a. tt), (λ κs a x y w v p q. (p.0 ∙ sym q.0, refl)))

pub stretch-settled : SettlesSeen stretch.ps stretch.r stretch-says.Asked stretch-says.Learnt
    (λ κs r. r.now)
stretch-settled = ((λ κs a. tt), (λ κs a x y w v p q. (p ∙ sym q, refl)))

pub unit-count-settled : Settles unit-count.ps unit-count.r unit-count-says.Asked
    unit-count-says.Learnt
unit-count-settled = ((λ κs a. tt), (λ κs a x y w v p q. (p.0 ∙ sym q.0, refl)))

pub output-count-settled : Settles output-count.ps output-count.r output-count-says.Asked
    output-count-says.Learnt
output-count-settled = ((λ κs a. tt), (λ κs a x y w v p q. (p.0 ∙ sym q.0, refl)))

pub input-count-settled : Settles input-count.ps input-count.r input-count-says.Asked
    input-count-says.Learnt
input-count-settled = ((λ κs a. tt), (λ κs a x y w v p q. (p.0 ∙ sym q.0, refl)))

pub feed-count-settled : Settles feed-count.ps feed-count.r feed-count-says.Asked
    feed-count-says.Learnt
feed-count-settled = ((λ κs a. tt), (λ κs a x y w v p q. (p.0 ∙ sym q.0, refl)))

pub call-count-settled : Settles call-count.ps call-count.r call-count-says.Asked
    call-count-says.Learnt
call-count-settled = ((λ κs a. tt), (λ κs a x y w v p q. (p ∙ sym q, refl)))

pub output_owners_settled : SettlesSeen output-owners.ps output-owners.r output-owners-says.Asked
    output-owners-says.Learnt (λ κs r. r.now)
output_owners_settled = ((λ κs a. tt), (λ κs a x y w v p q. (p ∙ sym q, refl)))

pub input_owners_settled : SettlesSeen input-owners.ps input-owners.r input-owners-says.Asked
    input-owners-says.Learnt (λ κs r. r.now)
input_owners_settled = ((λ κs a. tt), (λ κs a x y w v p q. (p ∙ sym q, refl)))

pub input-kinds-settled : SettlesSeen input-kinds.ps input-kinds.r input-kinds-says.Asked
    input-kinds-says.Learnt (λ κs r. r.now)
input-kinds-settled = ((λ κs a. tt), (λ κs a x y w v p q. (p ∙ sym q, refl)))

pub input-sources-settled : SettlesSeen input-sources.ps input-sources.r input-sources-says.Asked
    input-sources-says.Learnt (λ κs r. r.now)
input-sources-settled = ((λ κs a. tt), (λ κs a x y w v p q. (p ∙ sym q, refl)))

pub feed-pairs-settled : SettlesSeen feed-pairs.ps feed-pairs.r feed-pairs-says.Asked
    feed-pairs-says.Learnt (λ κs r. r.now)
feed-pairs-settled = ((λ κs a. tt), (λ κs a x y w v p q. (p ∙ sym q, refl)))

pub fault-number-settled : Settles fault-number.ps fault-number.r fault-number-says.Asked
    fault-number-says.Learnt
fault-number-settled = ((λ κs a. tt), (λ κs a x y w v p q. (p ∙ sym q, refl)))

pub answer-from-fault-settled : Settles answer-from-fault.ps answer-from-fault.r
    answer-from-fault-says.Asked answer-from-fault-says.Learnt
answer-from-fault-settled = ((λ κs a. tt), (λ κs a x y w v p q. (p ∙ sym q, refl)))

pub table-unit-count-settled : Settles table-unit-count.ps table-unit-count.r
    table-unit-count-says.Asked table-unit-count-says.Learnt
table-unit-count-settled = ((λ κs a. tt), (λ κs a x y w v p q. (p.0 ∙ sym q.0, refl)))

pub table-output-count-settled : Settles table-output-count.ps table-output-count.r
    table-output-count-says.Asked table-output-count-says.Learnt
table-output-count-settled = ((λ κs a. tt), (λ κs a x y w v p q. (p.0 ∙ sym q.0, refl)))

pub table-input-count-settled : Settles table-input-count.ps table-input-count.r
    table-input-count-says.Asked table-input-count-says.Learnt
table-input-count-settled = ((λ κs a. tt), (λ κs a x y w v p q. (p.0 ∙ sym q.0, refl)))

pub table-feed-count-settled : Settles table-feed-count.ps table-feed-count.r
    table-feed-count-says.Asked table-feed-count-says.Learnt
table-feed-count-settled = ((λ κs a. tt), (λ κs a x y w v p q. (p.0 ∙ sym q.0, refl)))

pub table-call-count-settled : Settles table-call-count.ps table-call-count.r
    table-call-count-says.Asked table-call-count-says.Learnt
table-call-count-settled = ((λ κs a. tt), (λ κs a x y w v p q. (p.0 ∙ sym q.0, refl)))

pub table-output-owners-settled : SettlesSeen table-output-owners.ps table-output-owners.r
    table-output-owners-says.Asked table-output-owners-says.Learnt (λ κs r. r.now)
table-output-owners-settled = ((λ κs a. tt), (λ κs a x y w v p q. (p ∙ sym q, refl)))

pub table-input-owners-settled : SettlesSeen table-input-owners.ps table-input-owners.r
    table-input-owners-says.Asked table-input-owners-says.Learnt (λ κs r. r.now)
table-input-owners-settled = ((λ κs a. tt), (λ κs a x y w v p q. (p ∙ sym q, refl)))

pub table-input-kinds-settled : SettlesSeen table-input-kinds.ps table-input-kinds.r
    table-input-kinds-says.Asked table-input-kinds-says.Learnt (λ κs r. r.now)
table-input-kinds-settled = ((λ κs a. tt), (λ κs a x y w v p q. (p ∙ sym q, refl)))

pub table-input-sources-settled : SettlesSeen table-input-sources.ps table-input-sources.r
    table-input-sources-says.Asked table-input-sources-says.Learnt (λ κs r. r.now)
table-input-sources-settled = ((λ κs a. tt), (λ κs a x y w v p q. (p ∙ sym q, refl)))

pub table-feed-pairs-settled : SettlesSeen table-feed-pairs.ps table-feed-pairs.r
    table-feed-pairs-says.Asked table-feed-pairs-says.Learnt (λ κs r. r.now)
table-feed-pairs-settled = ((λ κs a. tt), (λ κs a x y w v p q. (p ∙ sym q, refl)))

pub table-new-settled : SettlesSeen table-new.ps table-new.r table-new-says.Asked
    table-new-says.Learnt (λ κs r. result_map_both (λ t. t.bytes.now) (λ e. e) r)
table-new-settled = (
  (λ κs a. tt),
  (λ κs a x y w v p q. (one_result (λ t. t.bytes.now) _ x y (p.0 ∙ sym q.0) p.1 q.1, refl)),
)

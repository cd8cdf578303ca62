-- the chain over the owners, the kinds and the marks of all inputs
use Rattle.std.proofs.Common.{sym, ◌-◌, ◌+◌, ◌∙◌, take, drop, rules}
use Rattle.std.proofs.lemmas.Iterator.{
  YieldsList-from_map,
  YieldsList-from_slice,
  YieldsList-from_zip,
}
use Rattle.std.proofs.lemmas.Iterator.Adapters.{option_map_id}
use Rattle.std.proofs.lemmas.Iterator.Consumers.{
  YieldsList-at,
  YieldsList-from_filter,
  min_from_yields_List,
}
use borrow.Author.Tests.{tests}
use Rattle.judge.proofs.Lowest.{kind_of, bars}
use Rattle.judge.proofs.Scanned.{lowest_amiss-is}
use Rattle.judge.proofs.Run.lowest_amiss.Goals as goal

pub returns : goal.returns
returns c =
    let first = c.unit_count.result + c.output_count.result in
    sym (option_map_id c.min.result)
    ∙ min_from_yields_List c.map.result _ c.min.ensures.ran
    (YieldsList-from_map _ kind_of
    (YieldsList-at c.map.ensures.source
    (YieldsList-from_filter _ (bars c.args.unit)
    (YieldsList-at c.filter.ensures.source
    (YieldsList-from_zip
    (YieldsList-at c.zip-2.ensures.first
    (YieldsList-from_zip (YieldsList-from_slice c.input_owners.result.now (cc))
    (YieldsList-from_slice c.input_kinds.result.now (cc))))
    (YieldsList-from_slice
    (take (first + c.input_count.result - first) (drop first c.args.self.now.done)) (cc))))
    c.filter.ensures.closure (λ x r q k. search (rules, tests))))
    c.map.ensures.closure (λ x r q k. search (rules, tests)))
    ∙ lowest_amiss-is _ c.args.table.sound _ _ _ c.unit_count.ensures.value
    c.output_count.ensures.value (search rules) _ c.input_count.ensures.value _ _
    c.input_owners.ensures c.input_kinds.ensures _

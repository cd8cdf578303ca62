-- One law for each return.
use Rattle.text.proofs.Noticing.{close_33, close_31, close_none}
use Rattle.text.proofs.noting.close.Goals as goal

pub returns-then-units-eq0 : goal.returns-then-units-eq0
returns-then-units-eq0 c = close_33 _ _ _ _ c.if-units-eq0.true

pub returns-then-x-inputs : goal.returns-then-x-inputs
returns-then-x-inputs c =
    close_31 _ _ _ _ c.if-units-eq0.false _ c.loose-x.ensures c.if-x-inputs.true _ c.wide.ensures

pub returns : goal.returns
returns c =
    close_none _ _ _ _ c.if-units-eq0.false _ c.loose-x.ensures c.if-x-inputs.false

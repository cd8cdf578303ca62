-- One law for each range of bytes.
use Rattle.scan.proofs.Scanning.{letter, underscore, digit, a_tab, an_lf}
use Rattle.scan.proofs.is_allowed.Goals as goal

pub returns-then-b-ge97 : goal.returns-then-b-ge97
returns-then-b-ge97 c = letter _ c.if-b-ge97.true

pub returns-then-b-eq95 : goal.returns-then-b-eq95
returns-then-b-eq95 c = underscore _ c.if-b-ge97.false c.if-b-eq95.true

pub returns-then-b-ge48 : goal.returns-then-b-ge48
returns-then-b-ge48 c =
    digit _ c.if-b-ge97.false c.if-b-eq95.false c.if-b-ge48.true

pub returns-then-b-eq9 : goal.returns-then-b-eq9
returns-then-b-eq9 c =
    a_tab _ c.if-b-ge97.false c.if-b-eq95.false c.if-b-ge48.false c.if-b-eq9.true

pub returns : goal.returns
returns c =
    an_lf _ c.if-b-ge97.false c.if-b-eq95.false c.if-b-ge48.false c.if-b-eq9.false

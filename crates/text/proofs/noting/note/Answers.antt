-- One law for each return.
use native.Mathlib.Omega.{arith}
use Rattle.text.proofs.Going.{told-fields}
use Rattle.text.proofs.Noticing.{notice_whole, notice_23, notice_line, notice_close}
use Rattle.text.proofs.noting.note.Goals as goal

pub returns-then-bad-ne0 : goal.returns-then-bad-ne0
returns-then-bad-ne0 c =
    notice_whole _ _ _ _ c.check-checked.ensures c.if-bad-ne0.true _

pub version-requires : goal.version-requires
version-requires c =
    told-fields _ _ _ (c.check-checked.ensures.ended c.if-bad-ne0.false)
    (c.check-checked.ensures.ended c.if-bad-ne0.false).some
    c.fields_at-fields.ensures

pub returns-then-version-eq0 : goal.returns-then-version-eq0
returns-then-version-eq0 c =
    notice_23 _ _ _ _ c.check-checked.ensures c.if-bad-ne0.false _
    (told-fields _ _ _ (c.check-checked.ensures.ended c.if-bad-ne0.false)
    (c.check-checked.ensures.ended c.if-bad-ne0.false).some
    c.fields_at-fields.ensures) _ c.version.ensures c.if-version-eq0.true _

pub walk-noted-requires : goal.walk-noted-requires
walk-noted-requires c =
    record {
      ended = c.check-checked.ensures.ended c.if-bad-ne0.false;
      places_len = c.requires;
      a_in_bounds = omega (
        arith,
        c.wide.ensures,
        (told-fields _ _ _ (c.check-checked.ensures.ended c.if-bad-ne0.false)
            (c.check-checked.ensures.ended c.if-bad-ne0.false).some
            c.fields_at-fields.ensures).inside,
      );
    }

pub returns-then-number-ne0 : goal.returns-then-number-ne0
returns-then-number-ne0 c =
    notice_line _ _ _ _ c.check-checked.ensures c.if-bad-ne0.false _
    (told-fields _ _ _ (c.check-checked.ensures.ended c.if-bad-ne0.false)
    (c.check-checked.ensures.ended c.if-bad-ne0.false).some
    c.fields_at-fields.ensures) _ c.version.ensures c.if-version-eq0.false _ _ c.wide.ensures
    c.walk-noted.ensures c.if-number-ne0.true

pub close-requires : goal.close-requires
close-requires c = c.walk-noted.ensures.fit

pub returns : goal.returns
returns c =
    notice_close _ _ _ _ c.check-checked.ensures c.if-bad-ne0.false _
    (told-fields _ _ _ (c.check-checked.ensures.ended c.if-bad-ne0.false)
    (c.check-checked.ensures.ended c.if-bad-ne0.false).some
    c.fields_at-fields.ensures) _ c.version.ensures c.if-version-eq0.false _ _ c.wide.ensures
    c.walk-noted.ensures _ c.if-number-ne0.false
    c.close.ensures

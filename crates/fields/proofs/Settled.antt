-- Each public function's contract asks nothing and permits one answer, with every lent byte.
use mathlib.Core.Path.{sym, refl, ◌∙◌}
use Rattle.search.specs.Settling.{Settles}
use Rattle.fields.proofs.same.Kinds as same
use Rattle.fields.proofs.same.Reads as same-says
use Rattle.fields.proofs.word_end.Kinds as word_end
use Rattle.fields.proofs.word_end.Reads as word-end-says
use Rattle.fields.proofs.Fields.none.Kinds as none
use Rattle.fields.proofs.Fields.none.Reads as none-says
use Rattle.fields.proofs.fields_at.Kinds as fields_at
use Rattle.fields.proofs.fields_at.Reads as fields-at-says

pub same-settled : Settles same.ps same.r same-says.Asked same-says.Learnt
same-settled = ((λ κs a. tt), (λ κs a x y w v p q. (p ∙ sym q, refl)))

pub word-end-settled : Settles word_end.ps word_end.r word-end-says.Asked word-end-says.Learnt
word-end-settled = ((λ κs a. tt), (λ κs a x y w v p q. (p ∙ sym q, refl)))

pub none-settled : Settles none.ps none.r none-says.Asked none-says.Learnt
none-settled = ((λ κs a. tt), (λ κs a x y w v p q. (p ∙ sym q, refl)))

pub fields-at-settled : Settles fields_at.ps fields_at.r fields-at-says.Asked fields-at-says.Learnt
fields-at-settled = ((λ κs a. tt), (λ κs a x y w v p q. (p ∙ sym q, refl)))

-- What a contract must be, said of the contract itself as its callers read it.
--   Settles         nothing is asked, one answer at most is permitted, with one content of all lent
--   SettlesSeen     the same, of what is seen of a result: the bytes of a part that is handed back
--   SettlesWhere    where what is asked holds, one answer at most is permitted, with all lent
--   SettlesClauses  the same in the program logic, over a lent slice of structs: a fact is shown,
--                   and that fact permits one answer
--   Says            whatever the contract permits is so
-- That an answer is given at all, and meets the contract, is what a proved function is.
use Rattle.std.specs.Prelude.{◌≡◌, List, ℕ}
use contract.Lifetimes.{Lfts}
use base.Logic.{ent, emp}
use contract.Monad.{fact}
use borrow.Fn.World.{World}
use denote.Triple.Entry.{Args, Res}
use denote.Triple.Clauses.{Ended, Clauses, Lasts, at_exit}
use borrow.Fn.Kinds.{ParamKind, ResultKind, In, Out, Dens, res_t, ended_of}

module _ {n : ℕ} (ps : List (ParamKind n)) (r : ResultKind n) where
  abbrev pub SettlesSeen : In n ps → Out n ps r → {B : Lfts n → Type 0}
      → ((κs : Lfts n) → (res_t r κs).Denot → B κs) → Type 0
  SettlesSeen asked learnt see =
      ((κs : Lfts n) (a : Dens κs ps) → asked κs a)
      × ((κs : Lfts n) (a : Dens κs ps) (x y : (res_t r κs).Denot) (w v : Lasts (ended_of n ps r) κs a)
      → learnt κs a x (at_exit (ended_of n ps r) κs a w)
      → learnt κs a y (at_exit (ended_of n ps r) κs a v) → (see κs x ≡ see κs y) × (w ≡ v))

  abbrev pub Settles : In n ps → Out n ps r → Type 0
  Settles asked learnt = SettlesSeen asked learnt {B = λ κs. (res_t r κs).Denot} (λ κs x. x)

  abbrev pub SettlesWhere : In n ps → Out n ps r → {B : Lfts n → Type 0}
      → ((κs : Lfts n) → (res_t r κs).Denot → B κs) → Type 0
  SettlesWhere asked learnt see =
      (κs : Lfts n) (a : Dens κs ps) → asked κs a
      → (x y : (res_t r κs).Denot) (w v : Lasts (ended_of n ps r) κs a)
      → learnt κs a x (at_exit (ended_of n ps r) κs a w)
      → learnt κs a y (at_exit (ended_of n ps r) κs a v) → (see κs x ≡ see κs y) × (w ≡ v)

  abbrev pub Says : Out n ps r
      → ((κs : Lfts n) (a : Dens κs ps) → (res_t r κs).Denot → Lasts (ended_of n ps r) κs a → Type 0) → Type 0
  Says learnt claim =
      (κs : Lfts n) (a : Dens κs ps) (x : (res_t r κs).Denot) (w : Lasts (ended_of n ps r) κs a)
      → learnt κs a x (at_exit (ended_of n ps r) κs a w) → claim κs a x w

abbrev pub SettlesClauses : (T : Ended) → ((m : World) → Clauses m.𝓤 T) → Type 2
SettlesClauses T clauses =
    ((m : World) (κs : Lfts T.signature.lifetimes) (a : Args T.signature κs) → (clauses m κs a).ghost)
    × ((m : World) (κs : Lfts T.signature.lifetimes) (a : Args T.signature κs) (g : (clauses m κs a).ghost)
    → ent m.𝓤 (emp m.𝓤) ((clauses m κs a).requires g))
    × (says : (κs : Lfts T.signature.lifetimes) (a : Args T.signature κs) → Res T.signature κs → Lasts T κs a → Type 0)
    × ((m : World) (κs : Lfts T.signature.lifetimes) (a : Args T.signature κs) (g : (clauses m κs a).ghost)
    (x : Res T.signature κs) (w : Lasts T κs a)
    → ent m.𝓤 ((clauses m κs a).ensures g x (at_exit T κs a w)) (fact m.𝓤 (says κs a x w)))
    × ((κs : Lfts T.signature.lifetimes) (a : Args T.signature κs) (x y : Res T.signature κs) (w v : Lasts T κs a)
    → says κs a x w → says κs a y v → (x ≡ y) × (w ≡ v))

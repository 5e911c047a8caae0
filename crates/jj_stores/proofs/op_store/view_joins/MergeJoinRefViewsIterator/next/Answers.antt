use Rattle.std.proofs.Common.{sym, subst}
use Rattle.std.specs.Option.{option_copied}
use Rattle.jj_stores.specs.ViewJoins.{IsFirstName}
use Rattle.jj_stores.specs.JoinSteps.{YieldsRow}
use Rattle.jj_stores.proofs.JoinYields.{none_empty, ended, gives_none, refuses_row, none_is_fewer, gives_row, fewer}
use Rattle.jj_stores.proofs.op_store.view_joins.MergeJoinRefViewsIterator.next.Goals as goal

pub returns-then-self-clause-steps : goal.returns-then-self-clause-steps
returns-then-self-clause-steps c =
    let inside = c.self.inside in
    let none = ended inside.is_ended inside.locals inside.remotes c.args.self.now c.if-self.true c.self.view_is in
    (none, none)

pub returns-in_err-name-clause-steps : goal.returns-in_err-name-clause-steps
returns-in_err-name-clause-steps c =
    let inside = c.self.inside in
    let left = c.args.self.now in
    let first = subst (λ f. IsFirstName inside.locals inside.remotes (option_copied f)) c.in_err-name.was c.first_name.ensures in
    let none = gives_none inside.is_ended inside.locals inside.remotes left c.if-self.false c.self.view_is first in
    subst (λ r. YieldsRow left r left) (sym c.from_residual.ensures) (none, none)

pub returns-in-Ok-clause-steps : goal.returns-in-Ok-clause-steps
returns-in-Ok-clause-steps c =
    let inside = c.self.inside in
    let first = subst (λ f. IsFirstName inside.locals inside.remotes (option_copied f)) c.in_ok-name.was c.first_name.ensures in
    gives_row inside.is_ended inside.locals inside.remotes c.args.self.now c.if-self.false c.self.view_is
    c.in_ok-name.name.now first c.take_if_named-local_target.new.self c.take_refs.new.self (option_copied c.take_if_named-local_target.result)
    c.take_if_named-local_target.ensures.ascending c.take_if_named-local_target.ensures.taken c.in-Ok.ensures.left
    _ _ c.as_name.ensures c.in-Ok.ensures.refs

pub returns-in-Ok-clause-goes : goal.returns-in-Ok-clause-goes
returns-in-Ok-clause-goes c =
    let inside = c.self.inside in
    let first = subst (λ f. IsFirstName inside.locals inside.remotes (option_copied f)) c.in_ok-name.was c.first_name.ensures in
    let less = fewer inside.is_ended inside.locals inside.remotes c.args.self.now c.if-self.false c.self.view_is
    c.in_ok-name.name.now first c.take_if_named-local_target.new.self c.take_refs.new.self (option_copied c.take_if_named-local_target.result)
    c.take_if_named-local_target.ensures.ascending c.take_if_named-local_target.ensures.taken c.in-Ok.ensures.left in
    record { on = λ _. (tt, tt, less); keeps = tt; rests = λ _. tt }

pub returns-in-Err-clause-steps : goal.returns-in-Err-clause-steps
returns-in-Err-clause-steps c =
    let inside = c.self.inside in
    let first = subst (λ f. IsFirstName inside.locals inside.remotes (option_copied f)) c.in_ok-name.was c.first_name.ensures in (
      refuses_row inside.is_ended inside.locals inside.remotes c.args.self.now c.if-self.false c.self.view_is c.in_ok-name.name.now first,
      none_empty,
    )

pub returns-in-Err-clause-goes : goal.returns-in-Err-clause-goes
returns-in-Err-clause-goes c =
    let inside = c.self.inside in
    let first = subst (λ f. IsFirstName inside.locals inside.remotes (option_copied f)) c.in_ok-name.was c.first_name.ensures in
    let less = none_is_fewer inside.is_ended inside.locals inside.remotes c.args.self.now c.if-self.false c.self.view_is c.in_ok-name.name.now first in
    record { on = λ _. (tt, tt, less); keeps = tt; rests = λ _. tt }

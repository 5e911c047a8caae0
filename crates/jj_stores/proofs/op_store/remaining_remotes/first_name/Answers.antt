use Rattle.std.proofs.Common.{◌∙◌, ap, sym, subst}
use Rattle.std.specs.Option.{option_copied, IfSome}
use Rattle.jj_stores.specs.ViewJoins.{IsLeast, IsFirstOfRemotes}
use Rattle.jj_stores.proofs.FirstNames.{no_remote_name, lesser_name}
use Rattle.jj_stores.proofs.op_store.remaining_remotes.first_name.Goals as goal

pub returns-in_default : goal.returns-in_default
returns-in_default c = no_remote_name c.args.locals.now c.args.remotes.now (option_copied c.first_name-local.result)
    c.first_name-local.ensures.first c.first_name-local.ensures.least
    (subst (λ f. IsFirstOfRemotes c.args.remotes.now (option_copied f)) c.in_default.is c.first_name.ensures)

pub returns-in-Some-local : goal.returns-in-Some-local
returns-in-Some-local c =
    let locals = c.args.locals.now in
    lesser_name locals c.args.remotes.now c.in-Some-local.local.now c.in-Some.remote.now c.min_name.result.now
    (sym (ap option_copied c.in-Some-local.is) ∙ c.first_name-local.ensures.first)
    (subst (λ f. IfSome (option_copied f) (λ name. IsLeast name locals)) c.in-Some-local.is c.first_name-local.ensures.least)
    (subst (λ f. IsFirstOfRemotes c.args.remotes.now (option_copied f)) c.in-Some.is c.first_name.ensures)
    c.min_name.ensures.one c.min_name.ensures.first c.min_name.ensures.second

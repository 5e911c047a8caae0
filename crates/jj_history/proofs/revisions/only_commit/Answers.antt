use Rattle.std.proofs.Common.{sym, subst}
use Rattle.std.proofs.lemmas.Bool.{MatchBool-at_true}
use Rattle.jj_history.specs.Revisions.{IsOnly}
use Rattle.jj_history.proofs.OnlyCommits.{first_is_member}
use Rattle.jj_history.proofs.revisions.only_commit.Goals as goal

pub returns : goal.returns
returns c =
    let found = c.args.found.now in
    let only : IsOnly found c.in-Some.first.now = (first_is_member found c.in-Some.first.now c.in-Some.ensures.value, MatchBool-at_true _ _ c.if-not-are_all.false c.are_all.ensures) in
    subst (IsOnly found) (sym c.in_ok-only.ensures.cases) only

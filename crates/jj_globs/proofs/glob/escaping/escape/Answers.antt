use Rattle.std.proofs.Common.{subst, sym}
use Rattle.jj_content.proofs.EscapeLoops.{all_written}
use Rattle.jj_globs.specs.GlobEscape.{MatchesOnly, literal_glob, escaped_byte}
use Rattle.jj_globs.proofs.EscapedMeaning.{escaped_alone}
use Rattle.jj_globs.proofs.EscapedCharacters.{escaped_step}
use Rattle.jj_globs.proofs.glob.escaping.escape.Goals as goal

pub loop-c-preserved : goal.loop-c-preserved
loop-c-preserved c = escaped_step _ _ _ _ _ _ c.in_ok-push_escaped.ensures c.in-Some.ensures.steps.0 c.loop-c.invariant

pub returns-clause-text : goal.returns-clause-text
unfolding literal_glob
returns-clause-text c = all_written escaped_byte _ _ _ c.in-None.ensures.steps.0.0 c.loop-c.invariant

pub returns-clause-alone : goal.returns-clause-alone
unfolding literal_glob
returns-clause-alone c =
    let text = all_written escaped_byte _ _ _ c.in-None.ensures.steps.0.0 c.loop-c.invariant in
    subst (λ glob. MatchesOnly glob c.args.text.now) (sym text) (λ separator. escaped_alone separator c.args.text.now)

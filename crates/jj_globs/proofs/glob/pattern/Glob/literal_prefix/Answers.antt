use Rattle.std.proofs.Common.{◌≡◌, ◌∙◌, sym, ap, subst}
use Rattle.jj_globs.specs.GlobPrefix.{glob_prefix, parsed_prefix}
use Rattle.jj_globs.proofs.LiteralPrefix.{BeginsWith, prefix_match_begins}
use Rattle.jj_globs.proofs.glob.pattern.Glob.literal_prefix.Goals as goal

pub returns : goal.returns
unfolding glob_prefix
returns c =
    let o = c.self.inside.options in
    let prefix : c.as_slice.result.now ≡ glob_prefix c.args.self.now =
    c.as_slice.ensures.value ∙ c.self.invariant.begins ∙ ap (parsed_prefix o) (sym c.self.invariant.reads) ∙ ap glob_prefix c.self.view_is in
    record {
      prefix = prefix;
      begins = λ bytes matched. subst (BeginsWith bytes) (sym prefix) (prefix_match_begins c.args.self.now bytes matched);
    }

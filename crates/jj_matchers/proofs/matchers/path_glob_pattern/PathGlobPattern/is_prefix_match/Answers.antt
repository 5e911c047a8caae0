use Rattle.std.proofs.Common.{◌∙◌}
use Rattle.jj_globs.specs.GlobMeaning.{IsPrefixMatch}
use Rattle.jj_matchers.specs.Patterns.{is_prefix_match}
use Rattle.jj_matchers.proofs.PatternTexts.{DecidesAll-is_prefix_match, told}
use Rattle.jj_matchers.proofs.matchers.path_glob_pattern.PathGlobPattern.is_prefix_match.Goals as goal

pub returns : goal.returns
returns c =
    told is_prefix_match IsPrefixMatch c.is_prefix_match.result c.deref.result.now c.args.self.now c.as_bytes.result.now c.args.path.now
    (DecidesAll-is_prefix_match c.deref.result.now c.as_bytes.result.now) c.is_prefix_match.ensures (c.deref.ensures ∙ c.self.view_is) c.as_bytes.ensures.value

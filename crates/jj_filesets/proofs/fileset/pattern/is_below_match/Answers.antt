use Rattle.std.proofs.Common.{◌∙◌, ◌↔◌, IsTrue, subst}
use Rattle.jj_paths.proofs.PathStrings.{path_string-components}
use Rattle.jj_globs.specs.GlobMeaning.{IsPrefixMatch}
use Rattle.jj_filesets.proofs.BelowMatches.{below_prefix, below_root}
use Rattle.jj_filesets.proofs.fileset.pattern.is_below_match.Goals as goal

pub returns-then-is_prefix_match : goal.returns-then-is_prefix_match
returns-then-is_prefix_match c =
    below_prefix c.args.glob.now c.args.path.value.now c.is_prefix_match.result c.args.path.valid
    (subst (λ bytes. IsTrue c.is_prefix_match.result ↔ IsPrefixMatch c.args.glob.now bytes)
    (c.as_bytes.ensures.value ∙ c.as_internal_file_string.ensures ∙ path_string-components c.args.path.value.now) c.is_prefix_match.ensures)
    c.if-is_prefix_match.true

pub returns-else-is_prefix_match : goal.returns-else-is_prefix_match
returns-else-is_prefix_match c =
    below_root c.args.glob.now c.args.path.value.now c.is_prefix_match.result c.is_match.result
    (subst (λ bytes. IsTrue c.is_prefix_match.result ↔ IsPrefixMatch c.args.glob.now bytes)
    (c.as_bytes.ensures.value ∙ c.as_internal_file_string.ensures ∙ path_string-components c.args.path.value.now) c.is_prefix_match.ensures)
    c.if-is_prefix_match.false c.is_match.ensures

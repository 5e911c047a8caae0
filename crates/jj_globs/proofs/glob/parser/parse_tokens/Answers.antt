use Rattle.std.proofs.Common.{◌∙◌, sym}
use Rattle.jj_globs.proofs.ParserSteps.{tokens_of-only_dirs}
use Rattle.jj_globs.proofs.glob.parser.parse_tokens.Goals as goal

pub returns : goal.returns
returns c =
    rw (c.in_ok-push.ensures.items, c.new-tokens.ensures.items)
    (tokens_of-only_dirs c.args.text.now (sym c.is_only_dirs.ensures ∙ c.if-not-is_only_dirs.false))

use Rattle.jj_excerpts.proofs.Prefixes.{first_of_limited}
use Rattle.jj_excerpts.proofs.first_characters.Goals as goal

pub returns : goal.returns
returns c = first_of_limited c.args.bytes.now c.min-limit.result c.shown_len-len.result c.min-limit.ensures c.shown_len-len.ensures.within c.shown_len-len.ensures.shown

use Rattle.jj_strings.proofs.str_util.matcher.StringMatcher.is_match.Goals as goal

pub returns-clause-matches : goal.returns-clause-matches
returns-clause-matches g c = rw c.as_bytes.ensures.value at c.is_match_bytes.ensures.matches

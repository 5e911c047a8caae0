use Rattle.jj_strings.proofs.str_util.searcher.StringSearcher.is_match_bytes.Goals as goal

pub returns-in-Matcher-clause-matches : goal.returns-in-Matcher-clause-matches
returns-in-Matcher-clause-matches g c = rw c.in-Matcher.is c.is_match_bytes.ensures.matches

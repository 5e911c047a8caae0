-- The state of an iterator over matching lines.
-- Cited by contracts of public items: matcher_of, rest_of.
use Rattle.std.specs.Prelude.{ℕ, List}
use Rattle.jj_strings.specs.declared.str_util.matcher.StringMatcher.{StringMatcher}
use Rattle.jj_strings.specs.Searchers.{searcher_matcher}
use Rattle.jj_strings.specs.declared.str_util.match_lines.MatchLines.{MatchLines}

-- the matcher of the lines
abbrev pub matcher_of : {F : _} {V : _} {m : _} → MatchLines F V m → StringMatcher F V m
matcher_of s = searcher_matcher s.searcher

-- the remaining bytes
abbrev pub rest_of : {F : _} {V : _} {m : _} → MatchLines F V m → List ℕ
rest_of s = s.rest.now

-- Searchers as contracts see them.
-- Cited by contracts of public items: searcher_matcher.
use Rattle.jj_strings.specs.declared.str_util.matcher.StringMatcher.{StringMatcher}
use Rattle.jj_strings.specs.declared.str_util.matcher.StringMatcher.TheVariants.{Expr}
use Rattle.jj_strings.specs.declared.str_util.searcher.SearcherKind.{SearcherKind}
use Rattle.jj_strings.specs.declared.str_util.searcher.SearcherKind.TheVariants.{Expression, Matcher}
use Rattle.jj_strings.specs.declared.str_util.searcher.StringSearcher.{StringSearcher}

-- the matcher that was made reusable
abbrev pub inner_matcher : {F : _} {V : _} {m : _} → SearcherKind F V m → StringMatcher F V m
inner_matcher (Expression e) = Expr e
inner_matcher (Matcher matcher) = matcher.now

-- the matcher of the searcher
abbrev pub searcher_matcher : {F : _} {V : _} {m : _} → StringSearcher F V m → StringMatcher F V m
searcher_matcher s = inner_matcher s.kind

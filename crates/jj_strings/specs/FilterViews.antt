-- The state of an iterator over matching entries.
-- Cited by contracts of public items: filter_entries, filter_matcher.
use Rattle.std.specs.Prelude.{List}
use Rattle.jj_strings.specs.declared.str_util.matcher.StringMatcher.{StringMatcher}
use Rattle.jj_strings.specs.declared.str_util.filter_btree_map.FilterBTreeMap.{FilterBTreeMap}
use Rattle.jj_strings.specs.RemainingEntries.{remaining_entries}
use Rattle.jj_strings.specs.Searchers.{searcher_matcher}

-- the matcher of the keys
abbrev pub filter_matcher : {K V : Type 0} {F : _} {W : _} {m : _} → FilterBTreeMap K V F W m
    → StringMatcher F W m
filter_matcher s = searcher_matcher s.searcher

-- the remaining entries
abbrev pub filter_entries : {K V : Type 0} {F : _} {W : _} {m : _} → FilterBTreeMap K V F W m
    → List (K × V)
filter_entries s = remaining_entries s.entries

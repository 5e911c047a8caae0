-- Equality and content bytes of trees, entry by entry, with their laws.
-- Cited by contracts of public items: IsTree, tree_content, tree_eq, tree_equiv, tree_lawful.
use Rattle.std.specs.Prelude.{ℕ, List, ◌++◌, Bool, IsTrue}
use Rattle.std.specs.Cmp.{IsEquivalence, and_equiv, on_equiv}
use Rattle.std.specs.Cmp.Lexicographic.{pointwise, nat_list_eq_equiv, lists_equiv}
use Rattle.std.specs.FinMap.{is_sorted}
use Rattle.std.specs.Ordering.{eq_of_both, on}
use Rattle.std.specs.Str.{bytes_eq}
use Rattle.jj_content.specs.Content.{IsLawful, AreValues, list_content, string_content}
use Rattle.jj_content.specs.PrefixFreeProofs.{on_lawful, both_lawful, list_lawful, narrow_lawful}
use Rattle.jj_paths.specs.Contents.{IsShortName, name_lawful}
use Rattle.jj_paths.specs.Paths.{Name, name_cmp}
use Rattle.jj_backend.specs.Trees.{Entries}
use Rattle.jj_backend.specs.TreeValues.{IsTreeValue, tree_value_content}
use Rattle.jj_backend.specs.TreeValueLaws.{tree_value_lawful}
use Rattle.jj_backend.specs.contracts.backend.tree_value.TreeValuePartialEq.TheImpl.{ghosts}
use Rattle.jj_backend.specs.contracts.backend.tree_value.TreeValueEq.TheImpl.Laws.{laws-law}
use Rattle.jj_backend.specs.declared.backend.tree_value.TreeValue.{TreeValue}

-- equal names and equal values
abbrev pub entry_eq : Name × TreeValue → Name × TreeValue → Bool
entry_eq = eq_of_both (on (λ e. e.0) bytes_eq) (on (λ e. e.1) ghosts.eq)

-- equality of trees: the same entries in the same order
abbrev pub tree_eq : Entries → Entries → Bool
tree_eq = pointwise entry_eq

pub tree_equiv : IsEquivalence tree_eq
tree_equiv = lists_equiv (and_equiv (on_equiv (λ e. e.0) nat_list_eq_equiv)
    (on_equiv (λ e. e.1) laws-law))

-- ---- content: the list of the entries, each with its name before its value

-- the name and the value of the entry fit their types
abbrev pub IsEntry : Name × TreeValue → Type 0
IsEntry e = IsShortName e.0 × IsTreeValue e.1

-- the names ascend strictly
abbrev pub IsTree : Entries → Type 0
IsTree entries = IsTrue (is_sorted name_cmp entries) × AreValues IsEntry entries

-- the content of an entry: its name, then its value
abbrev pub entry_content : Name × TreeValue → List ℕ
entry_content e = string_content e.0 ++ tree_value_content e.1

-- the content of a tree: the number of its entries, then each entry
abbrev pub tree_content : Entries → List ℕ
tree_content = list_content entry_content

pub tree_lawful : IsLawful IsTree tree_eq tree_content
tree_lawful = narrow_lawful (λ _ value. value.1) (list_lawful (both_lawful
    (on_lawful (λ e. e.0) name_lawful) (on_lawful (λ e. e.1) tree_value_lawful)))

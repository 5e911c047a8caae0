use Rattle.std.proofs.Common.{rules}
use Rattle.std.proofs.lemmas.Fn.{always_returns_same}
use Rattle.jj_paths.specs.Paths.{name_cmp}
use Rattle.jj_paths.specs.Names.{name_of}
use Rattle.jj_paths.proofs.ChildSearch.{IsSearchResult, placed}
use Rattle.jj_paths.proofs.repo_path_tree.search_children.Goals as goal

result_is : (g : _) (c : goal.After-binary_search_by g) → IsSearchResult c.args.entries.now (name_of c.args.name) c.binary_search_by.result
result_is g c =
    let facts = c.binary_search_by.ensures in
    placed _ _ _ c.requires facts.bound (facts.position (λ e. name_cmp e.0 (name_of c.args.name)) (always_returns_same _ _ _ (λ a r h called. (search rules, search rules))))

pub returns-clause-found : goal.returns-clause-found
returns-clause-found g c = (result_is g c).found

pub returns-clause-absent : goal.returns-clause-absent
returns-clause-absent g c = (result_is g c).absent

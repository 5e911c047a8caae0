use Rattle.std.proofs.Common.{ap, sym, ◌∙◌, arith}
use Rattle.jj_paths.specs.Paths.{name_cmp}
use Rattle.jj_paths.specs.Names.{name_of}
use Rattle.jj_paths.proofs.ChildSearch.{behind_last, at_last}
use Rattle.jj_paths.proofs.repo_path_tree.find_child.Goals as goal

pub returns-in-Less-clause-absent : goal.returns-in-Less-clause-absent
returns-in-Less-clause-absent g c =
    let item = c.in-Some.ensures.item in
    behind_last c.args.entries.now _ c.in-Some.last.now item.3.0 (λ d. item.4 (omega arith) d) c.requires (ap (λ n. name_cmp n (name_of c.args.name)) (sym c.as_component.ensures) ∙ sym c.cmp.ensures ∙ c.in-Less.is)

pub returns-in-Equal-clause-found : goal.returns-in-Equal-clause-found
returns-in-Equal-clause-found g c =
    let item = c.in-Some.ensures.item in
    at_last c.args.entries.now _ c.in-Some.last.now item.3.0 (λ d. item.4 (omega arith) d) (ap (λ n. name_cmp n (name_of c.args.name)) (sym c.as_component.ensures) ∙ sym c.cmp.ensures ∙ c.in-Equal.is)

use Rattle.std.proofs.Common.{◌++◌, string_bytes, map, ap, ◌∙◌}
use Rattle.jj_paths.specs.Names.{name_of}
use Rattle.jj_paths.proofs.AppendedNames.{extended_by}
use Rattle.jj_paths.proofs.repo_path.RepoPathBuf.extend.Goals as goal

pub invariant_of-self : goal.invariant_of-self
invariant_of-self g c =
    let h = c.in-Ok.ensures.pushed in
    (extended_by (string_bytes c.self.inside.value) (string_bytes c.push_names.new.text) h.1 c.self.invariant h.4).valid

pub returns-in-Ok-clause-extended : goal.returns-in-Ok-clause-extended
returns-in-Ok-clause-extended g c =
    let h = c.in-Ok.ensures.pushed in
    let is = (extended_by (string_bytes c.self.inside.value) (string_bytes c.push_names.new.text) h.1 c.self.invariant h.4).is in
    (h.0, h.1, h.2, h.3, is ∙ ap (λ p. p ++ map name_of h.1) c.self.view_is)

use Rattle.std.proofs.Common.{Bool, subst, sym}
use Rattle.std.specs.Prelude.{◌↔◌, IsTrue}
use Rattle.std.specs.List.{Contains}
use Rattle.jj_commit_graph.proofs.Numberings.{is_known}
use Rattle.jj_commit_graph.proofs.commit_graph.CommitGraph.contains.Goals as goal

pub returns : goal.returns
returns c =
    let id = c.args.id.now in
    let names = c.self.inside.numbering.ids.items in
    let known = is_known names id c.number.result c.number.ensures in
    subst (λ graph. IsTrue c.is_some.result ↔ Contains graph.ids id) c.self.view_is (subst (λ (b : Bool). IsTrue b ↔ Contains names id) (sym c.is_some.ensures) known)

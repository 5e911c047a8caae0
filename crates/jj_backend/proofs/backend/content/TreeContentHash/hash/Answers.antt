use Rattle.std.proofs.Common.{OnOk, subst}
use Rattle.std.proofs.lemmas.Result.{on_ok_weaker}
use Rattle.jj_content.specs.Content.{Absorbs}
use Rattle.jj_backend.specs.TreeLaws.{tree_content, IsTree}
use Rattle.jj_backend.specs.Trees.{Entries}
use Rattle.jj_backend.proofs.backend.content.TreeContentHash.hash.Goals as goal

pub returns-clause-ok : goal.returns-clause-ok
returns-clause-ok g c =
    let whole : Entries → Type 0 = λ tree. OnOk c.hash.result (Absorbs g.D.DigestUpdate.absorbed c.args.state.now c.hash.new.state (tree_content tree)) in
    subst whole c.self.view_is c.hash.ensures.ok

pub returns-clause-value : goal.returns-clause-value
returns-clause-value g c =
    let valid : Entries → Type 0 = λ tree. OnOk c.hash.result (IsTree tree) in
    subst valid c.self.view_is (on_ok_weaker c.hash.result (λ values. (c.self.invariant, values)) c.hash.ensures.value)

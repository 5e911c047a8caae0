use Rattle.std.proofs.Common.{◌∙◌}
use Rattle.jj_backend.proofs.backend.commit.CommitClone.clone.Goals as goal

pub returns : goal.returns
returns c =
    let parents = c.in_ok-clone_ids.ensures in
    let predecessors = c.in_ok-clone_ids-2.ensures in
    let root_tree = c.in_ok-clone_trees.ensures in
    let conflict_labels = c.in_ok-clone_strings.ensures in
    let change_id = c.in_ok-clone.ensures.cases in
    let description = c.in_ok-clone-2.ensures.cases in
    let author = c.in_ok-clone-3.ensures.cases in
    let committer = c.in_ok-clone-4.ensures.cases in
    let secure_sig = c.in_ok-clone_sig.ensures in
    record {
      cases = (λ i. record {
        parents = parents i;
        predecessors = predecessors i;
        root_tree = root_tree i;
        conflict_labels = conflict_labels i;
        change_id = change_id i;
        description = description i;
        author = author i;
        committer = committer i;
        secure_sig = secure_sig i;
      }) ∙ c.self.view_is;
    }

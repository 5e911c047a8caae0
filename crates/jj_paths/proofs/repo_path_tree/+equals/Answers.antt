use Rattle.std.proofs.Common.{◌≡◌, ◌≢◌, length, ap, sym, ◌∙◌, arith}
use Rattle.jj_paths.specs.Tree.{children}
use Rattle.jj_paths.proofs.ChildLookup.{children-branches_of}
use Rattle.jj_paths.proofs.TreeEquality.{unequal_lengths, children_decide}
use Rattle.jj_paths.proofs.repo_path_tree.+equals.Goals as goal

pub RepoPathNodePartialEq::eq-returns-then-mine-theirs : goal.RepoPathNodePartialEq::eq-returns-then-mine-theirs
RepoPathNodePartialEq::eq-returns-then-mine-theirs g t c =
    let differ : length c.as_slice-mine.result.now ≢ length c.as_slice-theirs.result.now = c.if-mine-theirs.true in
    let mine : c.as_slice-mine.result.now ≡ children c.args.self.now.branches = c.as_slice-mine.ensures.value ∙ sym (children-branches_of _) ∙ ap (λ t. children t.branches) c.self.view_is in
    let theirs : c.as_slice-theirs.result.now ≡ children c.args.other.now.branches = c.as_slice-theirs.ensures.value ∙ sym (children-branches_of _) ∙ ap (λ t. children t.branches) c.other.view_is in
    unequal_lengths g.V.PartialEq.eq c.args.self.now c.args.other.now (λ e. differ (ap length mine ∙ e ∙ sym (ap length theirs)))

pub RepoPathNodePartialEq::eq-loop-i-init : goal.RepoPathNodePartialEq::eq-loop-i-init
RepoPathNodePartialEq::eq-loop-i-init g t c =
    let mine : c.as_slice-mine.result.now ≡ children c.args.self.now.branches = c.as_slice-mine.ensures.value ∙ sym (children-branches_of _) ∙ ap (λ t. children t.branches) c.self.view_is in
    let theirs : c.as_slice-theirs.result.now ≡ children c.args.other.now.branches = c.as_slice-theirs.ensures.value ∙ sym (children-branches_of _) ∙ ap (λ t. children t.branches) c.other.view_is in
    record {
      mine = mine;
      theirs = theirs;
      as_many = omega (arith, c.if-mine-theirs.false);
      decided = children_decide g.V.PartialEq.eq c.args.self.now c.args.other.now _ _ _ _ _ _ c.self.view_is c.other.view_is c.if-ne.ensures mine theirs;
    }

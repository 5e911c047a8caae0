use Rattle.std.proofs.Common.{◌≡◌, Some, IfOk, sym, ap, subst, refl}
use Rattle.jj_paths.specs.Paths.{first_of}
use Rattle.jj_paths.specs.Tree.{Tree, child, AddsDefaultChild, WritesAtChild}
use Rattle.jj_paths.proofs.repo_path_tree.RepoPathNode.first_child_or_default.Goals as goal

pub returns : goal.returns
returns g c =
    let first = ap first_of (sym c.in-Some.ensures) in (
      (
        refl,
        λ w ok. subst (λ n. IfOk c.child_or_default.result (λ sub. WritesAtChild g.V.Default.is_default c.args.self.now n sub.now w (c.child_or_default.follows.lender w))) first (c.child_or_default.follows.holds w ok),
        c.child_or_default.follows.holds-at-none,
      ),
      record {
        loan = tt;
        child = subst (λ n. IfOk c.child_or_default.result (λ sub. (t : Tree g.row.V.Denot) × AddsDefaultChild g.V.Default.is_default c.args.self.now n t × (child t.branches n ≡ Some sub.now))) first c.child_or_default.ensures.child;
      },
    )

use Rattle.std.proofs.Common.{MutBor, refl}
use Rattle.jj_paths.specs.Paths.{first_of}
use Rattle.jj_paths.specs.Names.{path_of}
use Rattle.jj_paths.specs.Tree.{Tree}
use Rattle.jj_paths.proofs.ValueUpdates.{parted_by, lent_child, set-root, set-below}
use Rattle.jj_paths.proofs.repo_path_tree.RepoPathNode.swap_value.Goals as goal

pub returns-then-is_root : goal.returns-then-is_root
returns-then-is_root g c = record { edited = set-root g.V.Default.is_default c.args.self.now _ (path_of c.args.path) c.args.value.now (c.is_root.ensures.0 c.if-is_root.true) c.swap.ensures }

pub returns : goal.returns
returns g c =
    let is = parted_by (path_of c.args.path) (path_of c.rest.result) _ c.is_root.ensures c.if-is_root.false c.rest.ensures in
    let edit = lent_child (λ (sub : MutBor (Tree g.row.V.Denot)). sub.now) g.V.Default.is_default c.args.self.now c.args.self.now (first_of (path_of c.args.path)) c.first_child_or_default.result _ c.swap_value.new.self (c.first_child_or_default.follows.lender c.swap_value.new.self)
    refl c.in_ok-first_child_or_default.was (c.first_child_or_default.follows.holds c.swap_value.new.self) in
    record { edited = set-below is edit c.args.value.now c.swap_value.result c.swap_value.ensures.edited }

use Rattle.std.proofs.Common.{MutBor, refl}
use Rattle.jj_paths.specs.Paths.{first_of}
use Rattle.jj_paths.specs.Names.{path_of}
use Rattle.jj_paths.specs.Tree.{Tree}
use Rattle.jj_paths.proofs.ValueUpdates.{parted_by, lent_child, extended-below, there-below_on_ok}
use Rattle.jj_paths.proofs.repo_path_tree.RepoPathNode.extend.Goals as goal

pub returns : goal.returns
returns g c =
    let is = parted_by (path_of c.args.path) (path_of c.rest.result) _ c.is_root.ensures c.if-is_root.false c.rest.ensures in
    let edit = lent_child (λ (sub : MutBor (Tree g.row.V.Denot)). sub.now) g.V.Default.is_default c.args.self.now c.args.self.now (first_of (path_of c.args.path)) c.first_child_or_default.result _ c.extend.new.self (c.first_child_or_default.follows.lender c.extend.new.self)
    refl c.in_ok-first_child_or_default.was (c.first_child_or_default.follows.holds c.extend.new.self) in
    record { there = there-below_on_ok is edit c.extend.result c.extend.ensures.there; extended = extended-below is edit c.extend.ensures.extended }

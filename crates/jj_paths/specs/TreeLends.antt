-- The value of a tree after one of its nodes was written through a returned `&mut`.
-- Cited by contracts of public items: LendsNodeAt.
use Rattle.std.specs.Prelude.{◌≡◌, Result, IfOk}
use Rattle.std.specs.Borrow.{LendsSoOk, Fml, RattleType, MutBor}
use Rattle.jj_paths.specs.Paths.{Name, Path}
use Rattle.jj_paths.specs.Tree.{Tree, AddsDefaults, WritesAt, WritesAtChild}
use Rattle.jj_paths.specs.contracts.repo_path_tree.RepoPathTree as tree
use Rattle.jj_paths.specs.contracts.repo_path_tree.RepoPathNode as node

module _ (V : RattleType) (is_new : V.Denot → Type 0) (lender : MutBor (Tree V.Denot)) where
  -- when the borrow of the node at the path ends, its last value is written there; without a node,
  -- nodes may have been inserted on the path
  abbrev pub LendsNodeAt : {E : Type 0} → Path → Result (MutBor (Tree V.Denot)) E → Fml
  LendsNodeAt path result = LendsSoOk (tree.the_row V) (node.the_row V) lender result
      (λ new changed. IfOk result (λ sub. WritesAt is_new lender.now path sub.now changed new))
      (λ new. AddsDefaults is_new lender.now path new)

  -- when the borrow of the child with the name ends, its last value is written there; without a
  -- child, the node is unchanged
  abbrev pub LendsChild : {E : Type 0} → Name → Result (MutBor (Tree V.Denot)) E → Fml
  LendsChild name result = LendsSoOk (node.the_row V) (tree.the_row V) lender result
      (λ new changed. IfOk result (λ sub. WritesAtChild is_new lender.now name sub.now changed new))
      (λ new. new ≡ lender.now)

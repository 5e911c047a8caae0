use Rattle.std.proofs.Common.{ℕ, List, Contains, subst}
use Rattle.std.specs.Prelude.{All}
use Rattle.std.proofs.lemmas.List.{take_all}
use Rattle.jj_store_walks.specs.declared.read_commit.ReadCommit.{ReadCommit}
use Rattle.jj_history_commands.specs.FoundObjects.{HasTrees}
use Rattle.jj_history_commands.proofs.KnownObjects.{all_taken, among_later}
use Rattle.jj_history_commands.proofs.checks.add_root_trees.Goals as goal

pub loop-read-preserved : goal.loop-read-preserved
loop-read-preserved c =
    let before = c.loop-read.trees.items in
    let after = c.add_trees_of.new.trees.items in
    let ens = c.in_ok-add_trees_of.ensures in
    record {
      known = ens.known;
      found = all_taken (λ (read : ReadCommit). All (Contains after) read.commit.root_tree) c.args.commits.now c.loop-read.read-index c.read-item.result c.loop-read-test.true c.read-item.is
          (λ k d within. among_later before after _ ens.prefix (c.loop-read.invariant.found k d within))
          (subst (λ (read : ReadCommit). All (Contains after) read.commit.root_tree) c.read.view_is
          (subst (λ (ids : List (List ℕ)). All (Contains after) ids) c.as_slice.ensures.terms ens.found));
    }

pub returns-clause-found : goal.returns-clause-found
returns-clause-found c =
    subst (λ (reads : List ReadCommit). HasTrees c.loop-read.trees.items reads) (take_all c.loop-read.read-index c.args.commits.now c.loop-read-test.false) c.loop-read.invariant.found

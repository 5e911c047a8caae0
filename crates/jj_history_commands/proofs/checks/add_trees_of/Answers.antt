use Rattle.std.proofs.Common.{ℕ, List, Contains, subst, take}
use Rattle.std.specs.Prelude.{All}
use Rattle.std.proofs.lemmas.List.{take_all}
use Rattle.jj_history_commands.proofs.KnownObjects.{all_taken, among_later, prefix_more}
use Rattle.jj_history_commands.proofs.checks.add_trees_of.Goals as goal

pub loop-id-preserved : goal.loop-id-preserved
loop-id-preserved c =
    let before = c.loop-id.trees.items in
    let after = c.add_tree.new.trees.items in
    let ens = c.in_ok-add_tree.ensures in
    record {
      known = ens.known;
      prefix = prefix_more c.args.trees.now.items before after c.loop-id.invariant.prefix ens.prefix;
      found = all_taken (Contains after) c.args.ids.now c.loop-id.id-index c.id-item.result c.loop-id-test.true c.id-item.is
          (among_later before after (take c.loop-id.id-index c.args.ids.now) ens.prefix c.loop-id.invariant.found) ens.found;
    }

pub returns-clause-found : goal.returns-clause-found
returns-clause-found c = subst (λ (ids : List (List ℕ)). All (Contains c.loop-id.trees.items) ids) (take_all c.loop-id.id-index c.args.ids.now c.loop-id-test.false) c.loop-id.invariant.found

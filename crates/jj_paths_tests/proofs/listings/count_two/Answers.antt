use Rattle.std.proofs.Common.{rules, ◌≡◌, true}
use Rattle.jj_paths.specs.Tree.{is_ordered}
use Rattle.jj_paths_tests.proofs.listings.count_two.Goals as goal

pub returns-clause-listed : goal.returns-clause-listed
returns-clause-listed c = λ path node.
    let ordered : is_ordered c.set-2.new.self.branches ≡ true = search rules in
    c.node_list_laws.ensures.nodes c.set-2.new.self path node ordered

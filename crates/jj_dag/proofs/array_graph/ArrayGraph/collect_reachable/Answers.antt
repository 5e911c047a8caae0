use Rattle.std.proofs.Common.{rules, arith, ◌≡◌, ◌∙◌, ◌++◌, ◌∷◌, [], List, ℕ, Bool, true, false, not, ap, eqb, subst, sym, true≢false}
use Rattle.std.specs.Bool.{MatchBool}
use Rattle.std.specs.List.Sorted.{IsPermutation}
use Rattle.std.specs.Set.{is_member}
use Rattle.std.proofs.lemmas.Grind.{common_steps}
use Rattle.jj_dag.specs.ArrayGraphs.{graph_of}
use Rattle.jj_dag.specs.NumberSets.{keys_of}
use Rattle.jj_dag.proofs.ReachableNodes.{IsSearching, searched, searching_again, searching_found, searching_start}
use Rattle.jj_dag.proofs.array_graph.ArrayGraph.collect_reachable.Goals as goal

from_not : (b t : Bool) → t ≡ not b → t ≡ true → b ≡ false
from_not true t e is = absurd (true≢false (sym is ∙ e))
from_not false t e is = λ i. false

from_not_false : (b t : Bool) → t ≡ not b → t ≡ false → b ≡ true
from_not_false true t e is = λ i. true
from_not_false false t e is = absurd (true≢false (sym e ∙ is))

pub loop-node-init : goal.loop-node-init
loop-node-init c =
    subst (λ (l : List ℕ). IsSearching (graph_of c.args.self.now) c.args.starts.now (keys_of c.args.visited.now) c.in_ok-pending.pending.items l) (sym c.new-found.ensures.items)
    (searching_start (graph_of c.args.self.now) c.args.starts.now (keys_of c.args.visited.now) c.in_ok-pending.pending.items c.requires c.in_ok-pending.ensures.items)

pub loop-node-preserved-in-Continue-branch-4 : goal.loop-node-preserved-in-Continue-branch-4
loop-node-preserved-in-Continue-branch-4 c =
    let keys = keys_of c.loop-node.visited in
    let node = c.in-Some.node in
    let fresh : is_member eqb keys node ≡ false = from_not (is_member eqb keys node) c.in_ok-insert.field-0 c.in_ok-insert.ensures.added (search rules) in
    searching_found (graph_of c.args.self.now) c.args.starts.now keys c.loop-node.pending.items c.loop-node.found.items c.pop.new.self.items node c.loop-node.invariant c.in-Some.ensures.items
    (keys_of c.insert.new.self) c.extend_from_slice.new.self.items c.push.new.self.items c.in_ok-insert.ensures.updates fresh
    (c.in_ok-extend_from_slice.ensures.items ∙ ap (λ (l : List ℕ). c.pop.new.self.items ++ l) c.neighbors_of.ensures) c.in_ok-push.ensures.items

pub loop-node-preserved : goal.loop-node-preserved
loop-node-preserved c =
    let keys = keys_of c.loop-node.visited in
    let node = c.in-Some.node in
    let told : c.in_ok-insert.field-0 ≡ false = search rules in
    let before : is_member eqb keys node ≡ true = from_not_false (is_member eqb keys node) c.in_ok-insert.field-0 c.in_ok-insert.ensures.added told in
    let kept : keys_of c.insert.new.self ≡ keys = subst (λ b. MatchBool b (IsPermutation (node ∷ keys) (keys_of c.insert.new.self)) (keys_of c.insert.new.self ≡ keys)) told c.in_ok-insert.ensures.keys in
    searching_again (graph_of c.args.self.now) c.args.starts.now keys c.loop-node.pending.items c.loop-node.found.items c.pop.new.self.items node c.loop-node.invariant c.in-Some.ensures.items
    (keys_of c.insert.new.self) kept before

pub returns-clause-reached : goal.returns-clause-reached
returns-clause-reached c =
    let empty : c.loop-node.pending.items ≡ [] = first_of (search rules, grind (arith, common_steps)) in
    searched (graph_of c.args.self.now) c.args.starts.now (keys_of c.loop-node.visited) c.loop-node.pending.items c.loop-node.found.items c.loop-node.invariant empty

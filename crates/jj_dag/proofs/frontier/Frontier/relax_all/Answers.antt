use Rattle.std.proofs.Common.{rules, arith, ◌≡◌, ◌+◌, ◌++◌, ◌∷◌, ◌∙◌, [], ap, sym, take, get_or, eqb, map, ℕ, subst, refl}
use Rattle.std.proofs.lemmas.Grind.{common_steps}
use Rattle.std.proofs.lemmas.List.{map-append, take_all}
use Rattle.jj_dag.specs.NodeStates.RelaxesNodes.{none, more}
use Rattle.jj_dag.specs.NodeStates.{RelaxesNodes, state_at}
use Rattle.jj_dag.specs.NumberSets.{entries_of}
use Rattle.jj_dag.specs.Ranks.{rank_in}
use Rattle.std.specs.BinaryHeap.{heap_items}
use Rattle.jj_dag.proofs.frontier.Frontier.relax_all.Goals as goal

pub loop-node-init : goal.loop-node-init
loop-node-init c = record { relaxed = none; listed = λ h. h; balance = omega arith; small = λ h. h }

pub loop-node-preserved : goal.loop-node-preserved
loop-node-preserved c =
    let before = c.loop-node.invariant in
    let done = c.in_ok-relax.ensures in
    let xs = c.args.nodes.now in
    let i = c.loop-node.node-index in
    let node = get_or xs i 0 in
    let pair : ℕ → ℕ × ℕ = λ n. (rank_in c.args.ranks.now n, n) in
    let step : take (i + 1) xs ≡ take i xs ++ node ∷ [] = grind (arith, common_steps) in
    let grown : map pair (take (i + 1) xs) ≡ map pair (take i xs) ++ pair node ∷ [] = ap (map pair) step ∙ map-append pair (take i xs) (node ∷ []) in
    record {
      relaxed = subst (λ l. RelaxesNodes eqb (λ (entry : ℕ × ℕ) n. n ≡ entry.1) c.args.sides (state_at eqb (entries_of c.args.known.now)) (heap_items c.args.self.now.pending) l (state_at eqb (entries_of c.relax.new.known)) (heap_items c.relax.new.self.pending))
          (sym grown) (more (pair node) node before.relaxed refl (search (rules, done.relaxed, c.rank.ensures)));
      listed = λ h. done.listed (before.listed h);
      balance = omega (arith, before.balance, done.balance);
      small = λ h. done.small;
    }

pub returns-clause-relaxed : goal.returns-clause-relaxed
returns-clause-relaxed c =
    let xs = c.args.nodes.now in
    let whole : take c.loop-node.node-index xs ≡ xs = take_all c.loop-node.node-index xs (omega arith) in
    subst (λ l. RelaxesNodes eqb (λ (entry : ℕ × ℕ) n. n ≡ entry.1) c.args.sides (state_at eqb (entries_of c.args.known.now)) (heap_items c.args.self.now.pending) (map (λ n. (rank_in c.args.ranks.now n, n)) l) (state_at eqb (entries_of c.loop-node.known)) (heap_items c.loop-node.self.pending))
    whole c.loop-node.invariant.relaxed

use Rattle.std.proofs.Common.{rules, arith, ◌+◌, ◌≡◌, ◌++◌, ◌∷◌, [], take, get_or, inl, inr}
use Rattle.std.proofs.lemmas.Grind.{common_steps}
use Rattle.jj_dag.specs.NumberSets.{keys_of}
use Rattle.jj_dag.specs.Ranks.{rank_in}
use Rattle.jj_dag.proofs.PrunedSearches.{visits_more, visits_none}
use Rattle.jj_dag.proofs.ranked_heads.visit_neighbors.Goals.{then-least-rank+in_ok-push, else-least-rank}
use Rattle.jj_dag.proofs.ranked_heads.visit_neighbors.Goals as goal

pub loop-neighbor-init : goal.loop-neighbor-init
loop-neighbor-init c = visits_none (rank_in c.args.ranks.now) c.args.least (keys_of c.args.heads.now) c.args.pending.now.items

pub loop-neighbor-preserved : goal.loop-neighbor-preserved
loop-neighbor-preserved c =
    let xs = c.args.neighbors.now in
    let i = c.loop-neighbor.neighbor-index in
    let step : take (i + 1) xs ≡ take i xs ++ get_or xs i 0 ∷ [] = grind (arith, common_steps) in
    visits_more (rank_in c.args.ranks.now) c.args.least (take i xs) (take (i + 1) xs) (keys_of c.args.heads.now) (keys_of c.loop-neighbor.heads) (keys_of c.remove.new.self)
    c.args.pending.now.items c.loop-neighbor.pending.items c.if-least-rank.pending.items (get_or xs i 0) c.loop-neighbor.invariant step c.remove.ensures.updates
    (elim c.if-least-rank.branch [
      | then-least-rank+in_ok-push w ↦ inl (search rules)
      | else-least-rank w ↦ inr (search rules, λ less. absurd (omega (arith, less, w.if-least-rank.false, c.rank.ensures)))
    ])

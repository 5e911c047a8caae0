use Rattle.std.proofs.lemmas.Result.{IfOk-weaker}
use Rattle.std.specs.List.{each_same}
use Rattle.jj_backend.proofs.backend.merged_parts.clone_trees.Goals as goal

pub returns : goal.returns
returns c = IfOk-weaker c.clone.result _ _ (λ copy clones. each_same c.args.trees.now copy clones) c.clone.ensures.terms

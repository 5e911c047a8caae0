use Rattle.std.specs.Prelude.{string_bytes}
use Rattle.std.proofs.lemmas.Result.{IfOk-weaker}
use Rattle.jj_backend.proofs.MergedParts.{map-clones}
use Rattle.jj_backend.proofs.backend.merged_parts.clone_strings.Goals as goal

pub returns : goal.returns
returns c = IfOk-weaker c.clone.result _ _ (λ copy clones. map-clones string_bytes c.args.texts.now copy clones) c.clone.ensures.terms

use Rattle.std.proofs.Common.{subst}
use Rattle.std.specs.Prelude.{string_bytes}
use Rattle.jj_content.specs.Content.{string_content, Absorbs, AbsorbsPrefix}
use Rattle.jj_backend.specs.Contents.{IsText}
use Rattle.std.proofs.lemmas.Result.{on_ok_weaker, on_err_weaker}
use Rattle.jj_backend.proofs.MergedParts.{list_content-map, is_merge_of-map}
use Rattle.jj_backend.proofs.backend.merged_parts.hash_strings.Goals as goal

pub returns-clause-ok : goal.returns-clause-ok
returns-clause-ok g c =
    on_ok_weaker c.hash.result (λ takes. subst (Absorbs g.D.DigestUpdate.absorbed c.args.state.now c.hash.new.state) (list_content-map string_bytes string_content c.args.texts.now) takes) c.hash.ensures.ok

pub returns-clause-value : goal.returns-clause-value
returns-clause-value g c = on_ok_weaker c.hash.result (is_merge_of-map string_bytes IsText c.args.texts.now) c.hash.ensures.value

pub returns-clause-err : goal.returns-clause-err
returns-clause-err g c =
    on_err_weaker c.hash.result (λ takes. subst (AbsorbsPrefix g.D.DigestUpdate.absorbed c.args.state.now c.hash.new.state) (list_content-map string_bytes string_content c.args.texts.now) takes) c.hash.ensures.err

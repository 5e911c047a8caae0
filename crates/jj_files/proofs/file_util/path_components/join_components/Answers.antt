use Rattle.std.proofs.Common.{◌∙◌, [], map, ap}
use Rattle.std.proofs.lemmas.List.{take_all}
use Rattle.std.proofs.lemmas.Result.{IfOk-weaker}
use Rattle.jj_files.specs.PathJoining.{join_all, or_dot}
use Rattle.jj_files.proofs.PathJoiningLemmas.{appended-index}
use Rattle.jj_files.proofs.file_util.path_components.join_components.Goals as goal

pub loop-index-preserved : goal.loop-index-preserved
loop-index-preserved c =
    appended-index c.args.components.now c.loop-index.index _ _ _ c.loop-index-test.true c.in_ok-push.ensures.ok c.loop-index.invariant

pub returns : goal.returns
returns c =
    let all = take_all c.loop-index.index c.args.components.now c.loop-index-test.false in
    IfOk-weaker c.text_or_dot.result _ _
    (λ text is. is ∙ ap or_dot (c.loop-index.invariant ∙ ap (λ l. join_all [] (map (λ component. component.now) l)) all)) c.text_or_dot.ensures

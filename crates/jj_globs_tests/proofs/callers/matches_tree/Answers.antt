use Rattle.std.proofs.lemmas.Result.{err_from_is_err_and}
use Rattle.jj_globs_tests.proofs.Spelling.{matched_by_tree, spelled_once, spelling_failed}
use Rattle.jj_globs_tests.proofs.callers.matches_tree.Goals as goal

pub returns-in_err-glob-clause-error : goal.returns-in_err-glob-clause-error
returns-in_err-glob-clause-error c =
    let p = err_from_is_err_and c.from_residual.result c.from_residual.ensures.1 in
    rw (p.1, p.2) (spelling_failed c.parse.result c.parse.ensures c.spelled_globs_are_parsed.ensures _ c.in_err-glob.was)

pub returns-clause-spelled : goal.returns-clause-spelled
returns-clause-spelled c = spelled_once c.parse.result c.parse.ensures c.parsed_globs_are_spelled.ensures c.spelling_is_unique.ensures _ c.in_ok-glob.was

pub returns-clause-matched : goal.returns-clause-matched
returns-clause-matched c =
    matched_by_tree c.parse.result c.parse.ensures c.spelled_globs_are_parsed.ensures _ c.in_ok-glob.was c.as_bytes.result.now c.args.path.now c.as_bytes.ensures.value c.is_match.result
    c.is_match.ensures

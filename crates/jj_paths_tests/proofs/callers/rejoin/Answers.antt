use Rattle.std.proofs.Common.{◌∙◌, ap, sym}
use Rattle.jj_paths.specs.Paths.{path_string}
use Rattle.jj_paths_tests.proofs.callers.rejoin.Goals as goal

pub returns-in_ok-join-in-Some-clause-same : goal.returns-in_ok-join-in-Some-clause-same
returns-in_ok-join-in-Some-clause-same c =
    c.into_internal_string.ensures ∙ ap path_string (c.in_ok-join-in-Some.ensures ∙ sym c.in-Some.ensures ∙ c.in_ok-path.ensures.ok)
    ∙ c.path_string_laws.ensures.texts c.args.text.now

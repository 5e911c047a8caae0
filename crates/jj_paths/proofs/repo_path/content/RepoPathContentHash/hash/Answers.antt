use Rattle.std.proofs.Common.{ap}
use Rattle.std.specs.Prelude.{IsTrue}
use Rattle.std.specs.Str.{IsUtf8}
use Rattle.std.proofs.lemmas.Result.{on_ok_weaker}
use Rattle.jj_paths.specs.Paths.{components, is_path_string, path_string}
use Rattle.jj_paths.proofs.PathStrings.{path_string-components}
use Rattle.jj_paths.proofs.repo_path.content.RepoPathContentHash.hash.Goals as goal

pub returns-clause-ok : goal.returns-clause-ok
returns-clause-ok g c = rw (← c.as_internal_file_string-text.ensures) c.hash.ensures.ok

pub returns-clause-value : goal.returns-clause-value
returns-clause-value g c =
    let text = c.args.self.now.value.now in
    let same = path_string-components text in
    let valid : IsTrue (is_path_string (path_string (components text))) = rw same c.args.self.now.valid in
    let utf8 : IsUtf8 (path_string (components text)) = rw (← c.as_internal_file_string-text.ensures) c.as_internal_file_string-text.utf8 in
    on_ok_weaker c.hash.result (λ short. (ap components same, (valid, (utf8, rw (← c.as_internal_file_string-text.ensures) short)))) c.hash.ensures.value

pub returns-clause-err : goal.returns-clause-err
returns-clause-err g c = rw (← c.as_internal_file_string-text.ensures) c.hash.ensures.err

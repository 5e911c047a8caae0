use Rattle.std.proofs.Common.{◌≡◌, ◌∷◌, Contains, List, map, subst}
use Rattle.std.specs.Prelude.{◌↔◌}
use Rattle.jj_paths.specs.Names.{path_of}
use Rattle.jj_paths.specs.Paths.{Name, Path}
use Rattle.jj_matchers_tests.specs.TopLevel.{starts_among}
use Rattle.jj_matchers_tests.proofs.FoundFiles.{found_marks}
use Rattle.jj_matchers_tests.proofs.TopLevel.{starts_with, no_root}
use Rattle.jj_matchers_tests.proofs.own_matcher.files_under.Goals as goal

pub returns-clause-found : goal.returns-clause-found
returns-clause-found c = λ path.
    let own = c.new-matcher.result.names.keys in
    let Has : List Name → Path → Type 0 = λ names path. (name : Name) × (rest : Path) × (path ≡ name ∷ rest) × Contains names name in
    let files = map path_of c.in_ok-walk_marks.field-0.files.items in
    let marks = map path_of c.args.files.now in
    let found = found_marks marks files _ (starts_among own) _ (Has own) c.in_ok-walk_marks.ensures (starts_with own) path in
    subst (λ set. Contains files path ↔ (Contains marks path × Has set.keys path)) c.new-matcher.ensures
    ((λ h. let file = found.0 h in (file.0, file.2)), (λ (marked, has). found.1 (marked, no_root path has.0 has.1 has.2, has)))

use Rattle.std.proofs.Common.{◌≡◌, ◌∙◌, ap, subst, map, List, [], ◌∷◌, refl, Bor}
use Rattle.std.specs.List.{zip}
use Rattle.std.proofs.lemmas.Iterator.{YieldsList-from_slice, YieldsList-from_zip}
use Rattle.std.proofs.lemmas.Iterator.Consumers.{YieldsList-end}
use Rattle.std.proofs.lemmas.Result.{IfOk-weaker}
use Rattle.jj_paths.specs.Paths.{Path}
use Rattle.jj_paths.specs.declared.repo_path.RepoPath.{RepoPath}
use Rattle.jj_paths.specs.Names.{path_of}
use Rattle.jj_globs.specs.GlobMeaning.{GlobSpec}
use Rattle.jj_matchers.specs.Patterns.{Patterns, HasSamePatterns}
use Rattle.jj_program.proofs.file_set.matcher.globs_matcher.Goals as goal

zip_paths : (dirs : List RepoPath) (globs : List GlobSpec) → map {B = Path × GlobSpec} (λ (pair : RepoPath × GlobSpec). (path_of pair.0, pair.1)) (zip dirs globs) ≡ zip (map path_of dirs) globs
zip_paths [] globs = refl
zip_paths (dir ∷ dirs) [] = refl
zip_paths (dir ∷ dirs) (glob ∷ globs) = ap (λ l. (path_of dir, glob) ∷ l) (zip_paths dirs globs)

read_paths : (pairs : List (Bor RepoPath × Bor GlobSpec)) → map {B = Path × GlobSpec} (λ (pair : Bor RepoPath × Bor GlobSpec). (path_of pair.0.now, pair.1.now)) pairs
    ≡ map {B = Path × GlobSpec} (λ (pair : RepoPath × GlobSpec). (path_of pair.0, pair.1)) (map {B = RepoPath × GlobSpec} (λ (pair : Bor RepoPath × Bor GlobSpec). (pair.0.now, pair.1.now)) pairs)
read_paths [] = refl
read_paths (pair ∷ pairs) = ap (λ l. (path_of pair.0.now, pair.1.now) ∷ l) (read_paths pairs)

pub returns : goal.returns
returns c =
    let dirs = c.args.values.now.firsts.items in
    let globs = c.args.values.now.seconds.items in
    let pairs = c.loop-dir.yielded in
    let road = YieldsList-from_zip (YieldsList-from_slice dirs cc) (YieldsList-from_slice globs cc) in
    let all = YieldsList-end road pairs _ c.loop-dir.yielded_by _ c.next.new.self c.in-None.is c.next.ensures.steps in
    let same : c.loop-dir.builder ≡ record { prefix_paths = c.args.prefix_paths; patterns = zip (map path_of dirs) globs } =
    c.loop-dir.invariant
    ∙ ap (λ patterns. record { prefix_paths = c.args.prefix_paths; patterns = patterns }) (read_paths pairs ∙ ap (map {B = Path × GlobSpec} (λ (pair : RepoPath × GlobSpec). (path_of pair.0, pair.1))) all.0 ∙ zip_paths dirs globs) in
    let Same : Patterns → Patterns → Type 0 = λ set matcher. HasSamePatterns matcher set in
    IfOk-weaker c.build.result (Same c.loop-dir.builder) (Same (record { prefix_paths = c.args.prefix_paths; patterns = zip (map path_of dirs) globs })) (λ matcher h. subst (HasSamePatterns matcher) same h) c.build.ensures.same

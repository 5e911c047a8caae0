use Rattle.std.proofs.Common.{◌≡◌, ◌∷◌, [], Bool, map, subst}
use Rattle.std.specs.List.{AllZip}
use Rattle.std.proofs.lemmas.Result.{IfOk-weaker}
use Rattle.jj_paths.specs.Names.{path_of}
use Rattle.jj_paths.specs.Paths.{Path}
use Rattle.jj_matchers.specs.MarkWalk.{WalksMarks}
use Rattle.jj_matchers.specs.VisitSpecs.{VisitSpec}
use Rattle.jj_program.specs.SetCode.{AreAlike, made_by, sets_of}
use Rattle.jj_program.specs.declared.file_set.matcher.FileSet.{FileSet}
use Rattle.jj_program.specs.WalkCommand.{SetTree, spec_of}
use Rattle.jj_program.proofs.AlikeSets.{alike_only}
use Rattle.jj_program.proofs.file_set.matcher.walk_set.Goals as goal

-- the walk by the matcher is one by the set
pub returns : goal.returns
returns c =
    let code = spec_of (made_by c.in_ok-matcher.matcher.code.items) in
    IfOk-weaker c.walk_marks.result _
    (λ walk. (set : SetTree FileSet) → AllZip AreAlike (sets_of c.args.sets.ops.items) (set ∷ []) → WalksMarks (spec_of set).accepts (spec_of set).visits (map path_of c.args.marks.now) (map path_of walk.files.items) (map path_of walk.entered.items))
    (λ walk walks set alike.
    let same = alike_only (sets_of c.args.sets.ops.items) (made_by c.in_ok-matcher.matcher.code.items) set c.in_ok-matcher.ensures alike in
    let accepts : code.accepts ≡ (spec_of set).accepts = λ i path. same.accepts path i in
    let visits : code.visits ≡ (spec_of set).visits = λ i path. same.visits path i in
    subst (λ (a : Path → Bool). WalksMarks a (spec_of set).visits (map path_of c.args.marks.now) (map path_of walk.files.items) (map path_of walk.entered.items)) accepts
    (subst (λ (v : Path → VisitSpec). WalksMarks code.accepts v (map path_of c.args.marks.now) (map path_of walk.files.items) (map path_of walk.entered.items)) visits walks))
    c.walk_marks.ensures

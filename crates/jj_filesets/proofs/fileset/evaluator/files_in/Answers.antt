use Rattle.std.proofs.Common.{◌∙◌, ◌++◌, ◌∷◌, [], ap, map, subst, sym}
use mathlib.Core.Bool.{false≢true}
use Rattle.std.proofs.lemmas.List.{take_all}
use Rattle.jj_paths.specs.Names.{path_of}
use Rattle.jj_filesets.specs.Selection.{IsFileIn, IsSelected, none}
use Rattle.jj_filesets.proofs.Selecting.{takes_at, leaves_at, selected-members}
use Rattle.jj_filesets.proofs.fileset.evaluator.files_in.Goals as goal
use Rattle.jj_filesets.proofs.fileset.evaluator.files_in.Goals.{then-branch+in_ok-push, else-branch}

pub loop-file-init : goal.loop-file-init
loop-file-init c = rw c.new-found.ensures.items none

pub loop-file-preserved : goal.loop-file-preserved
loop-file-preserved c =
    let file = c.file-item.result in
    let set = c.args.expression.now in
    elim c.if-branch.branch [
      | then-branch+in_ok-push w ↦
          takes_at (IsFileIn set) path_of c.args.files.now c.loop-file.file-index file c.loop-file.found.items _ c.loop-file-test.true c.loop-file.invariant
          (subst (λ f. IsFileIn set (path_of f)) c.file-item.is (c.in_ok-is_file_in.ensures.0 w.if-branch.true))
          (ap (λ v. v.items) w.found-is ∙ w.in_ok-push.ensures.items ∙ ap (λ f. c.loop-file.found.items ++ f ∷ []) c.file-item.is)
      | else-branch w ↦
          leaves_at (IsFileIn set) path_of c.args.files.now c.loop-file.file-index file c.loop-file.found.items _ c.loop-file-test.true c.loop-file.invariant
          (λ inside. false≢true (sym w.if-branch.false ∙ c.in_ok-is_file_in.ensures.1 (subst (λ f. IsFileIn set (path_of f)) (sym c.file-item.is) inside)))
          (ap (λ v. v.items) w.found-is)
    ]

pub returns-clause-members : goal.returns-clause-members
returns-clause-members c = λ path.
    let set = c.args.expression.now in
    let selected = subst (λ l. IsSelected (IsFileIn set) (map path_of l) (map path_of c.loop-file.found.items)) (take_all c.loop-file.file-index c.args.files.now c.loop-file-test.false) c.loop-file.invariant in
    let both = selected-members (IsFileIn set) (map path_of c.args.files.now) (map path_of c.loop-file.found.items) selected path in (
      (λ h. let found = both.0 h in (found.0, found.1.0, found.1.1)),
      (λ h. both.1 (h.0, (h.1, h.2))),
    )

use Rattle.std.proofs.Common.{◌≡◌, ◌∙◌, List, [], refl, subst, sym}
use Rattle.std.specs.Option.{option_copied}
use Rattle.std.proofs.lemmas.Iterator.Adapters.{YieldsList-from_vec}
use Rattle.std.proofs.lemmas.Iterator.Consumers.{YieldsList-end}
use Rattle.std.proofs.lemmas.List.{map-id}
use Rattle.std.specs.declared.cmp.Ordering.TheVariants.{Less}
use Rattle.jj_paths.specs.Paths.{path_cmp}
use Rattle.jj_filesets.specs.Selection.{IsSelected, none}
use Rattle.jj_filesets.proofs.Selecting.{selected-members}
use Rattle.jj_tree_files.specs.declared.changes.Change.{Change}
use Rattle.jj_history_commands.specs.FileSets.{IsInSet}
use Rattle.jj_history_commands.proofs.Selected.{pairs_selected, selected_step}
use Rattle.jj_history_commands.proofs.changes.changes_in.Goals as goal

pub loop-change-init : goal.loop-change-init
loop-change-init g c = subst (λ (l : List Change). IsSelected (λ change. IsInSet (option_copied c.args.files) change.path) [] l) (sym c.new-changes.ensures.items) none

pub loop-change-preserved : goal.loop-change-preserved
loop-change-preserved g c =
    selected_step (λ change. IsInSet (option_copied c.args.files) change.path) c.in-Some.change c.loop-change.yielded c.loop-change.changes.items c.push_selected.new.changes.items
    c.loop-change.invariant c.in_ok-push_selected.ensures

pub returns-clause-changes : goal.returns-clause-changes
returns-clause-changes g c = λ change.
    let all = c.in_ok-all.all in
    let gives = c.into_iter-change-iterator.ensures.into_iter_gives in
    let end = YieldsList-end (YieldsList-from_vec {s = c.into_iter-change-iterator.result} all.items gives.0 (gives.1 ∙ all.ok.0)) c.loop-change.yielded c.loop-change.change-iterator c.loop-change.yielded_by c.next.result c.next.new.self c.in-None.is c.next.ensures.steps in
    let whole : c.loop-change.yielded ≡ all.items = sym (map-id c.loop-change.yielded) ∙ end.0 in
    let selected = subst (λ (l : List Change). IsSelected (λ it. IsInSet (option_copied c.args.files) it.path) l c.loop-change.changes.items) whole c.loop-change.invariant in
    let members = selected-members (λ it. IsInSet (option_copied c.args.files) it.path) all.items c.loop-change.changes.items selected change in
    let differs = c.in_ok-all.ensures.changes change in (
      (λ h. let listed = members.0 h in let is = differs.0 listed.0 in (is.0, is.1, is.2, listed.1)),
      (λ h. members.1 (differs.1 (h.0, h.1, h.2, refl), h.3)),
    )

pub returns-clause-ascending : goal.returns-clause-ascending
returns-clause-ascending g c =
    let all = c.in_ok-all.all in
    let gives = c.into_iter-change-iterator.ensures.into_iter_gives in
    let end = YieldsList-end (YieldsList-from_vec {s = c.into_iter-change-iterator.result} all.items gives.0 (gives.1 ∙ all.ok.0)) c.loop-change.yielded c.loop-change.change-iterator c.loop-change.yielded_by c.next.result c.next.new.self c.in-None.is c.next.ensures.steps in
    let whole : c.loop-change.yielded ≡ all.items = sym (map-id c.loop-change.yielded) ∙ end.0 in
    pairs_selected (λ it. IsInSet (option_copied c.args.files) it.path) (λ (a b : Change). path_cmp a.path b.path ≡ Less)
    (subst (λ (l : List Change). IsSelected (λ it. IsInSet (option_copied c.args.files) it.path) l c.loop-change.changes.items) whole c.loop-change.invariant)
    c.in_ok-all.ensures.ascending

use Rattle.std.proofs.Common.{rules, inl, inr, ◌≡◌, ◌∙◌, ◌-◌, ◌++◌, ◌∷◌, ◌||◌, List, [], Some, ap, arith, is_some, map, sym, subst}
use Rattle.std.specs.List.Sorted.{IsStrictlySortedBy}
use Rattle.std.proofs.lemmas.List.{append-nil, append_assoc}
use Rattle.std.proofs.lemmas.Result.{err_from_is_err_and}
use Rattle.jj_paths.specs.Names.{name_of, path_of}
use Rattle.jj_paths.specs.Paths.{Name, name_cmp}
use Rattle.jj_paths.specs.declared.repo_path.RepoPathComponent.{RepoPathComponent}
use Rattle.jj_backend.specs.Trees.{Entries, value_at}
use Rattle.jj_matchers.specs.SortedVisits.{is_named}
use Rattle.jj_matchers.specs.Visits.{is_among, visit_spec}
use Rattle.jj_trees.specs.DirectoryMerges.{entries_of}
use Rattle.jj_tree_files.specs.Differences.{IsChangeBelow, IsEnteredChange, sides_of}
use Rattle.jj_tree_files.proofs.Walked.{passed_none, too_deep}
use Rattle.jj_tree_files.proofs.Differing.{AreChanges, ChangesPassed, IsRead, all_changes, both_read, change_fails_below, change_step, changes_of_directory, each_named, entry_changes, reached_here, side_fails}
use Rattle.jj_tree_files.proofs.changes.+list_changes.Goals as goal
use Rattle.jj_tree_files.proofs.changes.+list_changes.Goals.{in_default, in-Some-next+in_ok-list_changes+in-AllRecursively-1, in-Some-next+in_ok-list_changes+in-Specific+in-All-1, in-Some-next+in_ok-list_changes+in-Specific+in-Set-1}

pub loop-name-init : goal.loop-name-init
loop-name-init g t c =
    let m = c.args.matcher.now in
    let trees = (g.B.Backend.objects c.args.backend.now).trees in
    record {
      ordered = subst (IsStrictlySortedBy (λ a b. name_cmp (name_of a) (name_of b))) (sym c.into_iter-name-iterator.ensures.into_iter_gives.0) c.into_iter-name-iterator.ensures.into_iter_gives.4;
      named = λ name. ap (λ (l : List RepoPathComponent). is_named l name) c.into_iter-name-iterator.ensures.into_iter_gives.0 ∙ c.in_ok-names.ensures name
          ∙ ap (λ (l : Entries). is_among (map (λ e. e.0) l) name || is_among (map (λ e. e.0) c.in_ok-after.after) name) c.in_ok-before.ensures.entries
          ∙ ap (λ (l : Entries). is_among (map (λ e. e.0) (entries_of trees c.args.pair.now.before)) name || is_among (map (λ e. e.0) l) name) c.in_ok-after.ensures.entries;
      passed = passed_none (IsChangeBelow trees (g.M.Matcher.accepts m) (path_of c.args.dir) c.args.pair.now.before c.args.pair.now.after)
          (IsRead trees (g.M.Matcher.accepts m) (g.M.Matcher.visits m) (g.B.Backend.may_read_tree c.args.backend.now) (path_of c.args.dir) c.args.pair.now.before c.args.pair.now.after)
          (path_of c.args.dir) (map sides_of c.args.changes.now.items);
    }

pub returns-then-levels-eq0-clause-error : goal.returns-then-levels-eq0-clause-error
returns-then-levels-eq0-clause-error g t c =
    let m = c.args.matcher.now in
    let trees = (g.B.Backend.objects c.args.backend.now).trees in
    let pair = c.args.pair.now in
    too_deep trees (g.B.Backend.may_read_tree c.args.backend.now) (IsEnteredChange trees (g.M.Matcher.visits m) (path_of c.args.dir) pair.before pair.after) (path_of c.args.dir) (g.B.Backend.may_fail c.args.backend.now) c.requires.changed.id
    (reached_here trees (g.M.Matcher.accepts m) (g.M.Matcher.visits m) (g.B.Backend.may_read_tree c.args.backend.now) (path_of c.args.dir) (g.M.Matcher.opens m) (visit_spec c.args.visit.now) c.requires.visit c.requires.entered pair c.requires.changed c.requires.changed.id c.requires.changed.tree)
    c.args.levels (omega arith) _ c.too_deep_error.ensures

pub returns-in_err-before-clause-error : goal.returns-in_err-before-clause-error
returns-in_err-before-clause-error g t c =
    let m = c.args.matcher.now in
    let trees = (g.B.Backend.objects c.args.backend.now).trees in
    let pair = c.args.pair.now in
    let p = err_from_is_err_and c.from_residual.result c.from_residual.ensures.1 in
    rw (p.1, p.2)
    (side_fails trees (g.B.Backend.may_read_tree c.args.backend.now) (IsEnteredChange trees (g.M.Matcher.visits m) (path_of c.args.dir) pair.before pair.after) (path_of c.args.dir) (g.B.Backend.may_fail c.args.backend.now) pair.before _
    (λ id is. reached_here trees (g.M.Matcher.accepts m) (g.M.Matcher.visits m) (g.B.Backend.may_read_tree c.args.backend.now) (path_of c.args.dir) (g.M.Matcher.opens m) (visit_spec c.args.visit.now) c.requires.visit c.requires.entered pair c.requires.changed id (inl is))
    c.args.levels c.in_err-before.ensures.error)

pub returns-in_err-after-clause-error : goal.returns-in_err-after-clause-error
returns-in_err-after-clause-error g t c =
    let m = c.args.matcher.now in
    let trees = (g.B.Backend.objects c.args.backend.now).trees in
    let pair = c.args.pair.now in
    let p = err_from_is_err_and c.from_residual-in_err-after.result c.from_residual-in_err-after.ensures.1 in
    rw (p.1, p.2)
    (side_fails trees (g.B.Backend.may_read_tree c.args.backend.now) (IsEnteredChange trees (g.M.Matcher.visits m) (path_of c.args.dir) pair.before pair.after) (path_of c.args.dir) (g.B.Backend.may_fail c.args.backend.now) pair.after _
    (λ id is. reached_here trees (g.M.Matcher.accepts m) (g.M.Matcher.visits m) (g.B.Backend.may_read_tree c.args.backend.now) (path_of c.args.dir) (g.M.Matcher.opens m) (visit_spec c.args.visit.now) c.requires.visit c.requires.entered pair c.requires.changed id (inr is))
    c.args.levels c.in_err-after.ensures.error)

pub returns-in_err-list_changes-clause-error : goal.returns-in_err-list_changes-clause-error
returns-in_err-list_changes-clause-error g t c =
    let m = c.args.matcher.now in
    let trees = (g.B.Backend.objects c.args.backend.now).trees in
    let pair = c.args.pair.now in
    let key = c.in-Some.name in
    let next = (rw c.in-Some-next.is at c.in_ok-next.ensures.subdirectory).0 in
    let below = c.in-Some-next.below.pair in
    let p = err_from_is_err_and c.from_residual-in_err-list_changes.result c.from_residual-in_err-list_changes.ensures.1 in
    rw (p.1, p.2)
    (change_fails_below trees (g.M.Matcher.accepts m) (g.M.Matcher.visits m) (g.B.Backend.may_read_tree c.args.backend.now) (path_of c.args.dir) pair.before pair.after (name_of key) (g.B.Backend.may_fail c.args.backend.now)
    (path_of c.as_path-path.result) c.in_ok-owned.owned below.before below.after c.args.levels (c.args.levels - 1) _
    (c.as_path-path.ensures ∙ next.at) c.in_ok-owned.ensures
    (ap (λ v. v.before) next.values ∙ c.in_ok-entries.ensures.0 ∙ ap (λ (l : Entries). value_at l (name_of key)) c.in_ok-before.ensures.entries)
    (ap (λ v. v.after) next.values ∙ c.in_ok-entries.ensures.1 ∙ ap (λ (l : Entries). value_at l (name_of key)) c.in_ok-after.ensures.entries)
    (omega arith) c.in_err-list_changes.ensures.error)

pub loop-name-preserved : goal.loop-name-preserved
loop-name-preserved g t c =
    let m = c.args.matcher.now in
    let trees = (g.B.Backend.objects c.args.backend.now).trees in
    let accepts = g.M.Matcher.accepts m in
    let visits = g.M.Matcher.visits m in
    let reads = g.B.Backend.may_read_tree c.args.backend.now in
    let dir = path_of c.args.dir in
    let pair = c.args.pair.now in
    let entries = c.in_ok-entries.entries in
    let old = c.args.changes.now.items in
    let mid = c.loop-name.changes.items in
    let done = c.loop-name.yielded in
    let key = c.in-Some.name in
    let left = c.next.new.self in
    let at = dir ++ c.in_ok-owned.owned ∷ [] in
    let next : c.loop-name.name-iterator ≡ key ∷ left = search rules in
    let whole : (done ++ key ∷ []) ++ left ≡ done ++ c.loop-name.name-iterator = append_assoc done (key ∷ []) left ∙ ap (λ (l : List RepoPathComponent). done ++ l) (sym next) in
    let ordered : IsStrictlySortedBy (λ (a b : RepoPathComponent). name_cmp (name_of a) (name_of b)) (done ++ key ∷ left)
    = subst (λ (l : List RepoPathComponent). IsStrictlySortedBy (λ (a b : RepoPathComponent). name_cmp (name_of a) (name_of b)) (done ++ l)) next c.loop-name.invariant.ordered in
    let step = change_step trees accepts visits reads dir pair.before pair.after done left key ordered c.in_ok-owned.owned entries.before entries.after old mid in
    let first = c.in_ok-entries.ensures.0 ∙ ap (λ (l : Entries). value_at l (name_of key)) c.in_ok-before.ensures.entries in
    let second = c.in_ok-entries.ensures.1 ∙ ap (λ (l : Entries). value_at l (name_of key)) c.in_ok-after.ensures.entries in
    record {
      ordered = subst (IsStrictlySortedBy (λ a b. name_cmp (name_of a) (name_of b))) (sym whole) c.loop-name.invariant.ordered;
      named = λ name. ap (λ (l : List RepoPathComponent). is_named l name) whole ∙ c.loop-name.invariant.named name;
      passed = elim c.match-next-2.branch [
        | in_default w ↦
            rw w.changes-is
            (step c.list_change.new.changes.items c.in_ok-owned.ensures first second c.loop-name.invariant.passed
            (entry_changes trees accepts visits reads at entries.before entries.after mid c.list_change.new.changes.items (c.in_ok-next.ensures.listed (ap is_some w.in_default.is) trees)))
        | in-Some-next+in_ok-list_changes+in-AllRecursively-1 w ↦
            let found = rw w.in-Some-next.is at c.in_ok-next.ensures.subdirectory in
            rw w.changes-is
            (step w.list_changes.new.changes.items c.in_ok-owned.ensures first second c.loop-name.invariant.passed
            (changes_of_directory trees accepts visits reads at (path_of w.as_path-path.result) entries w.in-Some-next.below.pair mid c.list_change.new.changes.items w.list_changes.new.changes.items
            (w.as_path-path.ensures ∙ found.0.at) found.0.values (found.1 trees) w.in_ok-list_changes.ensures.listed))
        | in-Some-next+in_ok-list_changes+in-Specific+in-All-1 w ↦
            let found = rw w.in-Some-next.is at c.in_ok-next.ensures.subdirectory in
            rw w.changes-is
            (step w.list_changes.new.changes.items c.in_ok-owned.ensures first second c.loop-name.invariant.passed
            (changes_of_directory trees accepts visits reads at (path_of w.as_path-path.result) entries w.in-Some-next.below.pair mid c.list_change.new.changes.items w.list_changes.new.changes.items
            (w.as_path-path.ensures ∙ found.0.at) found.0.values (found.1 trees) w.in_ok-list_changes.ensures.listed))
        | in-Some-next+in_ok-list_changes+in-Specific+in-Set-1 w ↦
            let found = rw w.in-Some-next.is at c.in_ok-next.ensures.subdirectory in
            rw w.changes-is
            (step w.list_changes.new.changes.items c.in_ok-owned.ensures first second c.loop-name.invariant.passed
            (changes_of_directory trees accepts visits reads at (path_of w.as_path-path.result) entries w.in-Some-next.below.pair mid c.list_change.new.changes.items w.list_changes.new.changes.items
            (w.as_path-path.ensures ∙ found.0.at) found.0.values (found.1 trees) w.in_ok-list_changes.ensures.listed))
      ];
    }

pub returns-clause-listed : goal.returns-clause-listed
returns-clause-listed g t c =
    let m = c.args.matcher.now in
    let trees = (g.B.Backend.objects c.args.backend.now).trees in
    let accepts = g.M.Matcher.accepts m in
    let visits = g.M.Matcher.visits m in
    let reads = g.B.Backend.may_read_tree c.args.backend.now in
    let dir = path_of c.args.dir in
    let pair = c.args.pair.now in
    let done = c.loop-name.yielded in
    let whole : done ++ c.loop-name.name-iterator ≡ done = search rules in
    all_changes trees accepts visits reads dir pair.before pair.after (map name_of done)
    (each_named trees pair.before pair.after done (λ name.
    sym (ap (λ (l : List RepoPathComponent). is_named l name) whole) ∙ c.loop-name.invariant.named name))
    (both_read trees accepts visits reads dir pair.before pair.after c.in_ok-before.ensures.read c.in_ok-after.ensures.read)
    c.args.changes.now.items c.loop-name.changes.items c.loop-name.invariant.passed

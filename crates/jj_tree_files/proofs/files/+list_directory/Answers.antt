use Rattle.std.proofs.Common.{rules, ◌≡◌, ◌∙◌, ◌-◌, ◌++◌, ◌∷◌, [], Some, ap, arith, is_some, map, sym, subst}
use Rattle.std.proofs.lemmas.List.{append-nil, append_assoc, map-append}
use Rattle.std.proofs.lemmas.Option.{same_Some}
use Rattle.std.proofs.lemmas.Result.{err_from_is_err_and}
use Rattle.jj_paths.specs.Names.{path_of}
use Rattle.jj_backend.specs.Trees.{Entries, entry_of, entries_left}
use Rattle.jj_backend.specs.declared.backend.tree_value.TreeValue.TheVariants.{Tree}
use Rattle.jj_matchers.specs.Visits.{visit_spec}
use Rattle.jj_tree_files.specs.Listings.{IsFileBelow}
use Rattle.jj_tree_files.specs.Walks.{IsEntered}
use Rattle.jj_tree_files.proofs.Walked.{fails_here, passed_none, too_deep}
use Rattle.jj_tree_files.proofs.Listed.{FilesPassed, IsRead, all_passed, entered_here, entry_files, entry_step, error_below, names_of, subdirectory_files}
use Rattle.jj_tree_files.proofs.files.+list_directory.Goals as goal
use Rattle.jj_tree_files.proofs.files.+list_directory.Goals.{in_default, in-Some-next+in_ok-list_directory+in-AllRecursively-1, in-Some-next+in_ok-list_directory+in-Specific+in-All-1, in-Some-next+in_ok-list_directory+in-Specific+in-Set-1}

pub loop-entry-init : goal.loop-entry-init
loop-entry-init g t c =
    let m = c.args.matcher.now in
    let trees = (g.B.Backend.objects c.args.backend.now).trees in
    record {
      whole = search rules;
      passed = passed_none (IsFileBelow trees (g.M.Matcher.accepts m) (path_of c.args.dir) (Some (Tree c.args.id.now)))
          (IsRead trees (g.M.Matcher.accepts m) (g.M.Matcher.visits m) (g.B.Backend.may_read_tree c.args.backend.now) (path_of c.args.dir) (Some (Tree c.args.id.now)))
          (path_of c.args.dir) c.args.files.now.items;
    }

pub returns-then-levels-eq0-clause-error : goal.returns-then-levels-eq0-clause-error
returns-then-levels-eq0-clause-error g t c =
    let m = c.args.matcher.now in
    let trees = (g.B.Backend.objects c.args.backend.now).trees in
    too_deep trees (g.B.Backend.may_read_tree c.args.backend.now) (IsEntered trees (g.M.Matcher.visits m) (path_of c.args.dir) (Some (Tree c.args.id.now))) (path_of c.args.dir) (g.B.Backend.may_fail c.args.backend.now) c.args.id.now
    (entered_here trees (g.M.Matcher.accepts m) (g.M.Matcher.visits m) (g.B.Backend.may_read_tree c.args.backend.now) (g.M.Matcher.opens m) (path_of c.args.dir) c.args.id.now (visit_spec c.args.visit.now) c.requires.visit c.requires.entered)
    c.args.levels (omega arith) _ c.too_deep_error.ensures

pub returns-in_err-tree-clause-error : goal.returns-in_err-tree-clause-error
returns-in_err-tree-clause-error g t c =
    let m = c.args.matcher.now in
    let trees = (g.B.Backend.objects c.args.backend.now).trees in
    let p = err_from_is_err_and c.from_residual.result c.from_residual.ensures.1 in
    rw (p.1, p.2)
    (fails_here trees (g.B.Backend.may_read_tree c.args.backend.now) (IsEntered trees (g.M.Matcher.visits m) (path_of c.args.dir) (Some (Tree c.args.id.now))) (path_of c.args.dir) (g.B.Backend.may_fail c.args.backend.now) c.args.id.now
    (entered_here trees (g.M.Matcher.accepts m) (g.M.Matcher.visits m) (g.B.Backend.may_read_tree c.args.backend.now) (g.M.Matcher.opens m) (path_of c.args.dir) c.args.id.now (visit_spec c.args.visit.now) c.requires.visit c.requires.entered)
    c.args.levels _ c.in_err-tree.ensures.at_path c.in_err-tree.ensures.value)

pub returns-in_err-list_directory-clause-error : goal.returns-in_err-list_directory-clause-error
returns-in_err-list_directory-clause-error g t c =
    let m = c.args.matcher.now in
    let trees = (g.B.Backend.objects c.args.backend.now).trees in
    let xs = map entry_of c.loop-entry.yielded in
    let e = entry_of c.in-Some.entry in
    let next = (rw c.in-Some-next.is at c.in_ok-next.ensures.subdirectory).0 in
    let p = err_from_is_err_and c.from_residual-in_err-list_directory.result c.from_residual-in_err-list_directory.ensures.1 in
    rw (p.1, p.2)
    (error_below trees (g.M.Matcher.accepts m) (g.M.Matcher.visits m) (g.B.Backend.may_read_tree c.args.backend.now) (path_of c.args.dir) c.args.id.now xs (entries_left c.next.new.self) c.in_ok-tree.tree e
    c.in_ok-tree.ensures.value (ap (λ (l : Entries). xs ++ l) (sym c.in-Some.ensures.steps) ∙ same_Some (xs ++ entries_left c.loop-entry.entry-iterator) c.in_ok-tree.tree (sym c.loop-entry.invariant.whole ∙ c.in_ok-tree.ensures.value)) c.entries-entry-items.ensures.ascending
    (g.B.Backend.may_fail c.args.backend.now) (path_of c.as_path-path.result) c.in-Some-next.below.id c.args.levels (c.args.levels - 1) _
    (c.as_path-path.ensures ∙ next.at ∙ ap (λ n. path_of c.args.dir ++ n ∷ []) (c.in_ok-name.ensures ∙ c.name.ensures)) (sym c.value.ensures ∙ next.tree) (omega arith)
    c.in_err-list_directory.ensures.error)

pub loop-entry-preserved : goal.loop-entry-preserved
loop-entry-preserved g t c =
    let m = c.args.matcher.now in
    let trees = (g.B.Backend.objects c.args.backend.now).trees in
    let reads = g.B.Backend.may_read_tree c.args.backend.now in
    let dir = path_of c.args.dir in
    let old = c.args.files.now.items in
    let mid = c.loop-entry.files.items in
    let xs = map entry_of c.loop-entry.yielded in
    let e = entry_of c.in-Some.entry in
    let rest = entries_left c.next.new.self in
    let more : map entry_of (c.loop-entry.yielded ++ c.in-Some.entry ∷ []) ≡ xs ++ e ∷ [] = map-append entry_of c.loop-entry.yielded (c.in-Some.entry ∷ []) in
    let whole : xs ++ e ∷ rest ≡ c.in_ok-tree.tree = ap (λ (l : Entries). xs ++ l) (sym c.in-Some.ensures.steps) ∙ same_Some (xs ++ entries_left c.loop-entry.entry-iterator) c.in_ok-tree.tree (sym c.loop-entry.invariant.whole ∙ c.in_ok-tree.ensures.value) in
    let step = entry_step trees (g.M.Matcher.accepts m) (g.M.Matcher.visits m) reads dir c.args.id.now xs rest c.in_ok-tree.tree e c.in_ok-tree.ensures.value whole c.entries-entry-items.ensures.ascending
    c.in_ok-name.name c.value.result.now old mid in
    record {
      whole = c.in_ok-tree.ensures.value ∙ ap Some (sym (ap (λ (l : Entries). l ++ rest) more ∙ append_assoc xs (e ∷ []) rest ∙ whole));
      passed = elim c.match-next-2.branch [
        | in_default w ↦
            rw w.files-is
            (subst (λ l. FilesPassed trees (g.M.Matcher.accepts m) (g.M.Matcher.visits m) reads dir (Some (Tree c.args.id.now)) (names_of l) old c.list_entry.new.files.items) (sym more)
            (step c.list_entry.new.files.items (c.in_ok-name.ensures ∙ c.name.ensures) c.value.ensures c.loop-entry.invariant.passed
            (entry_files trees (g.M.Matcher.accepts m) (g.M.Matcher.visits m) reads (dir ++ c.in_ok-name.name ∷ []) (Some c.value.result.now) mid c.list_entry.new.files.items (c.in_ok-next.ensures.listed (ap is_some w.in_default.is) trees))))
        | in-Some-next+in_ok-list_directory+in-AllRecursively-1 w ↦
            let next = rw w.in-Some-next.is at c.in_ok-next.ensures.subdirectory in
            rw w.files-is
            (subst (λ l. FilesPassed trees (g.M.Matcher.accepts m) (g.M.Matcher.visits m) reads dir (Some (Tree c.args.id.now)) (names_of l) old w.list_directory.new.files.items) (sym more)
            (step w.list_directory.new.files.items (c.in_ok-name.ensures ∙ c.name.ensures) c.value.ensures c.loop-entry.invariant.passed
            (subdirectory_files trees (g.M.Matcher.accepts m) (g.M.Matcher.visits m) reads (path_of w.as_path-path.result) (dir ++ c.in_ok-name.name ∷ []) w.in-Some-next.below.id c.value.result.now c.list_entry.new.files.items mid w.list_directory.new.files.items
            (w.as_path-path.ensures ∙ next.0.at) next.0.tree next.1 w.in_ok-list_directory.ensures.listed)))
        | in-Some-next+in_ok-list_directory+in-Specific+in-All-1 w ↦
            let next = rw w.in-Some-next.is at c.in_ok-next.ensures.subdirectory in
            rw w.files-is
            (subst (λ l. FilesPassed trees (g.M.Matcher.accepts m) (g.M.Matcher.visits m) reads dir (Some (Tree c.args.id.now)) (names_of l) old w.list_directory.new.files.items) (sym more)
            (step w.list_directory.new.files.items (c.in_ok-name.ensures ∙ c.name.ensures) c.value.ensures c.loop-entry.invariant.passed
            (subdirectory_files trees (g.M.Matcher.accepts m) (g.M.Matcher.visits m) reads (path_of w.as_path-path.result) (dir ++ c.in_ok-name.name ∷ []) w.in-Some-next.below.id c.value.result.now c.list_entry.new.files.items mid w.list_directory.new.files.items
            (w.as_path-path.ensures ∙ next.0.at) next.0.tree next.1 w.in_ok-list_directory.ensures.listed)))
        | in-Some-next+in_ok-list_directory+in-Specific+in-Set-1 w ↦
            let next = rw w.in-Some-next.is at c.in_ok-next.ensures.subdirectory in
            rw w.files-is
            (subst (λ l. FilesPassed trees (g.M.Matcher.accepts m) (g.M.Matcher.visits m) reads dir (Some (Tree c.args.id.now)) (names_of l) old w.list_directory.new.files.items) (sym more)
            (step w.list_directory.new.files.items (c.in_ok-name.ensures ∙ c.name.ensures) c.value.ensures c.loop-entry.invariant.passed
            (subdirectory_files trees (g.M.Matcher.accepts m) (g.M.Matcher.visits m) reads (path_of w.as_path-path.result) (dir ++ c.in_ok-name.name ∷ []) w.in-Some-next.below.id c.value.result.now c.list_entry.new.files.items mid w.list_directory.new.files.items
            (w.as_path-path.ensures ∙ next.0.at) next.0.tree next.1 w.in_ok-list_directory.ensures.listed)))
      ];
    }

pub returns-clause-listed : goal.returns-clause-listed
returns-clause-listed g t c =
    let m = c.args.matcher.now in
    let trees = (g.B.Backend.objects c.args.backend.now).trees in
    let reads = g.B.Backend.may_read_tree c.args.backend.now in
    let xs = map entry_of c.loop-entry.yielded in
    let whole : xs ≡ c.in_ok-tree.tree = sym (append-nil xs) ∙ ap (λ (l : Entries). xs ++ l) (sym c.in-None.ensures.steps.0) ∙ same_Some (xs ++ entries_left c.loop-entry.entry-iterator) c.in_ok-tree.tree (sym c.loop-entry.invariant.whole ∙ c.in_ok-tree.ensures.value) in
    all_passed trees (g.M.Matcher.accepts m) (g.M.Matcher.visits m) reads (path_of c.args.dir) c.args.id.now c.in_ok-tree.tree c.args.files.now.items c.loop-entry.files.items c.in_ok-tree.ensures.value c.in_ok-tree.ensures.at_path
    (subst (λ l. FilesPassed trees (g.M.Matcher.accepts m) (g.M.Matcher.visits m) reads (path_of c.args.dir) (Some (Tree c.args.id.now)) (names_of l) c.args.files.now.items c.loop-entry.files.items) whole c.loop-entry.invariant.passed)

use Rattle.std.proofs.Common.{◌≡◌, ◌∷◌, ◌++◌, [], length, map, ap, sym, subst, ◌∙◌, ◌<◌, List, arith}
use Rattle.std.proofs.lemmas.List.{length-append}
use Rattle.jj_paths.specs.Names.{name_of, path_of}
use Rattle.jj_matchers.specs.Walk.{path_if}
use Rattle.jj_matchers.specs.MarkWalkInvariants.{DecidesFile, IsOnWay, WalkedMarks, top}
use Rattle.jj_matchers.specs.declared.matchers.mark_walk.OpenDirectory.{OpenDirectory}
use Rattle.jj_matchers.proofs.MarkWalks.{visited, walked_root, way_to_next}
use Rattle.jj_matchers.proofs.matchers.mark_walk.visit_mark.Goals as goal

pub returns-in_default : goal.returns-in_default
returns-in_default g c = λ done follows walked.
    walked_root (g.M.Matcher.accepts c.args.matcher.now) (g.M.Matcher.opens c.args.matcher.now) (g.M.Matcher.visits c.args.matcher.now) done
    (map path_of c.args.walk.now.files.items) (map path_of c.args.walk.now.entered.items) c.args.stack.now.items (path_of c.args.mark) c.in_default.ensures walked

pub returns : goal.returns
returns g c = λ done follows walked.
    let A = g.M.Matcher.accepts c.args.matcher.now in
    let O = g.M.Matcher.opens c.args.matcher.now in
    let V = g.M.Matcher.visits c.args.matcher.now in
    let above = path_of c.in-Some.above in
    let name = name_of c.in-Some.name in
    let path = path_of c.args.mark in
    let whole : path ≡ above ++ name ∷ [] = c.in-Some.ensures in
    let files = map path_of c.args.walk.now.files.items in
    let entered = map path_of c.args.walk.now.entered.items in
    let cut = c.close_others.ensures in
    let way = way_to_next A O V done files entered c.args.stack.now.items c.close_others.new.stack.items walked above name path whole cut follows in
    let rooted = c.in_ok-open_root.ensures.opened done path (omega (arith, ap length whole, length-append above (name ∷ []))) way in
    let base = c.in_ok-open_root.ensures.above above cut.above in
    let down = c.in_ok-open_down.ensures.opened done name base.0 base.1 (subst (λ q. IsOnWay A O V done q (map path_of c.open_root.new.walk.entered.items) c.open_root.new.stack.items) whole rooted) in
    let stack = c.open_down.new.stack.items in
    let same_files : map path_of c.open_down.new.walk.files.items ≡ files = ap (map path_of) (c.in_ok-open_down.ensures.files ∙ c.in_ok-open_root.ensures.files) in
    let new_files = map path_of c.push_file.new.walk.files.items in
    let adds : 0 < length stack → ((d : OpenDirectory) → DecidesFile A O path name (top stack d)) → new_files ≡ files ++ path_if (A path) path =
    λ some decides.
    subst (λ (l : List OpenDirectory). 0 < length l → ((d : OpenDirectory) → DecidesFile A O path name (top l d)) → new_files ≡ map path_of c.open_down.new.walk.files.items ++ path_if (A path) path) c.deref.ensures.value c.in_ok-push_file.ensures.files some decides
    ∙ ap (λ l. l ++ path_if (A path) path) same_files in
    subst (λ l. WalkedMarks A O V (done ++ path ∷ []) new_files l stack) (sym (ap (map path_of) c.in_ok-push_file.ensures.entered))
    (visited A O V done files new_files entered (map path_of c.open_down.new.walk.entered.items) c.args.stack.now.items stack above name path whole follows walked down.0 down.1 adds)

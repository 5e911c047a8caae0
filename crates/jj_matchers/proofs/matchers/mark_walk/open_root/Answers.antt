use Rattle.std.proofs.Common.{◌≡◌, length, map, take, ap, sym, ◌∙◌, arith}
use Rattle.std.proofs.lemmas.Bool.{eqb-true}
use Rattle.jj_paths.specs.Names.{path_of}
use Rattle.jj_matchers.specs.SortedVisits.{sorted_visit_spec}
use Rattle.jj_matchers.specs.MarkWalkInvariants.{IsClosed}
use Rattle.jj_matchers.proofs.MarkWalks.{pushes_next, root_above, root_opened}
use Rattle.jj_matchers.proofs.matchers.mark_walk.open_root.Goals as goal

pub returns-in_ok-open_directory-clause-opened : goal.returns-in_ok-open_directory-clause-opened
returns-in_ok-open_directory-clause-opened g c = λ done path some way.
    let A = g.M.Matcher.accepts c.args.matcher.now in
    let O = g.M.Matcher.opens c.args.matcher.now in
    let V = g.M.Matcher.visits c.args.matcher.now in
    let stack = c.args.stack.now.items in
    let none : length stack ≡ 0 = omega (arith, eqb-true _ _ (sym c.if-is_empty.ensures)) in
    let root = path_of c.root-then-is_empty.result in
    let pushed = c.in_ok-open_directory.ensures.pushed in
    pushes_next A O V done path (map path_of c.args.walk.now.entered.items) (map path_of c.open_directory.new.walk.entered.items) stack c.open_directory.new.stack.items root (sorted_visit_spec c.in_ok-visit.visit) pushed.0 pushed.1 pushed.2 pushed.3
    c.in_ok-open_directory.ensures.entered (λ (closed : IsClosed stack). omega (arith, closed.0, none)) (omega (arith, none, some)) (c.root-then-is_empty.ensures ∙ ap (λ k. take k path) (sym none))
    (root_opened A O V (sorted_visit_spec c.in_ok-visit.visit) root (path_of c.root.result) c.root-then-is_empty.ensures c.in_ok-visit.ensures.sound c.root.ensures c.in_ok-visit.ensures.visit) way

pub returns-in_ok-open_directory-clause-above : goal.returns-in_ok-open_directory-clause-above
returns-in_ok-open_directory-clause-above g c = λ path at.
    let pushed = c.in_ok-open_directory.ensures.pushed in
    root_above c.args.stack.now.items c.open_directory.new.stack.items pushed.0 (omega (arith, eqb-true _ _ (sym c.if-is_empty.ensures))) pushed.3 (pushed.1 ∙ c.root-then-is_empty.ensures) path

use Rattle.std.proofs.Common.{◌≡◌, inl, inr, Some, ◌-◌, ◌∷◌, ◌++◌, [], length, map, subst, sym, ◌∙◌, ap, take, List, arith}
use Rattle.std.specs.List.{slice_get}
use Rattle.jj_paths.specs.Names.{name_of, path_of}
use Rattle.jj_matchers.specs.SortedVisits.{sorted_visit_spec}
use Rattle.jj_matchers.specs.WalkInvariants.{DeterminesWalk}
use Rattle.jj_matchers.specs.MarkWalkInvariants.{IsClosed, IsNextDirectory, IsOnWay, dir_of}
use Rattle.jj_matchers.specs.declared.matchers.mark_walk.OpenDirectory.{OpenDirectory}
use Rattle.jj_matchers.proofs.MarkWalks.{got, grows_by_one, not_closed, pushes_next}
use Rattle.jj_matchers.proofs.matchers.mark_walk.open_child.Goals as goal

pub returns-clause-opened : goal.returns-clause-opened
returns-clause-opened g c = λ done path some next way.
    let A = g.M.Matcher.accepts c.args.matcher.now in
    let O = g.M.Matcher.opens c.args.matcher.now in
    let V = g.M.Matcher.visits c.args.matcher.now in
    let stack = c.args.stack.now.items in
    let new = c.open_directory.new.stack.items in
    let parent = c.in-Some.parent.now in
    let last : Some parent ≡ slice_get stack (length stack - 1) = subst (λ (l : List OpenDirectory). Some parent ≡ slice_get l (length l - 1)) c.deref.ensures.value c.in-Some.ensures.value in
    let more : IsClosed stack → ⊥ = not_closed stack parent last c.if-is_nothing.ensures.1 in
    let pushed = c.in_ok-open_directory.ensures.pushed in
    let longer = grows_by_one stack new pushed.0 pushed.3 in
    let open_next : (after : IsNextDirectory path (length stack) (path_of c.args.dir) (name_of c.args.name)) → IsOnWay A O V done path (map path_of c.open_directory.new.walk.entered.items) new =
    λ after.
    let at : dir_of parent ≡ take (length stack - 1) path = ap dir_of (got stack (length stack - 1) parent parent last) ∙ way.to.chain (length stack - 1) parent (omega (arith, some)) in
    let known = subst (λ (o : OpenDirectory). DeterminesWalk A O V (dir_of o) (sorted_visit_spec o.visit)) (sym (got stack (length stack - 1) parent parent last)) (way.to.valid (length stack - 1) parent (omega (arith, some))) in
    pushes_next A O V done path (map path_of c.args.walk.now.entered.items) (map path_of c.open_directory.new.walk.entered.items) stack new (path_of c.args.dir) (sorted_visit_spec c.in_ok-visit.visit) pushed.0 pushed.1 pushed.2 pushed.3
    c.in_ok-open_directory.ensures.entered more after.below after.is
    (c.in_ok-visit.ensures (dir_of parent) (after.ends ∙ ap (λ q. q ++ name_of c.args.name ∷ []) (sym at)) known) way in
    (omega (arith, longer), (λ closed. absurd (more closed)), inr longer, elim next [ inl closed ↦ absurd (more closed) | inr after ↦ open_next after ])

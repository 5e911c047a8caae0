use Rattle.std.proofs.Common.{◌∷◌, ◌++◌, [], length, map, refl, subst, ◌∙◌, ◌⊎◌, ◌<◌, List, arith}
use Rattle.jj_paths.specs.Names.{path_of}
use Rattle.jj_paths.specs.declared.repo_path.RepoPath.{RepoPath}
use Rattle.jj_paths.specs.declared.repo_path.RepoPathComponent.{RepoPathComponent}
use Rattle.jj_matchers.specs.MarkWalkInvariants.{IsAtOrAbove, IsClosed, IsListedDown, dir_of, top}
use Rattle.jj_matchers.specs.declared.matchers.mark_walk.OpenDirectory.{OpenDirectory}
use Rattle.jj_matchers.proofs.MarkWalkLists.{opening_done, opening_first, opening_next, next_directory}
use Rattle.jj_matchers.proofs.matchers.mark_walk.open_down.Goals as goal

pub loop-dir-init : goal.loop-dir-init
loop-dir-init g c = record {
  files = refl;
  opening = λ done name some at way.
      let A = g.M.Matcher.accepts c.args.matcher.now in
      let O = g.M.Matcher.opens c.args.matcher.now in
      let V = g.M.Matcher.visits c.args.matcher.now in
      let stack = c.args.stack.now.items in
      let path = path_of c.args.path in
      let pending = c.in_ok-pending.pending.items in
      let listed : IsClosed stack ⊎ ((d : OpenDirectory) → IsListedDown path (length (dir_of (top stack d))) pending) =
      subst (λ (l : List OpenDirectory). 0 < length l → IsAtOrAbove path l → IsClosed l ⊎ ((d : OpenDirectory) → IsListedDown path (length (dir_of (top l d))) pending)) c.deref.ensures.value c.in_ok-pending.ensures some at in
      opening_first A O V done path name (map path_of c.args.walk.now.entered.items) stack pending way some listed;
}

pub loop-dir-preserved : goal.loop-dir-preserved
loop-dir-preserved g c = record {
  files = c.in_ok-open_child.ensures.files ∙ c.loop-dir.invariant.files;
  opening = λ done name some at way.
      let A = g.M.Matcher.accepts c.args.matcher.now in
      let O = g.M.Matcher.opens c.args.matcher.now in
      let V = g.M.Matcher.visits c.args.matcher.now in
      let path = path_of c.args.path in
      let x : RepoPath × RepoPathComponent = (c.in-Some.dir, c.in-Some.name) in
      let old = c.loop-dir.invariant.opening done name some at way in
      let entered = map path_of c.loop-dir.walk.entered.items in
      let next = next_directory A O V done path name entered c.loop-dir.stack.items c.loop-dir.pending.items c.pop.new.self.items x c.in-Some.ensures.items old in
      let step = c.in_ok-open_child.ensures.opened done (path ++ name ∷ []) old.some next old.way in
      opening_next A O V done path name entered c.loop-dir.stack.items c.loop-dir.pending.items c.pop.new.self.items x c.in-Some.ensures.items old
      (map path_of c.open_child.new.walk.entered.items) c.open_child.new.stack.items step.0 step.1 step.2 step.3;
}

pub returns-clause-opened : goal.returns-clause-opened
returns-clause-opened g c = λ done name some at way.
    let A = g.M.Matcher.accepts c.args.matcher.now in
    let O = g.M.Matcher.opens c.args.matcher.now in
    let V = g.M.Matcher.visits c.args.matcher.now in
    opening_done A O V done (path_of c.args.path) name (map path_of c.loop-dir.walk.entered.items) c.loop-dir.stack.items c.loop-dir.pending.items (omega (arith, c.in_default.ensures.cases.0)) (c.loop-dir.invariant.opening done name some at way)

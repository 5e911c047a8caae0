use Rattle.std.proofs.Common.{◌∙◌, ◌+◌, ◌∷◌, [], ℕ, List, Bool, ap, length, map, subst, sym, take}
use Rattle.std.specs.Prelude.{IsTrue, ◌↔◌}
use Rattle.std.proofs.lemmas.List.{length-append, take_all}
use Rattle.jj_paths.specs.Names.{path_of}
use Rattle.jj_paths.specs.Paths.{Path}
use Rattle.jj_filesets.specs.SyntaxTrees.{IsIn}
use Rattle.jj_core_c.specs.FilesetResults.{AreMembers}
use Rattle.jj_core_c.proofs.Flags.{mapped_next}
use Rattle.jj_core_c.proofs.filesets.members.Goals as goal

pub loop-path-preserved : goal.loop-path-preserved
loop-path-preserved c =
    let index = c.loop-path.path-index in
    let flags = c.loop-path.flags.items in
    let set = c.args.set.now in
    let path = c.path-item.result in
    let flag = c.in_ok-flag.flag in
    let more = c.in_ok-push.ensures.items in
    let here = subst (λ f. IsTrue flag ↔ IsIn set (path_of f)) c.path-item.is c.in_ok-flag.ensures in
    record {
      found = subst (λ (l : List Bool). AreMembers set (map path_of (take (index + 1) c.args.paths.now)) l) (sym more)
          (mapped_next (λ (p : Path) (b : Bool). IsTrue b ↔ IsIn set p) path_of c.args.paths.now index path flags flag c.loop-path-test.true here c.loop-path.invariant.found);
      len = ap length more ∙ length-append flags (flag ∷ []) ∙ ap (λ (n : ℕ). n + 1) c.loop-path.invariant.len;
    }

pub returns-clause-members : goal.returns-clause-members
returns-clause-members c = subst (λ l. AreMembers c.args.set.now (map path_of l) c.loop-path.flags.items) (take_all c.loop-path.path-index c.args.paths.now c.loop-path-test.false) c.loop-path.invariant.found

use Rattle.std.proofs.Common.{◌≡◌, ◌∙◌, ◌+◌, ◌∷◌, [], ℕ, List, Bool, true, ap, length, map, subst, sym, take}
use Rattle.std.specs.Prelude.{IsTrue, ◌↔◌, Contains}
use Rattle.std.proofs.lemmas.List.{length-append}
use Rattle.jj_paths.specs.Names.{path_of}
use Rattle.jj_paths.specs.Paths.{Path}
use Rattle.jj_matchers.specs.PathLists.{is_listed}
use Rattle.jj_core_c.specs.TreeWalks.{AreContained}
use Rattle.jj_core_c.proofs.Flags.{mapped_next}
use Rattle.jj_core_c.proofs.tree_walks.found_flags.Goals as goal

pub loop-file-preserved : goal.loop-file-preserved
loop-file-preserved c =
    let index = c.loop-file.file-index in
    let flags = c.loop-file.flags.items in
    let found = c.args.found.now in
    let file = c.file-item.result in
    let flag = c.matches.result in
    let more = c.in_ok-push.ensures.items in
    let found_is : map path_of c.deref.result.now ≡ found = ap (map path_of) c.deref.ensures.value ∙ c.in_ok-found.ensures in
    let listed = subst (λ (l : List Path). (is_listed c.in_ok-set.set (path_of file) ≡ true) ↔ Contains l (path_of file)) found_is (c.in_ok-set.ensures.accepts (path_of file)) in
    let told = subst (λ (b : Bool). IsTrue b ↔ Contains found (path_of file)) (sym c.matches.ensures) listed in
    let here = subst (λ f. IsTrue flag ↔ Contains found (path_of f)) c.file-item.is told in
    record {
      flags = subst (λ (l : List Bool). AreContained found (map path_of (take (index + 1) c.args.files.now)) l) (sym more)
          (mapped_next (λ (p : Path) (b : Bool). IsTrue b ↔ Contains found p) path_of c.args.files.now index file flags flag c.loop-file-test.true here c.loop-file.invariant.flags);
      len = ap length more ∙ length-append flags (flag ∷ []) ∙ ap (λ (n : ℕ). n + 1) c.loop-file.invariant.len;
    }

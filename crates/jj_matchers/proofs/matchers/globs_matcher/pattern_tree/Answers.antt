use Rattle.std.proofs.Common.{◌≡◌, ◌+◌, ◌-◌, ◌≤◌, ap, sym, subst, map, take, drop, length, All, arith}
use Rattle.std.specs.List.{list_any}
use Rattle.std.proofs.lemmas.List.{take_all, length-drop}
use Rattle.std.proofs.Math.Seq.{take-add}
use Rattle.jj_paths.specs.Names.{path_of}
use Rattle.jj_matchers.specs.PatternTree.{IsPatternTree, AddsGlobs}
use Rattle.jj_matchers.proofs.PatternTrees.{bare_tree, bare_leads}
use Rattle.jj_matchers.proofs.PatternAdds.{pattern_tree-more}
use Rattle.jj_matchers.proofs.matchers.globs_matcher.pattern_tree.Goals as goal

pub loop-dir-init : goal.loop-dir-init
loop-dir-init c = record {
  tree = record {
    globs = λ dir test. ap (list_any test) (bare_tree _ c.default-tree.ensures.value c.default-tree.ensures.alone dir);
    leads = bare_leads _ c.default-tree.ensures.alone;
  };
  in_range = omega arith;
}

pub loop-dir-preserved : goal.loop-dir-preserved
loop-dir-preserved c =
    let patterns = c.args.patterns.now in
    let start = c.loop-dir.start in
    let count = c.run_length.result in
    let dir = path_of c.in-Some.dir in
    let left : length (drop start patterns) ≡ length patterns - start = length-drop start patterns in
    let whole : take (length patterns - start) (drop start patterns) ≡ drop start patterns = take_all (length patterns - start) (drop start patterns) (omega (arith, left)) in
    let fits : count ≤ length (drop start patterns) = subst (λ ps. count ≤ length ps) whole c.run_length.ensures.in_range in
    let same = subst (λ ps. All (λ p. path_of p.0 ≡ dir) (take count ps)) whole c.run_length.ensures.same in
    let width : start + count - start ≡ count = omega arith in
    let adds = subst (λ n. AddsGlobs c.loop-dir.tree dir (map (λ p. p.1.now) (take n (drop start patterns))) c.add_patterns.new.tree) width c.in_ok-add_patterns.ensures in
    record {
      tree = subst (λ ps. IsPatternTree (map (λ p. (path_of p.0, p.1.now)) ps) c.add_patterns.new.tree) (sym (take-add start count patterns))
          (pattern_tree-more (λ p. (path_of p.0, p.1.now)) (take start patterns) (take count (drop start patterns)) c.loop-dir.tree c.add_patterns.new.tree dir same c.loop-dir.invariant.tree adds);
      in_range = omega (arith, fits, left, c.loop-dir.invariant.in_range);
    }

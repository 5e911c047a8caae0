use Rattle.std.proofs.Common.{◌≡◌, ◌∙◌, ◌++◌, ap, map, Result, Ok, Err, IfOk, true, List, [], ◌∷◌, length, ◌<◌, arith, refl}
use Rattle.std.proofs.lemmas.List.{take_all}
use Rattle.jj_paths.specs.Names.{path_of}
use Rattle.jj_globs.specs.GlobMeaning.{GlobSpec}
use Rattle.jj_matchers.specs.PatternTree.{has_globs, globs_at}
use Rattle.jj_matchers.proofs.PatternAdds.{adds-set}
use Rattle.jj_matchers.proofs.matchers.globs_matcher.add_patterns.Goals as goal

if_ok : {T E : Type 0} (r : Result T E) (A C : Type 0) → IfOk r (λ done. A) → (A → C) → IfOk r (λ done. C)
if_ok (Ok done) A C m f = f m
if_ok (Err e) A C m f = tt

some : {X : Type 0} (f : X → GlobSpec) (xs : List X) → 0 < length xs → has_globs (map f xs) ≡ true
some f [] below = let clash : 0 < 0 = below in absurd (omega (arith, clash))
some f (x ∷ xs) below = refl

pub returns : goal.returns
returns c =
    let patterns = c.args.patterns.now in
    let old = c.args.tree.now in
    let dir = path_of c.args.dir in
    let globs = map (λ p. p.1.now) patterns in
    let all : c.loop-pattern.all ≡ globs_at old dir ++ globs = c.loop-pattern.invariant ∙ ap (λ ps. globs_at old dir ++ map (λ p. p.1.now) ps) (take_all c.loop-pattern.pattern-index patterns c.loop-pattern-test.false) in
    if_ok c.set.result _ _ c.set.ensures.as_map (adds-set old c.set.new.self dir globs c.loop-pattern.all all (some (λ p. p.1.now) patterns c.requires))

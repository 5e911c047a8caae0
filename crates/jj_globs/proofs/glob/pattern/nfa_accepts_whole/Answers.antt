use Rattle.std.proofs.Common.{◌≡◌, ◌∙◌, Bool, true, false, List, sym, ap, refl, reverse, drop, arith}
use Rattle.std.proofs.lemmas.List.{take_rest}
use Rattle.jj_globs.specs.declared.glob.step.Step.{Step}
use Rattle.jj_globs.specs.GlobNfa.{accepts_from}
use Rattle.jj_globs.specs.GlobSuffix.{matches_reversed}
use Rattle.jj_globs.proofs.LiteralSuffix.{literal_fits}
use Rattle.jj_globs.proofs.glob.pattern.nfa_accepts_whole.Goals as goal

-- byte strings without the literal suffix are not accepted
same_false : (answer fit : Bool) → fit ≡ false → (answer ≡ true → fit ≡ true) → fit ≡ answer
same_false true fit unfit fits = fits refl
same_false false fit unfit fits = unfit

pub returns-else-ends_with_literals : goal.returns-else-ends_with_literals
returns-else-ends_with_literals c =
    let o = c.args.options in
    let steps = c.args.steps.now in
    let bytes = c.args.bytes.now in
    let literals = ap (λ (l : List Step). matches_reversed o (reverse l) (reverse bytes)) (take_rest steps c.args.suffix_start) in
    let fit = c.ends_with_literals.ensures ∙ literals in
    fit ∙ same_false (accepts_from o false steps 0 bytes) (matches_reversed o (reverse (drop c.args.suffix_start steps)) (reverse bytes)) (sym fit ∙ c.if-ends_with_literals.false)
    (literal_fits o steps c.args.suffix_start c.requires.end 0 (omega arith) bytes)

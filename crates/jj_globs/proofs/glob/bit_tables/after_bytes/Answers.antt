use Rattle.std.proofs.Common.{◌∙◌, List, ap, sym, subst}
use Rattle.jj_globs.specs.declared.glob.step.Step.{Step}
use Rattle.jj_globs.specs.GlobNfa.{TargetsInRange}
use Rattle.jj_globs.specs.GlobTables.{after_bytes}
use Rattle.jj_globs.proofs.BitTables.{after_bytes-skip}
use Rattle.jj_globs.proofs.CompiledTokens.{inside_after}
use Rattle.jj_globs.proofs.glob.bit_tables.after_bytes.Goals as goal

pub loop-step-preserved : goal.loop-step-preserved
loop-step-preserved c =
    let split = c.in-Some.ensures.cases.0 in
    let step = c.in-Some.step.now in
    let after = c.in-Some.after.now in
    record {
      same = sym (after_bytes-skip step after (sym c.if-not-consumes_byte.ensures)) ∙ ap after_bytes (sym split) ∙ c.loop-step.invariant.same;
      inside = inside_after step after (subst (λ (ss : List Step). TargetsInRange ss) split c.loop-step.invariant.inside);
    }

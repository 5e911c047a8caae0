use Rattle.std.proofs.Common.{◌≡◌, ◌+◌, ◌∙◌, ◌∷◌, ◌<◌, ap, sym, refl, false, None, Some, List, length, arith, subst}
use Rattle.jj_globs.specs.declared.glob.step.Step.{Step}
use Rattle.jj_globs.specs.GlobNfa.{accepts_from, TargetsInRange}
use Rattle.jj_globs.specs.GlobTables.{after_bytes}
use Rattle.jj_globs.proofs.BitTables.{after_bytes-skip}
use Rattle.jj_globs.proofs.CompiledTokens.{inside_after}
use Rattle.jj_globs.proofs.StateTests.{at_step, later}
use Rattle.jj_globs.proofs.glob.pattern.nfa_accepts.Goals as goal

pub loop-step-preserved : goal.loop-step-preserved
loop-step-preserved c =
    let o = c.args.options in
    let step = c.in-Some.step.now in
    let after = c.in-Some.after.now in
    let split : c.loop-step.left.now ≡ step ∷ after = c.in-Some.ensures.cases.0 in
    let shorter : length after + 1 ≡ length c.loop-step.left.now = c.in-Some.ensures.cases.1 in
    let size : length c.loop-step.left.now < 1048576 = c.loop-step.invariant.size in
    let known = c.loop-step.invariant in
    let taken : accepts_from o c.args.below (step ∷ after) 0 c.loop-step.text.now
    ≡ accepts_from o c.args.below after 0 c.in-Some-taken.rest.now =
    at_step o c.args.below (step ∷ after) 0 step refl c.loop-step.text.now
    ∙ c.in-Some-consume_byte.ensures.same (accepts_from o c.args.below (step ∷ after)) 0
    ∙ ap (λ t. elim t [ None ↦ false | Some rest ↦ accepts_from o c.args.below (step ∷ after) (0 + 1) rest.now ])
    c.in-Some-taken.is
    ∙ later o c.args.below step after (0 + 1) 0 (omega arith) c.in-Some-taken.rest.now in
    record {
      same = known.same
          ∙ ap (λ (ss : List Step). accepts_from o c.args.below ss 0 c.loop-step.text.now) split ∙ taken;
      inside = inside_after step after (subst (λ (ss : List Step). TargetsInRange ss) split known.inside);
      size = omega (arith, shorter, size);
      rest = sym (after_bytes-skip step after c.in-Some-consume_byte.ensures.some) ∙ ap after_bytes (sym split) ∙ known.rest;
    }

pub returns-in_default-taken : goal.returns-in_default-taken
returns-in_default-taken c =
    let o = c.args.options in
    let step = c.in-Some.step.now in
    let after = c.in-Some.after.now in
    let text = c.loop-step.text.now in
    sym (c.loop-step.invariant.same ∙ ap (λ (ss : List Step). accepts_from o c.args.below ss 0 text) c.in-Some.ensures.cases.0
    ∙ at_step o c.args.below (step ∷ after) 0 step refl text
    ∙ c.in-Some-consume_byte.ensures.same (accepts_from o c.args.below (step ∷ after)) 0
    ∙ ap (λ t. elim t [ None ↦ false | Some rest ↦ accepts_from o c.args.below (step ∷ after) (0 + 1) rest.now ]) c.in_default-taken.is)

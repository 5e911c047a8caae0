use Rattle.std.proofs.Common.{◌≡◌, ◌⊎◌, ◌+◌, ◌<◌, ◌≤◌, ℕ, Some, inl, inr, sym, subst, arith}
use Rattle.std.specs.Prelude.{slice_get}
use Rattle.std.proofs.lemmas.Option.{slice_get_within}
use Rattle.jj_globs.specs.declared.glob.step.Step.{Step}
use Rattle.jj_globs.specs.GlobNfa.{max_offset}
use Rattle.jj_globs.specs.GlobSuffix.{IsLiteralStep}
use Rattle.jj_globs.proofs.glob.suffix.literal_suffix.Goals as goal

-- a literal byte leads to the next state
far_enough : (k state : ℕ) (s : Step) → k < state → IsLiteralStep s → k + 1 + max_offset s ≤ state
far_enough k state s lt (b, is) = subst (λ (x : Step). k + 1 + max_offset x ≤ state) (sym is) (omega (arith, lt))

pub returns : goal.returns
returns c =
    let steps = c.args.steps.now in
    let literal = c.loop-state.literal in
    let seen : (k : ℕ) (s : Step) → slice_get steps k ≡ Some s → IsLiteralStep s ⊎ (k + 1 + max_offset s ≤ literal) =
    λ k s e. c.loop-state.invariant.seen k s e (let here = slice_get_within steps k s e in let over = c.loop-state-test.false in omega (arith, here, over)) in
    record {
      within = c.loop-state.invariant.within;
      inside = λ k s e lt. elim (seen k s e) [ inl byte ↦ far_enough k literal s lt byte | inr far ↦ far ];
      bytes = λ k s e le. elim (seen k s e) [ inl byte ↦ byte | inr far ↦ absurd (omega (arith, le, far)) ];
    }

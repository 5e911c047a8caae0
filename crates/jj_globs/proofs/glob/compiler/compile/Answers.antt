use Rattle.std.proofs.Common.{rules, ◌≢◌, ◌++◌, ◌≡◌, ◌∙◌, [], List, sym, ap, subst, reverse}
use Rattle.std.proofs.lemmas.List.{nil_from_length}
use Rattle.jj_globs.specs.declared.glob.token.Token.{Token}
use Rattle.jj_globs.specs.declared.glob.step.Step.{Step}
use Rattle.jj_globs.specs.GlobBacktracking.{Tests, test_before}
use Rattle.jj_globs.specs.GlobNfa.{accepts_from, end_test, TargetsInRange}
use Rattle.jj_globs.specs.GlobCompilation.{EmitsToken}
use Rattle.jj_globs.specs.GlobTrie.{Word, any_word, group_tokens, EmitsTrie}
use Rattle.jj_globs.proofs.Tries.{lower_words, over_group, over_append}
use Rattle.jj_globs.proofs.CompiledTokens.{lower_token, inside_token, lowered_end, tests_over, tests_over-end, tests_over-last, nothing_inside}
use Rattle.jj_globs.proofs.glob.compiler.compile.Goals as goal

pub loop-token-init : goal.loop-token-init
loop-token-init c = record {
  lowered = λ below. (
    record { here = end_test below; outer = [] },
    rw (c.new-steps.ensures.items, c.new-groups.ensures.items) (lowered_end c.args.options below),
    tests_over-end c.args.options c.args.tokens.now (end_test below),
  );
  inside = rw c.new-steps.ensures.items nothing_inside;
}

pub loop-token-preserved : goal.loop-token-preserved
loop-token-preserved c =
    let same : c.emit_literal_group.new.steps.items ≡ c.loop-token.steps.items = search rules in
    let adds : EmitsToken c.args.options c.in-Some.token.now (reverse c.loop-token.steps.items) (reverse c.loop-token.groups.items)
    (reverse c.emit_token.new.steps.items) (reverse c.emit_token.new.groups.items) =
    subst (λ (ss : List Step). EmitsToken c.args.options c.in-Some.token.now (reverse ss) (reverse c.loop-token.groups.items)
    (reverse c.emit_token.new.steps.items) (reverse c.emit_token.new.groups.items)) same c.in_ok-emit_token.ensures in
    record {
      lowered = λ below.
          let known = c.loop-token.invariant.lowered below in (
            test_before c.args.options c.in-Some.token.now known.0,
            lower_token c.args.options below c.in-Some.token.now (reverse c.loop-token.steps.items) (reverse c.emit_token.new.steps.items)
                (reverse c.loop-token.groups.items) (reverse c.emit_token.new.groups.items) known.0 adds known.1,
            sym (tests_over-last c.args.options c.in-Some.before.now c.in-Some.token.now known.0)
                ∙ ap (λ (ks : List Token). tests_over c.args.options ks known.0) (sym c.in-Some.ensures.cases.0) ∙ known.2,
          );
      inside =
          inside_token c.args.options c.in-Some.token.now (reverse c.loop-token.steps.items) (reverse c.emit_token.new.steps.items)
          (reverse c.loop-token.groups.items) (reverse c.emit_token.new.groups.items) adds c.loop-token.invariant.inside;
    }

pub loop-token-preserved-in-Some-2 : goal.loop-token-preserved-in-Some-2
loop-token-preserved-in-Some-2 c =
    let o = c.args.options in
    let old = reverse c.loop-token.steps.items in
    let new = reverse c.emit_literal_group.new.steps.items in
    let outside = c.in-Some-2.outside.now in
    let found : (words : List Word) × (words ≢ []) × (c.loop-token.left.now ≡ outside ++ group_tokens words) × EmitsTrie words old new = search rules in
    let (words, some, split, adds) = found in
    record {
      lowered = λ below.
          let known = c.loop-token.invariant.lowered below in (
            record { here = any_word o words known.0.here; outer = known.0.outer },
            lower_words o below words old new (reverse c.loop-token.groups.items) known.0 adds known.1,
            ap (tests_over o outside) (sym (over_group o words known.0 some)) ∙ sym (over_append o outside (group_tokens words) known.0)
                ∙ ap (λ (ks : List Token). tests_over o ks known.0) (sym split) ∙ known.2,
          );
      inside = adds.inside c.loop-token.invariant.inside;
    }

pub returns : goal.returns
returns c =
    let empty = nil_from_length c.loop-token.left.now c.in_default.ensures.cases in
    let made : c.reverse.new.self.items ≡ reverse c.loop-token.steps.items = c.reverse.ensures.items in
    record {
      same = λ below bs.
          let known = c.loop-token.invariant.lowered below in
          let whole = ap (λ (ks : List Token). tests_over c.args.options ks known.0) (sym empty) ∙ known.2 in
          ap (λ (ss : List Step). accepts_from c.args.options below ss 0 bs) made ∙ known.1.here bs ∙ ap (λ (t : Tests). t.here bs) whole;
      inside = subst (λ (ss : List Step). TargetsInRange ss) (sym made) c.loop-token.invariant.inside;
    }

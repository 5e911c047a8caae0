use Rattle.std.proofs.Common.{◌≡◌, ◌∙◌, ◌++◌, ◌∷◌, [], sym, ap, arith, length, rules, of_calls, append_assoc, append-nil}
use Rattle.jj_merges.proofs.CallLaws.{CallsReturn-push, length-CallsReturn}
use Rattle.jj_merges.specs.Terms.{items}
use Rattle.jj_merges.proofs.StorageLaws.{is_merge_storage}
use Rattle.jj_merges.proofs.ImageCounts.{image_counts}
use Rattle.jj_merges.proofs.merge.termwise.map_remaining.Given.{F-step}
use Rattle.jj_merges.proofs.merge.termwise.map_remaining.Goals as goal

pub loop-term-preserved : goal.loop-term-preserved
loop-term-preserved g c =
    let now = c.loop-term.invariant in
    let before = now.0 in
    let seen = now.2.0 in
    let x = c.in-Some.term in (
      search (of_calls, before),
      c.in_ok-push.ensures.inline_has_one,
      (
        seen ++ x ∷ [],
        append_assoc seen (x ∷ []) _ ∙ (ap (λ l. seen ++ l) (sym c.in-Some.ensures.steps) ∙ now.2.1),
        rw c.in_ok-push.ensures.ok
            (CallsReturn-push (F-step g) c.args.f seen (items c.loop-term.termwise) c.loop-term.f x c.f.result c.f.new.self now.2.2 (search rules)),
      ),
    )

pub invariant_of-result : goal.invariant_of-result
invariant_of-result g c =
    let now = c.loop-term.invariant.2 in
    let long = length-CallsReturn (F-step g) _ _ _ _ now.2 in
    let all : now.0 ≡ c.args.terms.now = sym (append-nil now.0) ∙ (ap (λ l. now.0 ++ l) (sym c.in_default.ensures.steps.0) ∙ now.1) in
    is_merge_storage c.loop-term.termwise c.loop-term.invariant.1 (omega (arith, long, ap length all, c.requires.odd))

pub returns : goal.returns
returns g c =
    let now = c.loop-term.invariant.2 in
    let all : now.0 ≡ c.args.terms.now = sym (append-nil now.0) ∙ (ap (λ l. now.0 ++ l) (sym c.in_default.ensures.steps.0) ∙ now.1) in
    record {
      termwise = (c.loop-term.f, rw (← all) now.2);
      counts = rw (← all) (image_counts (F-step g) c.args.f c.loop-term.f now.0 (items c.loop-term.termwise) now.2);
    }

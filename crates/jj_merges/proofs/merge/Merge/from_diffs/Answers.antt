use Rattle.std.proofs.Common.{rules, ◌≡◌, ◌∙◌, ◌∷◌, ◌++◌, [], ap, sym, arith, length, length-append}
use Rattle.jj_merges.specs.Terms.{items}
use Rattle.jj_merges.proofs.DiffTerms.{diff_terms_push}
use Rattle.jj_merges.specs.Sources.{diff_terms}
use Rattle.jj_merges.specs.Merge.{signed_count}
use Rattle.jj_merges.proofs.DerivedCounts.{diffs_counts}
use Rattle.jj_merges.proofs.merge.Merge.from_diffs.Goals as goal

pub loop-diff-preserved : goal.loop-diff-preserved
loop-diff-preserved g c =
    let now = c.loop-diff.invariant in
    let d = c.in-Some.diff in
    let both : items c.push_pair.new.self ≡ items c.loop-diff.terms ++ d.before ∷ d.after ∷ [] = c.in_ok-push_pair.ensures.ok in (
      c.in_ok-push_pair.ensures.inline_has_one,
      omega (arith, ap length both, length-append (items c.loop-diff.terms) (d.before ∷ d.after ∷ []), now.1),
      both ∙ (ap (λ xs. xs ++ d.before ∷ d.after ∷ []) now.2 ∙ sym (ap (λ xs. c.args.first_side ∷ xs) (diff_terms_push c.loop-diff.yielded d))),
    )

pub returns : goal.returns
returns g c =
    let ds = c.loop-diff.yielded in
    let all : items c.loop-diff.terms ≡ c.args.first_side ∷ diff_terms ds = c.loop-diff.invariant.2 in (
      c.into_iter-diff-iterator.result,
      ds,
      c.into_iter-diff-iterator.ensures.into_iter_gives,
      search rules,
      all,
      λ eq v. ap (λ m. signed_count eq m v) all ∙ diffs_counts c.args.first_side ds eq v,
    )

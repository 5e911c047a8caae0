use Rattle.std.proofs.Common.{◌≡◌, ◌∙◌, ◌+◌, ◌++◌, ◌∷◌, ap, arith, length, refl, take, drop, subst, of_calls, Ok, Err, inl}
use Rattle.std.specs.Fn.{CalledAt}
use Rattle.std.proofs.lemmas.List.{take_more, take_all}
use Rattle.jj_merges.specs.Calls.{StopsAtFailure}
use Rattle.jj_merges.specs.Terms.{items}
use Rattle.jj_merges.proofs.CallLaws.{CallsReturn-push, length-CallsReturn, StopsAtFailure-at, split_at}
use Rattle.jj_merges.proofs.StorageLaws.{is_merge_storage}
use Rattle.jj_merges.proofs.ImageCounts.{image_counts}
use Rattle.jj_merges.proofs.merge.Merge.try_map.Goals as goal

pub loop-term-preserved : goal.loop-term-preserved
loop-term-preserved g c =
    let xs = c.as_slice-values.result.now in
    let i = c.loop-term.term-index in
    let before = c.loop-term.invariant.0 in (
      search (of_calls, before),
      c.in_ok-push-in-Ok.ensures.inline_has_one,
      rw (take_more xs i c.term-item.result c.loop-term-test.true, c.in_ok-push-in-Ok.ensures.ok, ← c.term-item.is)
          (CallsReturn-push (λ f x y next. CalledAt g.F.FnMut f x (Ok y) next) c.args.f (take i xs) (items c.loop-term.termwise) c.loop-term.f c.term-item.result c.in-Ok.image c.f.new.self c.loop-term.invariant.2 (record { shown = _; shows = refl; called = c.in-Ok.ensures })),
    )

pub invariant_of-result : goal.invariant_of-result
invariant_of-result g c =
    let n = length-CallsReturn (λ f x y next. CalledAt g.F.FnMut f x (Ok y) next) _ _ _ _ c.loop-term.invariant.2 in
    let all = ap length (take_all c.loop-term.term-index c.as_slice-values.result.now (omega arith)) in
    is_merge_storage c.loop-term.termwise c.loop-term.invariant.1
    (omega (arith, n, all, ap length c.as_slice-values.ensures.terms, c.as_slice-values.ensures.odd))

pub returns-in-Err-clause-error : goal.returns-in-Err-clause-error
returns-in-Err-clause-error g c =
    let xs = c.as_slice-values.result.now in
    let i = c.loop-term.term-index in
    let x = c.term-item.result in
    let whole : take i xs ++ (x ∷ drop (i + 1) xs) ≡ c.args.self.now = split_at xs i x c.loop-term-test.true c.term-item.is ∙ c.as_slice-values.ensures.terms in
    inl (subst (λ ys. StopsAtFailure (λ f x y next. CalledAt g.F.FnMut f x (Ok y) next) (λ f x. (last : _) × CalledAt g.F.FnMut f x (Err c.in-Err.error) last) c.args.f ys) whole
    (StopsAtFailure-at (λ f x y next. CalledAt g.F.FnMut f x (Ok y) next) (λ f x. (last : _) × CalledAt g.F.FnMut f x (Err c.in-Err.error) last) c.args.f (take i xs) (items c.loop-term.termwise) c.loop-term.f x (drop (i + 1) xs) c.loop-term.invariant.2 (c.f.new.self, record { shown = _; shows = refl; called = c.in-Err.ensures })))

pub returns-clause-termwise : goal.returns-clause-termwise
returns-clause-termwise g c =
    let all = take_all c.loop-term.term-index c.as_slice-values.result.now (omega arith) in
    (c.loop-term.f, rw (← c.as_slice-values.ensures.terms, ← all) c.loop-term.invariant.2)

pub returns-clause-counts : goal.returns-clause-counts
returns-clause-counts g c =
    let all = take_all c.loop-term.term-index c.as_slice-values.result.now (omega arith) in
    rw (← c.as_slice-values.ensures.terms, ← all)
    (image_counts (λ f x y next. CalledAt g.F.FnMut f x (Ok y) next) c.args.f c.loop-term.f _ (items c.loop-term.termwise) c.loop-term.invariant.2)

pub loop-term-init : goal.loop-term-init
loop-term-init g c =
    let before = c.requires in
    (search (of_calls, before), c.in_ok-termwise.ensures.1, rw c.in_ok-termwise.ensures.0 refl)

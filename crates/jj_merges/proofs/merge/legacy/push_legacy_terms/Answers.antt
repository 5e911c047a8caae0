use Rattle.std.proofs.Common.{◌∙◌, ◌%◌, ◌++◌, ◌∷◌, [], sym, ap, length, append_assoc}
use Rattle.std.specs.Prelude.{Some, None}
use Rattle.std.specs.Iterator.{Drains}
use Rattle.jj_merges.specs.Legacy.{legacy_pairs}
use Rattle.jj_merges.specs.Terms.{items}
use Rattle.jj_merges.proofs.StorageLaws.{is_merge_storage}
use Rattle.jj_merges.proofs.IteratorRuns.{Drains-loop, HasYielded-first}
use Rattle.jj_merges.proofs.LegacyTerms.{legacy_pairs-push, odd_legacy_terms}
use Rattle.jj_merges.proofs.LegacyLoop.{LegacyInvariant-start, LegacyInvariant-more, LegacyInvariant-ended, LegacyInvariant-short, LegacyInvariant-long}
use Rattle.jj_merges.proofs.merge.legacy.push_legacy_terms.Goals as goal

pub loop-remove-init : goal.loop-remove-init
loop-remove-init g c =
    let first = HasYielded-first g.A.Iterator.next_gives g.A.Iterator.can_next g.A.Iterator.remaining c.args.adds c.requires.adds_end c.next-add.result c.next-add.new.self c.next-add.ensures.steps c.next-add.ensures.goes in
    (c.requires.empty.1, LegacyInvariant-start g.A.Iterator.next_gives g.A.Iterator.can_next g.A.Iterator.remaining c.args.adds (items c.args.terms.now) c.next-add.result c.next-add.new.self c.requires.empty.0 first)

pub loop-remove-preserved-then-has_more : goal.loop-remove-preserved-then-has_more
loop-remove-preserved-then-has_more g c = (
  c.in_ok-push_pair.ensures.inline_has_one,
  LegacyInvariant-more g.A.Iterator.next_gives g.A.Iterator.can_next g.A.Iterator.remaining c.args.adds c.loop-remove.adds c.loop-remove.add c.loop-remove.yielded (items c.loop-remove.terms) c.in-Some.remove (items c.push_pair.new.self) c.next-then-has_more.result c.next-then-has_more.new.self (sym c.is_some-has_more.ensures ∙ c.if-has_more.true) c.loop-remove.invariant.1
      c.in_ok-push_pair.ensures.ok
      c.next-then-has_more.ensures.steps c.next-then-has_more.ensures.goes,
)

pub loop-remove-preserved : goal.loop-remove-preserved
loop-remove-preserved g c = (
  c.in_ok-push_pair.ensures.inline_has_one,
  LegacyInvariant-ended g.A.Iterator.next_gives g.A.Iterator.can_next g.A.Iterator.remaining c.args.adds c.loop-remove.adds c.loop-remove.add c.loop-remove.yielded (items c.loop-remove.terms) c.in-Some.remove (items c.push_pair.new.self) c.loop-remove.adds (sym c.is_some-has_more.ensures ∙ c.if-has_more.false) c.loop-remove.invariant.1
      c.in_ok-push_pair.ensures.ok,
)

pub returns-then-not-has_more : goal.returns-then-not-has_more
returns-then-not-has_more g c =
    let all : Drains g.R.Iterator.next_gives c.args.removes c.loop-remove.yielded =
    Drains-loop g.R.Iterator.next_gives _ _ _ _ _ c.into_iter-remove-iterator.ensures.into_iter_gives c.loop-remove.yielded_by c.in-None.ensures.steps in
    let short = LegacyInvariant-short g.A.Iterator.next_gives g.A.Iterator.can_next g.A.Iterator.remaining c.args.adds c.loop-remove.adds c.loop-remove.add c.loop-remove.yielded (items c.loop-remove.terms) (items c.push.new.self) (sym c.is_some-has_more-2.ensures ∙ c.if-not-has_more.true) c.loop-remove.invariant.1 c.in_ok-push.ensures.ok in
    record {
      terms = (c.loop-remove.yielded, short.0, all, short.1, short.2);
      is_merge_storage = is_merge_storage c.push.new.self c.in_ok-push.ensures.inline_has_one (ap (λ ts. length ts % 2) short.2 ∙ odd_legacy_terms c.loop-remove.yielded short.0);
    }

pub loop-add-preserved : goal.loop-add-preserved
loop-add-preserved g c = (
  c.in_ok-push_pair-2.ensures.inline_has_one,
  c.in_ok-push_pair-2.ensures.ok
      ∙ (ap (λ ts. ts ++ None ∷ Some c.in-Some-add.add ∷ []) c.loop-add.invariant.1
      ∙ (append_assoc (items c.push.new.self) (legacy_pairs [] c.loop-add.yielded) (None ∷ Some c.in-Some-add.add ∷ [])
      ∙ ap (λ ts. items c.push.new.self ++ ts) (sym (legacy_pairs-push c.loop-add.yielded c.in-Some-add.add)))),
)

pub returns : goal.returns
returns g c =
    let all : Drains g.R.Iterator.next_gives c.args.removes c.loop-remove.yielded =
    Drains-loop g.R.Iterator.next_gives _ _ _ _ _ c.into_iter-remove-iterator.ensures.into_iter_gives c.loop-remove.yielded_by c.in-None.ensures.steps in
    let rest = Drains-loop g.A.Iterator.next_gives c.loop-remove.adds _ _ _ c.loop-add.yielded c.into_iter-add-iterator.ensures.into_iter_gives c.loop-add.yielded_by c.in-None-add.ensures.steps in
    let long = LegacyInvariant-long g.A.Iterator.next_gives g.A.Iterator.can_next g.A.Iterator.remaining c.args.adds c.loop-remove.adds c.loop-remove.add c.loop-remove.yielded (items c.loop-remove.terms) (items c.push.new.self) c.loop-add.yielded (items c.loop-add.terms) (sym c.is_some-has_more-2.ensures ∙ c.if-not-has_more.false) c.loop-remove.invariant.1 c.in_ok-push.ensures.ok rest c.loop-add.invariant.1 in
    record {
      terms = (c.loop-remove.yielded, long.0, all, long.1, long.2);
      is_merge_storage = is_merge_storage c.loop-add.terms c.loop-add.invariant.0 (ap (λ ts. length ts % 2) long.2 ∙ odd_legacy_terms c.loop-remove.yielded long.0);
    }

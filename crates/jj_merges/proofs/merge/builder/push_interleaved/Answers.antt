use Rattle.std.proofs.Common.{◌∷◌, [], List, sym, ap, subst, arith, length, length-append}
use Rattle.std.specs.Iterator.{Drains}
use Rattle.jj_merges.specs.Terms.{items}
use Rattle.jj_merges.proofs.StorageLaws.{is_merge_storage}
use Rattle.jj_merges.proofs.IteratorRuns.{Drains-loop, HasYielded-first, InterleaveInvariant-start, InterleaveInvariant-more, InterleaveInvariant-end, even_terms}
use Rattle.jj_merges.proofs.merge.builder.push_interleaved.Goals as goal

pub loop-remove-init : goal.loop-remove-init
loop-remove-init g c =
    let first = HasYielded-first g.A.Iterator.next_gives g.A.Iterator.can_next g.A.Iterator.remaining c.args.adds c.requires.adds_end c.next-add.result c.next-add.new.self c.next-add.ensures.steps c.next-add.ensures.goes in
    (c.requires.empty.1, InterleaveInvariant-start g.A.Iterator.next_gives g.A.Iterator.can_next g.A.Iterator.remaining c.args.adds (items c.args.terms.now) c.next-add.result c.next-add.new.self c.requires.empty.0 first)

pub loop-remove-preserved-in-Some-add : goal.loop-remove-preserved-in-Some-add
loop-remove-preserved-in-Some-add g c =
    let now = rw c.in-Some-add.is at c.loop-remove.invariant in (
      c.in_ok-push_pair.ensures.inline_has_one,
      InterleaveInvariant-more g.A.Iterator.next_gives g.A.Iterator.can_next g.A.Iterator.remaining c.args.adds c.loop-remove.adds c.in-Some-add.value c.loop-remove.yielded (items c.loop-remove.terms) c.in-Some.remove (items c.push_pair.new.self) c.next-add-in-Some-add.result c.next-add-in-Some-add.new.self now.1
          c.in_ok-push_pair.ensures.ok c.next-add-in-Some-add.ensures.steps c.next-add-in-Some-add.ensures.goes,
    )

pub unreachable-requires : goal.unreachable-requires
unreachable-requires g c =
    let now = rw c.in-None-add.is at c.loop-remove.invariant in
    let all : Drains g.R.Iterator.next_gives c.args.removes c.loop-remove.yielded =
    Drains-loop g.R.Iterator.next_gives _ _ _ _ _ c.into_iter-remove-iterator.ensures.into_iter_gives c.loop-remove.yielded_by c.in-None.ensures.steps in
    omega (arith, c.requires.one_more c.loop-remove.yielded now.1.0 all now.1.1, now.1.2)

pub returns : goal.returns
returns g c =
    let all : Drains g.R.Iterator.next_gives c.args.removes c.loop-remove.yielded =
    Drains-loop g.R.Iterator.next_gives _ _ _ _ _ c.into_iter-remove-iterator.ensures.into_iter_gives c.loop-remove.yielded_by c.in-None.ensures.steps in
    let now = rw c.in-Some-add-2.is at c.loop-remove.invariant in
    let rest = Drains-loop g.A.Iterator.next_gives c.loop-remove.adds _ _ _ c.loop-none.yielded c.into_iter-none-iterator.ensures.into_iter_gives c.loop-none.yielded_by c.in-None-_none.ensures.steps in
    let both = InterleaveInvariant-end g.A.Iterator.next_gives g.A.Iterator.can_next g.A.Iterator.remaining c.args.adds c.loop-remove.adds c.in-Some-add-2.value c.loop-remove.yielded (items c.loop-remove.terms) (items c.push.new.self) c.loop-none.yielded now.1 c.in_ok-push-in-Some-add-2.ensures.ok rest
    (λ ys came. c.requires.one_more c.loop-remove.yielded ys all came) in
    record {
      removes = subst (λ (xs : List g.row.T.Denot). Drains g.R.Iterator.next_gives c.args.removes xs) (sym both.1) all;
      adds = both.0;
      is_merge_storage = is_merge_storage c.push.new.self c.in_ok-push-in-Some-add-2.ensures.inline_has_one
          (omega (arith, ap length c.in_ok-push-in-Some-add-2.ensures.ok, length-append (items c.loop-remove.terms) (c.in-Some-add-2.value ∷ []), even_terms c.loop-remove.yielded (items c.loop-remove.terms) now.1.1 now.1.2));
    }

use Rattle.std.proofs.Common.{◌++◌, sym, ap, ◌∙◌, length, arith}
use Rattle.std.specs.Map.Iter.{deref_pair}
use Rattle.std.specs.Vec.Iter.{into_iter_items}
use Rattle.jj_content.specs.Content.{entry_content}
use Rattle.jj_content.proofs.AbsorbedPrefixes.{split_more, mapped_absorbed, mapped_prefix, mapped_whole, mapped_values, mapped_all, all_yielded, on_err_from}
use Rattle.jj_content.proofs.content_hash.hash_pairs.Goals as goal

pub returns-in_err-hash_both-clause-err : goal.returns-in_err-hash_both-clause-err
returns-in_err-hash_both-clause-err g c =
    let step = rw c.in-Some.is at c.next.ensures.steps in
    let left = into_iter_items c.next.new.self in
    on_err_from c.from_residual.result
    (mapped_prefix g.D.DigestUpdate.absorbed deref_pair (entry_content g.K.ContentHash.content g.V.ContentHash.content) c.args.state.now c.loop-key.state c.hash_both.new.state (into_iter_items c.args.pairs) c.loop-key.yielded c.loop-key.invariant.taken
    left (c.in-Some.key, c.in-Some.value) (ap (λ z. c.loop-key.yielded ++ z) (sym step.0) ∙ c.loop-key.invariant.split) c.in_err-hash_both.ensures.err)

pub loop-key-preserved : goal.loop-key-preserved
loop-key-preserved g c =
    let step = rw c.in-Some.is at c.next.ensures.steps in
    let left = into_iter_items c.next.new.self in
    let split = ap (λ z. c.loop-key.yielded ++ z) (sym step.0) ∙ c.loop-key.invariant.split in
    record {
      can = tt;
      ends = tt;
      split = split_more deref_pair (into_iter_items c.args.pairs) c.loop-key.yielded left (c.in-Some.key, c.in-Some.value) split;
      len = omega (arith, c.loop-key.invariant.len, step.1, ap length step.0);
      taken = mapped_absorbed g.D.DigestUpdate.absorbed deref_pair (entry_content g.K.ContentHash.content g.V.ContentHash.content) c.args.state.now c.loop-key.state c.hash_both.new.state (into_iter_items c.args.pairs) c.loop-key.yielded c.loop-key.invariant.taken
          (c.in-Some.key, c.in-Some.value) c.in_ok-hash_both.ensures.ok;
      values = mapped_values deref_pair (λ e. g.K.ContentHash.is_value e.0 × g.V.ContentHash.is_value e.1) c.loop-key.yielded c.loop-key.invariant.values (c.in-Some.key, c.in-Some.value) c.in_ok-hash_both.ensures.value;
    }

pub returns-clause-ok : goal.returns-clause-ok
returns-clause-ok g c =
    let step = rw c.in-None.is at c.next.ensures.steps in
    mapped_whole g.D.DigestUpdate.absorbed deref_pair (entry_content g.K.ContentHash.content g.V.ContentHash.content) c.args.state.now c.loop-key.state c.loop-key.state (into_iter_items c.args.pairs) c.loop-key.yielded c.loop-key.invariant.taken
    (all_yielded (into_iter_items c.args.pairs) c.loop-key.yielded (into_iter_items c.loop-key.key-iterator) c.loop-key.invariant.split (omega (arith, c.loop-key.invariant.len, step.0)))

pub returns-clause-value : goal.returns-clause-value
returns-clause-value g c =
    let step = rw c.in-None.is at c.next.ensures.steps in
    mapped_all deref_pair (λ e. g.K.ContentHash.is_value e.0 × g.V.ContentHash.is_value e.1) c.loop-key.yielded c.loop-key.invariant.values (into_iter_items c.args.pairs)
    (all_yielded (into_iter_items c.args.pairs) c.loop-key.yielded (into_iter_items c.loop-key.key-iterator) c.loop-key.invariant.split (omega (arith, c.loop-key.invariant.len, step.0)))
    (omega arith)

use Rattle.std.proofs.Common.{◌++◌, sym, ap, ◌∙◌, length, arith}
use Rattle.std.specs.Map.Iter.{deref}
use Rattle.std.specs.Vec.Iter.{into_iter_items}
use Rattle.jj_content.proofs.AbsorbedPrefixes.{split_more, mapped_absorbed, mapped_prefix, mapped_whole, mapped_values, mapped_all, all_yielded, on_err_from}
use Rattle.jj_content.proofs.content_hash.hash_members.Goals as goal

pub returns-in_err-hash-clause-err : goal.returns-in_err-hash-clause-err
returns-in_err-hash-clause-err g c =
    let step = rw c.in-Some.is at c.next.ensures.steps in
    let left = into_iter_items c.next.new.self in
    on_err_from c.from_residual.result
    (mapped_prefix g.D.DigestUpdate.absorbed deref g.K.ContentHash.content c.args.state.now c.loop-member.state c.hash.new.state (into_iter_items c.args.members) c.loop-member.yielded c.loop-member.invariant.taken
    left c.in-Some.member (ap (λ z. c.loop-member.yielded ++ z) (sym step.0) ∙ c.loop-member.invariant.split) c.in_err-hash.ensures.err)

pub loop-member-preserved : goal.loop-member-preserved
loop-member-preserved g c =
    let step = rw c.in-Some.is at c.next.ensures.steps in
    let left = into_iter_items c.next.new.self in
    let split = ap (λ z. c.loop-member.yielded ++ z) (sym step.0) ∙ c.loop-member.invariant.split in
    record {
      can = tt;
      ends = tt;
      split = split_more deref (into_iter_items c.args.members) c.loop-member.yielded left c.in-Some.member split;
      len = omega (arith, c.loop-member.invariant.len, step.1, ap length step.0);
      taken = mapped_absorbed g.D.DigestUpdate.absorbed deref g.K.ContentHash.content c.args.state.now c.loop-member.state c.hash.new.state (into_iter_items c.args.members) c.loop-member.yielded c.loop-member.invariant.taken
          c.in-Some.member c.in_ok-hash.ensures.ok;
      values = mapped_values deref g.K.ContentHash.is_value c.loop-member.yielded c.loop-member.invariant.values c.in-Some.member c.in_ok-hash.ensures.value;
    }

pub returns-clause-ok : goal.returns-clause-ok
returns-clause-ok g c =
    let step = rw c.in-None.is at c.next.ensures.steps in
    mapped_whole g.D.DigestUpdate.absorbed deref g.K.ContentHash.content c.args.state.now c.loop-member.state c.loop-member.state (into_iter_items c.args.members) c.loop-member.yielded c.loop-member.invariant.taken
    (all_yielded (into_iter_items c.args.members) c.loop-member.yielded (into_iter_items c.loop-member.member-iterator) c.loop-member.invariant.split (omega (arith, c.loop-member.invariant.len, step.0)))

pub returns-clause-value : goal.returns-clause-value
returns-clause-value g c =
    let step = rw c.in-None.is at c.next.ensures.steps in
    mapped_all deref g.K.ContentHash.is_value c.loop-member.yielded c.loop-member.invariant.values (into_iter_items c.args.members)
    (all_yielded (into_iter_items c.args.members) c.loop-member.yielded (into_iter_items c.loop-member.member-iterator) c.loop-member.invariant.split (omega (arith, c.loop-member.invariant.len, step.0)))
    (omega arith)

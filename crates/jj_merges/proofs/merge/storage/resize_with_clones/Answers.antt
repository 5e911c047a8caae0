use Rattle.std.proofs.Common.{◌∷◌, [], ap, append-nil, arith, length, length-append, sym}
use Rattle.jj_merges.proofs.ClonePrefixes.{appends_more}
use Rattle.jj_merges.proofs.merge.storage.resize_with_clones.Goals as goal

pub loop-index-init : goal.loop-index-init
loop-index-init g c =
    let room = c.in_ok-reserve.ensures in
    let len = c.len-len.ensures in
    let old = c.args.values.now.ok.0 in (
      ([], sym (append-nil c.reserve.new.self.items), tt),
      omega (arith, ap length room.items, len, old),
      omega (arith, room.ok, room.len, len, old, c.requires),
    )

pub loop-index-preserved : goal.loop-index-preserved
loop-index-preserved g c =
    let now = c.loop-index.invariant in
    let pushed = c.in-Ok-push.ensures in
    let x = c.in-Ok.clone in (
      appends_more g.T.Clone.is_clone c.args.value.now x c.in-Ok.ensures.cases c.reserve.new.self.items c.loop-index.values.items c.push.new.self.items now.0 pushed.items,
      omega (arith, ap length pushed.items, length-append c.loop-index.values.items (x ∷ []), now.1),
      omega (arith, pushed.capacity, now.2),
    )

pub unreachable-requires : goal.unreachable-requires
unreachable-requires g c =
    omega (arith, c.in-Err-push.ensures.full, c.loop-index.invariant.1, c.loop-index.invariant.2, c.loop-index-test.true, c.loop-index.values.ok.0)

pub returns-clause-ok : goal.returns-clause-ok
returns-clause-ok g c = rw (← c.in_ok-reserve.ensures.items) c.loop-index.invariant.0

pub returns-clause-len : goal.returns-clause-len
returns-clause-len g c =
    omega (arith, c.loop-index.invariant.1, c.loop-index-test.false, c.loop-index.auto._index-end, c.requires, c.len-len.ensures, c.args.values.now.ok.0)

use Rattle.std.proofs.Common.{◌≡◌, ◌<◌, [], length, get_or, refl, arith}
use Rattle.jj_diff.specs.Anchors.{lists_of}
use Rattle.jj_diff.proofs.Rows.{length-bytes_of}
use Rattle.jj_diff.proofs.Anchors.{length-lists, list_ref, offsets_at, each_at, each_more}
use Rattle.jj_diff.proofs.diff.anchors.stands_once_in_each.Goals as goal

pub stands_once-requires : goal.stands_once-requires
stands_once-requires g c =
    let lt : c.loop-index.index < length c.args.offsets.now = omega (arith, c.loop-index-test.true, c.requires.len, length-lists c.args.offsets.now, length-bytes_of c.args.row.now) in
    let at : c.deref.result.now ≡ get_or (lists_of c.args.offsets.now) c.loop-index.index [] =
    list_ref c.args.offsets.now c.loop-index.index c.index-offsets-index.result c.deref.result.now lt c.index-offsets-index.is c.deref.ensures.value in
    offsets_at c.args.row.now c.args.offsets.now c.loop-index.index c.deref.result.now c.requires c.loop-index-test.true at

pub returns-then-not-stands_once-clause-not_once : goal.returns-then-not-stands_once-clause-not_once
returns-then-not-stands_once-clause-not_once g c = λ f each.
    let lt : c.loop-index.index < length c.args.offsets.now = omega (arith, c.loop-index-test.true, c.requires.len, length-lists c.args.offsets.now, length-bytes_of c.args.row.now) in
    let at : c.deref.result.now ≡ get_or (lists_of c.args.offsets.now) c.loop-index.index [] =
    list_ref c.args.offsets.now c.loop-index.index c.index-offsets-index.result c.deref.result.now lt c.index-offsets-index.is c.deref.ensures.value in
    c.if-not-stands_once.ensures.not_once f (
    each_at c.args.row.now c.args.offsets.now c.loop-index.index c.deref.result.now g.C.CompareBytes.canonical (g.C.CompareBytes.canonical c.args.token.now) each c.loop-index-test.true at)

pub loop-index-preserved : goal.loop-index-preserved
loop-index-preserved g c =
    let lt : c.loop-index.index < length c.args.offsets.now = omega (arith, c.loop-index-test.true, c.requires.len, length-lists c.args.offsets.now, length-bytes_of c.args.row.now) in
    let at : c.deref.result.now ≡ get_or (lists_of c.args.offsets.now) c.loop-index.index [] =
    list_ref c.args.offsets.now c.loop-index.index c.index-offsets-index.result c.deref.result.now lt c.index-offsets-index.is c.deref.ensures.value in
    each_more c.args.row.now c.args.offsets.now c.loop-index.index c.deref.result.now g.C.CompareBytes.canonical (g.C.CompareBytes.canonical c.args.token.now) at
    (c.if-not-stands_once.ensures.once refl) c.loop-index.invariant

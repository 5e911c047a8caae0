use Rattle.std.proofs.Common.{◌≡◌, ◌<◌, ◌+◌, ℕ, [], length, get_or, arith, ap}
use Rattle.jj_diff.specs.Inputs.{bytes_of}
use Rattle.jj_diff.specs.Anchors.{lists_of, StandsAtBy}
use Rattle.jj_diff.proofs.Rows.{length-bytes_of}
use Rattle.jj_diff.proofs.Anchors.{length-lists, list_ref, offsets_at, each_at, stands_at, length_push, ranges_more}
use Rattle.jj_diff.proofs.diff.anchors.token_ranges.Goals as goal

pub index_of-first-requires-clause-offsets : goal.index_of-first-requires-clause-offsets
index_of-first-requires-clause-offsets g c =
    let lt : c.loop-index.index < length c.args.offsets.now = omega (arith, c.loop-index-test.true, c.requires.row.len, length-lists c.args.offsets.now, length-bytes_of c.args.row.now) in
    let at : c.as_slice-part.result.now ≡ get_or (lists_of c.args.offsets.now) c.loop-index.index [] =
    list_ref c.args.offsets.now c.loop-index.index c.index-offsets-index.result c.as_slice-part.result.now lt c.index-offsets-index.is c.as_slice-part.ensures.value in
    offsets_at c.args.row.now c.args.offsets.now c.loop-index.index c.as_slice-part.result.now c.requires.row c.loop-index-test.true at

pub index_of-first-requires-clause-once : goal.index_of-first-requires-clause-once
index_of-first-requires-clause-once g c =
    let lt : c.loop-index.index < length c.args.offsets.now = omega (arith, c.loop-index-test.true, c.requires.row.len, length-lists c.args.offsets.now, length-bytes_of c.args.row.now) in
    let at : c.as_slice-part.result.now ≡ get_or (lists_of c.args.offsets.now) c.loop-index.index [] =
    list_ref c.args.offsets.now c.loop-index.index c.index-offsets-index.result c.as_slice-part.result.now lt c.index-offsets-index.is c.as_slice-part.ensures.value in
    each_at c.args.row.now c.args.offsets.now c.loop-index.index c.as_slice-part.result.now g.C.CompareBytes.canonical (g.C.CompareBytes.canonical c.args.token.now) c.requires.once c.loop-index-test.true at

pub loop-index-preserved : goal.loop-index-preserved
loop-index-preserved g c =
    let lt : c.loop-index.index < length c.args.offsets.now = omega (arith, c.loop-index-test.true, c.requires.row.len, length-lists c.args.offsets.now, length-bytes_of c.args.row.now) in
    let at : c.as_slice-part.result.now ≡ get_or (lists_of c.args.offsets.now) c.loop-index.index [] =
    list_ref c.args.offsets.now c.loop-index.index c.index-offsets-index.result c.as_slice-part.result.now lt c.index-offsets-index.is c.as_slice-part.ensures.value in
    let k : ℕ = c.index_of-first.result in
    let here : StandsAtBy g.C.CompareBytes.canonical (get_or (bytes_of c.args.row.now) c.loop-index.index []) (get_or (lists_of c.args.offsets.now) c.loop-index.index []) (g.C.CompareBytes.canonical c.args.token.now) k =
    stands_at c.args.row.now c.args.offsets.now c.loop-index.index c.as_slice-part.result.now g.C.CompareBytes.canonical k (g.C.CompareBytes.canonical c.args.token.now) at c.index_of-first.ensures.within c.index_of-first.ensures.at in
    record {
      starts_len = omega (arith, ap length c.in_ok-push.ensures.items, c.loop-index.invariant.starts_len, length_push c.loop-index.starts.items (get_or c.as_slice-part.result.now k 0));
      ends_len = omega (arith, ap length c.in_ok-push-2.ensures.items, c.loop-index.invariant.ends_len, length_push c.loop-index.ends.items (get_or c.as_slice-part.result.now (k + 1) 0));
      tokens = ranges_more g.C.CompareBytes.canonical (bytes_of c.args.row.now) (lists_of c.args.offsets.now) (g.C.CompareBytes.canonical c.args.token.now) c.loop-index.starts.items c.loop-index.ends.items
          c.push.new.self.items c.push-in-loop-index.new.self.items (get_or c.as_slice-part.result.now k 0) (get_or c.as_slice-part.result.now (k + 1) 0)
          c.loop-index.index k c.in_ok-push.ensures.items c.in_ok-push-2.ensures.items c.loop-index.invariant.starts_len c.loop-index.invariant.ends_len
          c.loop-index.invariant.tokens here (ap (λ xs. get_or xs k 0) at) (ap (λ xs. get_or xs (k + 1) 0) at);
    }

use Rattle.std.proofs.Common.{◌≡◌, ◌<◌, ◌+◌, length, ap, arith, subst, sym}
use Rattle.jj_diff.specs.Inputs.{bytes_of}
use Rattle.jj_diff.specs.Anchors.{lists_of, AreRowOffsets, StandsOnceInEach}
use Rattle.jj_diff.proofs.Rows.{length-bytes_of}
use Rattle.jj_diff.proofs.Anchors.{length-lists, row_offsets, offsets_at, no_token_read, anchor_ranges}
use Rattle.jj_diff.proofs.diff.anchors.find_token_ranges.Goals as goal

pub offsets_of-first-requires : goal.offsets_of-first-requires
offsets_of-first-requires g c =
    omega (arith, c.requires.some, c.requires.tokens.len, length-lists c.args.offsets.now, length-bytes_of c.args.row.now)

pub find_token-index-requires-clause-row : goal.find_token-index-requires-clause-row
find_token-index-requires-clause-row g c =
    row_offsets (g.T.Tokenizer.is_end c.args.tokenizer.now) (bytes_of c.args.row.now) (lists_of c.args.offsets.now) c.requires.tokens

pub find_token-index-requires-clause-first : goal.find_token-index-requires-clause-first
find_token-index-requires-clause-first g c =
    let are : AreRowOffsets (bytes_of c.args.row.now) (lists_of c.args.offsets.now) =
    row_offsets (g.T.Tokenizer.is_end c.args.tokenizer.now) (bytes_of c.args.row.now) (lists_of c.args.offsets.now) c.requires.tokens in
    offsets_at c.args.row.now c.args.offsets.now 0 c.offsets_of-first.result.now are c.requires.some c.offsets_of-first.ensures

pub returns-then-index-first-clause-none : goal.returns-then-index-first-clause-none
returns-then-index-first-clause-none g c = λ e.
    let last : c.find_token-index.result + 1 ≡ length c.offsets_of-first.result.now = omega (arith, c.if-index-first.true) in
    no_token_read g.C.CompareBytes.canonical (g.T.Tokenizer.is_end c.args.tokenizer.now) c.args.row.now c.args.offsets.now c.offsets_of-first.result.now c.requires.tokens c.offsets_of-first.ensures
    (c.find_token-index.ensures.none last)

pub token_at-token-requires-clause-offsets : goal.token_at-token-requires-clause-offsets
token_at-token-requires-clause-offsets g c =
    let are : AreRowOffsets (bytes_of c.args.row.now) (lists_of c.args.offsets.now) =
    row_offsets (g.T.Tokenizer.is_end c.args.tokenizer.now) (bytes_of c.args.row.now) (lists_of c.args.offsets.now) c.requires.tokens in
    offsets_at c.args.row.now c.args.offsets.now 0 c.offsets_of-first.result.now are c.requires.some c.offsets_of-first.ensures

pub token_ranges-requires-clause-row : goal.token_ranges-requires-clause-row
token_ranges-requires-clause-row g c =
    row_offsets (g.T.Tokenizer.is_end c.args.tokenizer.now) (bytes_of c.args.row.now) (lists_of c.args.offsets.now) c.requires.tokens

pub token_ranges-requires-clause-once : goal.token_ranges-requires-clause-once
token_ranges-requires-clause-once g c =
    let lt : c.find_token-index.result + 1 < length c.offsets_of-first.result.now =
    omega (arith, c.find_token-index.ensures.within, c.if-index-first.false) in
    subst (StandsOnceInEach g.C.CompareBytes.canonical (bytes_of c.args.row.now) (lists_of c.args.offsets.now)) (sym (ap g.C.CompareBytes.canonical c.token_at-token.ensures))
    (c.find_token-index.ensures.found lt)

pub returns-clause-anchor : goal.returns-clause-anchor
returns-clause-anchor g c =
    let some : 0 < length (bytes_of c.args.row.now) = omega (arith, c.requires.some, length-bytes_of c.args.row.now) in
    anchor_ranges g.C.CompareBytes.canonical (g.T.Tokenizer.is_end c.args.tokenizer.now) (bytes_of c.args.row.now) (lists_of c.args.offsets.now) (g.C.CompareBytes.canonical c.token_at-token.result.now)
    c.in_ok-region.region.starts.items c.in_ok-region.region.ends.items some c.requires.tokens c.in_ok-region.ensures

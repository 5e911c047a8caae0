use Rattle.std.proofs.Common.{List, inl, inr}
use Rattle.std.specs.List.Sorted.{IsStrictlySortedBy}
use Rattle.std.specs.Map.{keys_of}
use Rattle.std.proofs.lemmas.Result.{err_from_is_err_and}
use Rattle.jj_content.specs.Content.{entry_content}
use Rattle.jj_decode.specs.Decoding.{AreBoth}
use Rattle.jj_decode.specs.NonemptyProofs.{both_nonempty}
use Rattle.jj_decode.proofs.ListItems.{counted}
use Rattle.jj_decode.proofs.AscendingItems.{ordered_count_error, ordered_decoded, ordered_list_error}
use Rattle.jj_decode.proofs.maps.BTreeMapReadContent.read.Goals as goal

pub returns-in_err-count-clause-malformed : goal.returns-in_err-count-clause-malformed
returns-in_err-count-clause-malformed g c =
    let p = err_from_is_err_and c.from_residual.result c.from_residual.ensures.1 in
    let r = g.met.K.ReadContent.contents in
    let Entry : Type 0 = g.row.K.Denot × g.row.V.Denot in
    rw (p.1, p.2) (ordered_count_error
    (λ (es : List Entry). IsStrictlySortedBy g.K.Ord.cmp (keys_of es))
    (AreBoth g.K.ContentHash.is_value g.V.ContentHash.is_value)
    (entry_content g.K.ContentHash.content g.V.ContentHash.content) c.args.bytes.now c.args.start
    c.in_err-count.field-0.0
    (both_nonempty g.K.ContentHash.is_value g.K.ContentHash.content g.V.ContentHash.is_value
    g.V.ContentHash.content (λ x value. r.nonempty (g.K.ContentHash.content x) (r.covers x value)))
    c.in_err-count.ensures.malformed)

pub returns-in_err-map-clause-malformed : goal.returns-in_err-map-clause-malformed
returns-in_err-map-clause-malformed g c =
    let p = err_from_is_err_and c.from_residual-in_err-map.result
    c.from_residual-in_err-map.ensures.1 in
    let Entry : Type 0 = g.row.K.Denot × g.row.V.Denot in
    rw (p.1, p.2) (ordered_list_error
    (λ (es : List Entry). IsStrictlySortedBy g.K.Ord.cmp (keys_of es))
    (AreBoth g.K.ContentHash.is_value g.V.ContentHash.is_value)
    (entry_content g.K.ContentHash.content g.V.ContentHash.content) c.args.bytes.now c.args.start
    c.in_ok-count.count c.in_ok-count.mid c.in_ok-count.ensures.decoded
    c.in_err-map.field-0.0 c.requires c.in_err-map.ensures.malformed)

pub returns-clause-decoded : goal.returns-clause-decoded
returns-clause-decoded g c =
    let Entry : Type 0 = g.row.K.Denot × g.row.V.Denot in
    let s = ordered_decoded (λ (es : List Entry). IsStrictlySortedBy g.K.Ord.cmp (keys_of es))
    (AreBoth g.K.ContentHash.is_value g.V.ContentHash.is_value)
    (entry_content g.K.ContentHash.content g.V.ContentHash.content) c.args.bytes.now c.args.start
    c.in_ok-count.count c.in_ok-count.mid c.in_ok-count.ensures.decoded c.in_ok-map.map.entries
    c.in_ok-map.end c.in_ok-map.ensures.decoded in
    record { valid = s.valid; split = s.split; within = s.within }

pub returns-in_err-count-clause-error : goal.returns-in_err-count-clause-error
returns-in_err-count-clause-error g c =
    let p = err_from_is_err_and c.from_residual.result c.from_residual.ensures.1 in
    rw (p.1, p.2) (inl c.in_err-count.ensures.error)

pub returns-in_err-map-clause-error : goal.returns-in_err-map-clause-error
returns-in_err-map-clause-error g c =
    let p = err_from_is_err_and c.from_residual-in_err-map.result
    c.from_residual-in_err-map.ensures.1 in
    rw (p.1, p.2) (inr (
      c.in_ok-count.count,
      c.in_ok-count.mid,
      counted c.in_ok-count.ensures.decoded c.in_ok-count.ensures.bounded,
      c.in_err-map.ensures.error,
    ))

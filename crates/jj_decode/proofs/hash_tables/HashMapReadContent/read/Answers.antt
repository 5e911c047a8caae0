use Rattle.std.proofs.Common.{inl, inr, ◌++◌, List, drop, subst, sym, ap, ◌∙◌}
use Rattle.std.specs.Ordering.{on}
use Rattle.std.proofs.lemmas.Result.{err_from_is_err_and}
use Rattle.jj_content.specs.Content.{AreValues, list_content, entry_content}
use Rattle.jj_content.specs.HashTableProofs.{values_from_sorted}
use Rattle.jj_decode.specs.Decoding.{AreBoth}
use Rattle.jj_decode.specs.Contents.{MapContents}
use Rattle.jj_decode.proofs.ContentAt.{memory_error, is_memory}
use Rattle.jj_decode.proofs.ListItems.{counted_list}
use Rattle.jj_decode.specs.NonemptyProofs.{both_nonempty}
use Rattle.jj_decode.proofs.hash_tables.HashMapReadContent.read.Goals as goal

pub returns-in_err-table-clause-malformed : goal.returns-in_err-table-clause-malformed
returns-in_err-table-clause-malformed g c =
    let p = err_from_is_err_and c.from_residual-in_err-table.result
    c.from_residual-in_err-table.ensures.1 in
    rw (p.1, p.2) (memory_error (MapContents g.K.Ord.cmp g.K.ContentHash.is_value
    g.K.ContentHash.content g.V.ContentHash.is_value g.V.ContentHash.content) (λ b. b)
    c.args.bytes.now c.args.start c.in_err-table.field-0.0 c.in_err-table.ensures.err)

pub returns-clause-decoded : goal.returns-clause-decoded
returns-clause-decoded g c =
    let K : Type 0 = g.row.K.Denot in
    let V : Type 0 = g.row.V.Denot in
    let table = c.in_ok-table.table in
    let s = c.in_ok-map.ensures.decoded in
    let sorted = sym c.in_ok-table.ensures.entries in
    let is_value : K × V → Type 0 =
    AreBoth g.K.ContentHash.is_value g.V.ContentHash.is_value in
    record {
      valid = (
        c.in_ok-table.ensures.unique,
        values_from_sorted (on (λ (e : K × V). e.0) g.K.Ord.cmp) is_value table.entries
            (subst (AreValues is_value) sorted s.valid.1),
      );
      split = s.split ∙ ap (λ (es : List (K × V)).
          list_content (entry_content g.K.ContentHash.content g.V.ContentHash.content) es
          ++ drop c.in_ok-map.end c.args.bytes.now) sorted;
      within = s.within;
    }

pub returns-in_err-table-clause-error : goal.returns-in_err-table-clause-error
returns-in_err-table-clause-error g c =
    let p = err_from_is_err_and c.from_residual-in_err-table.result
    c.from_residual-in_err-table.ensures.1 in
    let r = g.met.K.ReadContent.contents in
    let s = c.in_ok-map.ensures.decoded in
    let counted = counted_list (AreBoth g.K.ContentHash.is_value g.V.ContentHash.is_value)
    (entry_content g.K.ContentHash.content g.V.ContentHash.content)
    (both_nonempty g.K.ContentHash.is_value g.K.ContentHash.content g.V.ContentHash.is_value
    g.V.ContentHash.content (λ x value. r.nonempty (g.K.ContentHash.content x) (r.covers x value)))
    c.args.bytes.now c.args.start c.in_ok-map.end c.in_ok-map.map.entries c.requires
    (record { valid = s.valid.1; split = s.split; within = s.within }) in
    rw (p.1, p.2) (inr (
      counted.0,
      counted.1,
      counted.2,
      inl (is_memory c.in_err-table.field-0.0 c.in_err-table.ensures.err),
    ))
